use Rattle.std.proofs.Common.{◌≡◌, ◌∙◌, ap, ℕ, ◌-◌, ◌*◌, ◌≤◌, length, slice_index, arith}
use Rattle.std.proofs.lemmas.Bool.{not-true, not-false}
use Rattle.sl_isa.specs.Arch.{padded_values}
use Rattle.lane_ops.specs.Lanes.{lanes_of}
use Rattle.lane_ops.proofs.ForCallers.{length-lanes_of}
use Rattle.form_isa.specs.Access.{width_bytes}
use Rattle.form_isa.proofs.Stored.{none_put, one_put, two_put, zeros-count, behind-count}
use Rattle.form_isa.proofs.access.transfer_bytes.Goals as goal

pub returns-then-not-transfer : goal.returns-then-not-transfer
unfolding padded_values
returns-then-not-transfer c = none_put c.args.transfer c.args.ins.now (not-true c.args.transfer.store c.if-not-transfer.true)

pub returns-then-transfer : goal.returns-then-transfer
unfolding padded_values
returns-then-transfer c =
    let n : ℕ = c.from-count.result in
    let is : n ≡ width_bytes c.args.transfer.width = cc in
    let few : n ≤ 16 = omega (arith, c.width_bytes.ensures.few, c.from-count.ensures) in
    let again : 2 * n - n ≡ n = omega arith in
    let first : c.put_bytes.new.places ≡ lanes_of 8 n (slice_index c.args.ins.now 0) =
    c.put_bytes.ensures ∙ (ap (λ m. lanes_of 8 m c.operand.result) (zeros-count n 0 32 (omega (arith, few))) ∙ ap (lanes_of 8 n) c.operand.ensures) in
    let count : length c.put_bytes.new.places ≡ n = ap length first ∙ length-lanes_of 8 n (slice_index c.args.ins.now 0) in
    let second : c.put_bytes-then-transfer.new.places ≡ lanes_of 8 n (slice_index c.args.ins.now 1) =
    c.put_bytes-then-transfer.ensures
    ∙ (ap (λ m. lanes_of 8 m c.operand-then-transfer.result)
    (behind-count (2 * n - n) n c.put_bytes.new.places count (omega (arith, few)) ∙ again)
    ∙ ap (lanes_of 8 n) c.operand-then-transfer.ensures) in
    two_put c.args.transfer c.args.ins.now c.put_bytes.new.places c.put_bytes-then-transfer.new.places n (2 * n - n)
    (not-false c.args.transfer.store c.if-not-transfer.false) c.if-transfer.true is few again first second

pub returns-else-transfer : goal.returns-else-transfer
unfolding padded_values
returns-else-transfer c =
    let n : ℕ = c.from-count.result in
    let is : n ≡ width_bytes c.args.transfer.width = cc in
    let few : n ≤ 16 = omega (arith, c.width_bytes.ensures.few, c.from-count.ensures) in
    let first : c.put_bytes.new.places ≡ lanes_of 8 n (slice_index c.args.ins.now 0) =
    c.put_bytes.ensures ∙ (ap (λ m. lanes_of 8 m c.operand.result) (zeros-count n 0 32 (omega (arith, few))) ∙ ap (lanes_of 8 n) c.operand.ensures) in
    one_put c.args.transfer c.args.ins.now c.put_bytes.new.places n
    (not-false c.args.transfer.store c.if-not-transfer.false) c.if-transfer.false is few first
