use Rattle.std.proofs.Common.{◌≡◌, ◌∙◌, sym, ap, ◌≤◌, ◌+◌, ◌*◌, ◌%◌, ◌^◌, arith}
use Rattle.std.proofs.Math.Nat.{mod-add-mod}
use Rattle.lane_ops.specs.Vector.{shift_value}
use Rattle.lane_ops.proofs.Lanes.{low_low}
use Rattle.lane_ops.proofs.shifts.shift_value.Goals as goal

pub returns-in-Shl : goal.returns-in-Shl
unfolding shift_value
returns-in-Shl c =
    let h : c.args.cut.bits ≤ 128 = omega arith in
    c.lowest.ensures.value ∙ (ap (λ n. n % 2 ^ c.args.cut.bits) c.shift_left.ensures ∙ (low_low (c.args.n * 2 ^ c.args.by) c.args.cut.bits 128 h
    ∙ ap (λ op. shift_value op c.args.cut.bits c.args.by c.args.d c.args.n % 2 ^ c.args.cut.bits) (sym c.in-Shl.is)))

pub returns-in-Sli : goal.returns-in-Sli
unfolding shift_value
returns-in-Sli c =
    let h : c.args.cut.bits ≤ 128 = omega arith in
    let low = low_low (c.args.n * 2 ^ c.args.by) c.args.cut.bits 128 h in
    let shifted : c.lowest-in-Sli.result ≡ c.args.n * 2 ^ c.args.by % 2 ^ c.args.cut.bits = cc in
    c.lowest-in-Sli-2.ensures.value
    ∙ (ap (λ n. (n + c.low_bits.result) % 2 ^ c.args.cut.bits) shifted
    ∙ (ap (λ n. (c.args.n * 2 ^ c.args.by % 2 ^ c.args.cut.bits + n) % 2 ^ c.args.cut.bits) c.low_bits.ensures.value
    ∙ (mod-add-mod (c.args.n * 2 ^ c.args.by) (2 ^ c.args.cut.bits) (c.args.d % 2 ^ c.args.by)
    ∙ ap (λ op. shift_value op c.args.cut.bits c.args.by c.args.d c.args.n % 2 ^ c.args.cut.bits) (sym c.in-Sli.is))))
