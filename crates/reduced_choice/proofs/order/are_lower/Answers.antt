use Rattle.std.proofs.Common.{rules, ◌≡◌, ℕ, ◌≤◌, length, nat_lt, sym, ◌∙◌, arith}
use Rattle.std.specs.List.{filter_map}
use Rattle.sl_model.specs.declared.register.Reg.{Reg}
use Rattle.sl_model.specs.RegSets.{bit_of}
use Rattle.sl_laws.proofs.Elements.{length-filter_map}
use Rattle.reduced_choice.proofs.Orders.{lower-past, lower-ended, lower-differ, lower-same, lower-behind}
use Rattle.reduced_choice.proofs.order.are_lower.Goals as goal

-- the bit by which registers are ordered
abbrev key : Reg → ℕ
key r = bit_of r.bank r.number

pub returns-in_default : goal.returns-in_default
returns-in_default c =
    sym (sym c.loop-place.invariant ∙ lower-past key c.args.ends c.loop-place.place (filter_map (λ r. r) c.args.a) (filter_map (λ r. r) c.args.b) (sym c.in_default.ensures))

pub returns-in_default-reg_at : goal.returns-in_default-reg_at
returns-in_default-reg_at c =
    sym (sym c.loop-place.invariant ∙ lower-ended key c.args.ends c.loop-place.place (filter_map (λ r. r) c.args.a) (filter_map (λ r. r) c.args.b) c.in-Some.other (sym c.in_default-reg_at.ensures) (sym c.in-Some.ensures))

pub returns-then-bit_of : goal.returns-then-bit_of
returns-then-bit_of c =
    (λ i. nat_lt (c.bit_of-then-bit_of.ensures i) (c.bit_of-then-bit_of-2.ensures i))
    ∙ sym (sym c.loop-place.invariant ∙ lower-differ key c.args.ends c.loop-place.place (filter_map (λ r. r) c.args.a) (filter_map (λ r. r) c.args.b) c.in-Some-reg_at.reg c.in-Some.other
    (sym c.in-Some-reg_at.ensures) (sym c.in-Some.ensures) (λ same. c.if-bit_of.true (c.bit_of.ensures ∙ same ∙ sym c.bit_of-in-loop-place.ensures)))

pub loop-place-preserved : goal.loop-place-preserved
loop-place-preserved c =
    sym (lower-same key c.args.ends c.loop-place.place (filter_map (λ r. r) c.args.a) (filter_map (λ r. r) c.args.b) c.in-Some-reg_at.reg c.in-Some.other
    (sym c.in-Some-reg_at.ensures) (sym c.in-Some.ensures) (sym c.bit_of.ensures ∙ c.if-bit_of.false ∙ c.bit_of-in-loop-place.ensures)) ∙ c.loop-place.invariant

pub returns : goal.returns
returns c =
    let left : length c.args.a ≡ 3 = search rules in
    let right : length c.args.b ≡ 3 = search rules in
    let few_left : length (filter_map (λ r. r) c.args.a) ≤ length c.args.a = length-filter_map (λ r. r) c.args.a in
    let few_right : length (filter_map (λ r. r) c.args.b) ≤ length c.args.b = length-filter_map (λ r. r) c.args.b in
    let all : 3 ≤ c.loop-place.place = c.loop-place-test.false in
    sym (sym c.loop-place.invariant ∙ lower-behind key c.args.ends c.loop-place.place (filter_map (λ r. r) c.args.a) (filter_map (λ r. r) c.args.b) (omega arith) (omega arith))
