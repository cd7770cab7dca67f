use Rattle.std.proofs.Common.{◌∷◌, map, sym, ◌∙◌}
use Rattle.sl_model.specs.RegSets.{bit_of}
use Rattle.sl_model.specs.Body.{chosen}
use Rattle.reduced_choice.proofs.Orders.{lower-head, lower-tail}
use Rattle.reduced_choice.proofs.order.is_lower.Goals as goal

pub returns-then-a-b : goal.returns-then-a-b
returns-then-a-b c =
    sym (lower-head c.args.ends c.args.a.now.item c.args.b.now.item (c.args.a.now.unit ∷ map (λ r. bit_of r.bank r.number) (chosen c.args.a.now)) (c.args.b.now.unit ∷ map (λ r. bit_of r.bank r.number) (chosen c.args.b.now)) c.if-a-b.true)

pub returns-then-a-b-2 : goal.returns-then-a-b-2
returns-then-a-b-2 c =
    sym (lower-tail c.args.ends c.args.a.now.item c.args.b.now.item (c.args.a.now.unit ∷ map (λ r. bit_of r.bank r.number) (chosen c.args.a.now)) (c.args.b.now.unit ∷ map (λ r. bit_of r.bank r.number) (chosen c.args.b.now)) c.if-a-b.false
    ∙ lower-head c.args.ends c.args.a.now.unit c.args.b.now.unit (map (λ r. bit_of r.bank r.number) (chosen c.args.a.now)) (map (λ r. bit_of r.bank r.number) (chosen c.args.b.now)) c.if-a-b-2.true)

pub returns : goal.returns
returns c =
    c.are_lower.ensures
    ∙ sym (lower-tail c.args.ends c.args.a.now.item c.args.b.now.item (c.args.a.now.unit ∷ map (λ r. bit_of r.bank r.number) (chosen c.args.a.now)) (c.args.b.now.unit ∷ map (λ r. bit_of r.bank r.number) (chosen c.args.b.now)) c.if-a-b.false
    ∙ lower-tail c.args.ends c.args.a.now.unit c.args.b.now.unit (map (λ r. bit_of r.bank r.number) (chosen c.args.a.now)) (map (λ r. bit_of r.bank r.number) (chosen c.args.b.now)) c.if-a-b-2.false)
