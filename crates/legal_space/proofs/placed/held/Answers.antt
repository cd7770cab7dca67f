use Rattle.std.proofs.Common.{reverse, ap, ◌∙◌}
use Rattle.sl_model.specs.declared.schedule.Source.TheVariants.{Entry}
use Rattle.sl_model.specs.Source.{output_or}
use Rattle.legal_space.proofs.PlacedLemmas.{held-nowhere, held-last}
use Rattle.legal_space.proofs.placed.held.Goals as goal

pub returns-in_default : goal.returns-in_default
returns-in_default c = held-nowhere c.args.reg (reverse c.args.done.now) c.in_default.ensures

pub returns-in-Some-place_of : goal.returns-in-Some-place_of
returns-in-Some-place_of c =
    ap (λ p. output_or c.in-Some.choice.now.item p (Entry c.args.reg)) c.in-Some-place_of.ensures
    ∙ held-last c.args.reg (reverse c.args.done.now) c.in-Some.choice.now c.in-Some.ensures

pub returns-in-None : goal.returns-in-None
returns-in-None c =
    ap (λ p. output_or c.in-Some.choice.now.item p (Entry c.args.reg)) c.in-None.ensures
    ∙ held-last c.args.reg (reverse c.args.done.now) c.in-Some.choice.now c.in-Some.ensures
