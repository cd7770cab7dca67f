use Rattle.std.proofs.Common.{ap, sym, ◌∙◌}
use Rattle.std.proofs.lemmas.List.{take_rest}
use Rattle.macro_expand.specs.Filled.{begins_twice}
use Rattle.macro_expand.proofs.KeptLemmas.{kept-more}
use Rattle.macro_expand.proofs.filled.kept_length.Goals as goal

pub loop-place-preserved : goal.loop-place-preserved
loop-place-preserved c =
    kept-more c.args.text.now _ c.loop-place.place 0 c.loop-place-test.true
    (ap begins_twice (sym (take_rest c.args.text.now c.loop-place.place)) ∙ sym c.begins_twice.ensures ∙ c.if-begins_twice.false) c.loop-place.invariant
