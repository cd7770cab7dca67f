use Rattle.std.proofs.Common.{refl, sym, ◌∙◌}
use Rattle.asm_reader.proofs.Writers.{unset-here, unset-further, unset-nowhere}
use Rattle.asm_reader.proofs.unset.first_unset.Goals as goal

pub loop-place-init : goal.loop-place-init
loop-place-init c = refl

pub returns-then-reads_unset : goal.returns-then-reads_unset
returns-then-reads_unset c =
    sym (unset-here c.args.items.now c.loop-place.place c.loop-place-test.true (sym c.reads_unset.ensures ∙ c.if-reads_unset.true)) ∙ c.loop-place.invariant

pub loop-place-preserved : goal.loop-place-preserved
loop-place-preserved c =
    sym (unset-further c.args.items.now c.loop-place.place c.loop-place-test.true (sym c.reads_unset.ensures ∙ c.if-reads_unset.false)) ∙ c.loop-place.invariant

pub returns : goal.returns
returns c = sym (unset-nowhere c.args.items.now c.loop-place.place c.loop-place-test.false) ∙ c.loop-place.invariant
