use Rattle.std.proofs.Common.{◌≡◌, ◌||◌, not, drop}
use Rattle.std.specs.List.{list_all}
use Rattle.sl_model.specs.declared.schedule.Source.TheVariants.{Item}
use Rattle.sl_model.specs.Body.{same_source}
use Rattle.sl_model.specs.RegSets.{set_has}
use Rattle.sl_model.specs.Legal.{operand_classes}
use Rattle.legal_space.proofs.outputs.suits_readers.Given as goal

abbrev pub invariant-loop-reader : goal.invariant-loop-reader
invariant-loop-reader l =
    list_all (λ p. list_all (λ x. not (same_source x.0 (Item l.item l.place)) || set_has x.1 l.reg) (operand_classes l.problem p)) (drop l.reader-index l.order)
    ≡ list_all (λ p. list_all (λ x. not (same_source x.0 (Item l.item l.place)) || set_has x.1 l.reg) (operand_classes l.problem p)) l.order
