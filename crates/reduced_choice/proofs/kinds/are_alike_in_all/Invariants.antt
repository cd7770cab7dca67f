use Rattle.std.proofs.Common.{◌≡◌}
use Rattle.sl_model.specs.Register.{same_bool}
use Rattle.sl_model.specs.RegSets.{set_has}
use Rattle.reduced_choice.proofs.Classes.{all_from}
use Rattle.reduced_choice.proofs.kinds.are_alike_in_all.Given as goal

abbrev pub invariant-loop-item : goal.invariant-loop-item
invariant-loop-item l =
    all_from (λ set. same_bool (set_has set l.a) (set_has set l.b)) l.item l.problem.graph.infos
    ≡ all_from (λ set. same_bool (set_has set l.a) (set_has set l.b)) 0 l.problem.graph.infos
