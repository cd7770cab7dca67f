use Rattle.std.proofs.Common.{ℕ, List, [], sym, ap, subst, ◌∙◌}
use Rattle.std.specs.FinMap.{from_entries}
use Rattle.sl_model.specs.State.{State}
use Rattle.machine_sem.specs.Fits.{Fits}
use Rattle.machine_sem.proofs.Fitting.{new_fits}
use Rattle.machine_sem.proofs.state.State.new.Goals as goal

pub returns-clause-fits : goal.returns-clause-fits
returns-clause-fits c = λ isa lawful.
    let kept : List (List ℕ × ℕ) → List (ℕ × ℕ) → State = λ regs memory. record { regs = from_entries regs; memory = from_entries memory } in
    subst (Fits isa) (sym (ap (λ regs. kept regs c.new-2.result.entries) c.new.ensures.empty ∙ ap (kept []) c.new-2.ensures.empty)) (new_fits isa lawful)
