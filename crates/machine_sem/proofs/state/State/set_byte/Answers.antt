use Rattle.std.proofs.Common.{ℕ, rules, sym, ap, subst, ◌∙◌}
use Rattle.std.specs.Ordering.{nat_cmp}
use Rattle.std.specs.Cmp.{nat_cmp_total}
use Rattle.std.specs.FinMap.{FinMap, nat_cmp-IsAntisymmetric, from_entries}
use Rattle.sl_model.specs.State.{State, put}
use Rattle.machine_sem.specs.Fits.{Fits}
use Rattle.machine_sem.proofs.Fitting.{put_fits}
use Rattle.machine_sem.proofs.Maps.{one_set}
use Rattle.machine_sem.proofs.state.State.set_byte.Goals as goal

pub returns-clause-ok : goal.returns-clause-ok
unfolding put
returns-clause-ok c =
    let with_memory : FinMap nat_cmp ℕ → State = λ m. record { regs = from_entries c.self.inside.regs.entries; memory = m } in
    let put_in : State → State = λ s. record { regs = s.regs; memory = put c.args.address c.args.value s.memory } in
    ap with_memory (one_set nat_cmp_total nat_cmp-IsAntisymmetric c.self.inside.memory.entries c.insert.new.self.entries c.args.address c.args.value c.in-Ok.ensures.updates.0)
    ∙ ap put_in c.self.view_is

pub returns-clause-fits : goal.returns-clause-fits
returns-clause-fits c = λ isa lawful within fits. subst (Fits isa) (sym (returns-clause-ok c)) (put_fits isa lawful c.args.address c.args.value c.args.self.now within (search rules) fits)
