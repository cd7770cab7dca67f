use Rattle.std.proofs.Common.{ℕ, sym, ap, subst, ◌∙◌}
use Rattle.std.specs.Ordering.{nat_cmp}
use Rattle.std.specs.Cmp.Lexicographic.{slice_cmp, nat_list_cmp_total}
use Rattle.std.specs.FinMap.{FinMap, insert, from_entries}
use Rattle.sl_model.specs.State.{State, write}
use Rattle.machine_sem.specs.Fits.{Fits}
use Rattle.machine_sem.proofs.Fitting.{write_fits}
use Rattle.machine_sem.proofs.Maps.{one_set, keys_differ}
use Rattle.machine_sem.proofs.state.State.set_reg.Goals as goal

pub returns-clause-ok : goal.returns-clause-ok
unfolding write
returns-clause-ok c =
    let with_regs : FinMap (slice_cmp nat_cmp) ℕ → State = λ m. record { regs = m; memory = from_entries c.self.inside.memory.entries } in
    ap with_regs (one_set nat_list_cmp_total keys_differ c.self.inside.regs.entries c.insert.new.self.entries c.key.result c.args.value c.in-Ok.ensures.updates.0
    ∙ ap (λ k. insert (from_entries c.self.inside.regs.entries) k c.args.value) c.key.ensures)
    ∙ ap (write c.args.reg c.args.value) c.self.view_is

pub returns-clause-fits : goal.returns-clause-fits
returns-clause-fits c = λ isa lawful small fits. subst (Fits isa) (sym (returns-clause-ok c)) (write_fits isa lawful c.args.reg c.args.value c.args.self.now small fits)
