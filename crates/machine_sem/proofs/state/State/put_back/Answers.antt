use Rattle.std.proofs.Common.{◌≡◌, ℕ, List, Option, Some, None, IsSome, sym, ap, subst, ◌∙◌}
use Rattle.std.proofs.lemmas.Bool.{true≢false}
use Rattle.std.specs.Ordering.{nat_cmp}
use Rattle.std.specs.Cmp.Lexicographic.{slice_cmp, nat_list_cmp_total}
use Rattle.std.specs.BTreeMap.{is_at}
use Rattle.std.specs.Map.{lookup}
use Rattle.std.specs.FinMap.{FinMap, get, insert, remove, from_entries}
use Rattle.sl_model.specs.State.{State, reg_key}
use Rattle.machine_sem.specs.StateCode.{restored}
use Rattle.machine_sem.proofs.Maps.{get_kept, one_set, one_removed, keys_differ}
use Rattle.machine_sem.proofs.state.State.put_back.Goals as goal

with_regs : FinMap nat_cmp ℕ → FinMap (slice_cmp nat_cmp) ℕ → State
with_regs memory m = record { regs = m; memory = memory }

back : List ℕ → Option ℕ → State → State
back key before s = record { regs = restored s.regs key before; memory = s.memory }

pub returns-in_default : goal.returns-in_default
unfolding restored with_regs back
returns-in_default c =
    ap (with_regs (from_entries c.self.inside.memory.entries))
    (one_removed nat_list_cmp_total keys_differ c.self.inside.regs.entries c.remove.new.self.entries c.key.result c.remove.ensures.updates.0
    ∙ ap (λ k. remove (from_entries c.self.inside.regs.entries) k) c.key.ensures)
    ∙ ap (back (reg_key c.args.reg) None) c.self.view_is
    ∙ ap (λ b. back (reg_key c.args.reg) b c.args.self.now) (sym c.in_default.is)

pub unreachable-requires : goal.unreachable-requires
unreachable-requires c =
    let absent : get c.args.self.now.regs (reg_key c.args.reg) ≡ None =
    ap (λ s. get s.regs (reg_key c.args.reg)) (sym c.self.view_is)
    ∙ get_kept nat_list_cmp_total keys_differ c.self.inside.regs.entries (reg_key c.args.reg)
    ∙ ap (λ k. lookup (is_at (slice_cmp nat_cmp k)) c.self.inside.regs.entries) (sym c.key-2.ensures)
    ∙ c.in_default-insert.ensures.absent in
    true≢false (sym (subst IsSome absent c.requires))

pub returns : goal.returns
unfolding restored with_regs back
returns c =
    ap (with_regs (from_entries c.self.inside.memory.entries))
    (one_set nat_list_cmp_total keys_differ c.self.inside.regs.entries c.insert.new.self.entries c.key-2.result c.in-Some.earlier c.in-Ok.ensures.updates.0
    ∙ ap (λ k. insert (from_entries c.self.inside.regs.entries) k c.in-Some.earlier) c.key-2.ensures)
    ∙ ap (back (reg_key c.args.reg) (Some c.in-Some.earlier)) c.self.view_is
    ∙ ap (λ b. back (reg_key c.args.reg) b c.args.self.now) (sym c.in-Some.is)
