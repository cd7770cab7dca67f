use Rattle.std.proofs.Common.{◌≡◌, ℕ, Option, Some, None, IsSome, sym, ap, subst, ◌∙◌}
use Rattle.std.proofs.lemmas.Bool.{true≢false}
use Rattle.std.specs.Ordering.{nat_cmp}
use Rattle.std.specs.Cmp.{nat_cmp_total}
use Rattle.std.specs.Cmp.Lexicographic.{slice_cmp}
use Rattle.std.specs.FinMap.{FinMap, get, nat_cmp-IsAntisymmetric, from_entries}
use Rattle.sl_model.specs.State.{State}
use Rattle.machine_sem.specs.StateCode.{restored}
use Rattle.machine_sem.proofs.Maps.{get_kept, one_set, one_removed}
use Rattle.machine_sem.proofs.state.State.put_back_byte.Goals as goal

with_memory : FinMap (slice_cmp nat_cmp) ℕ → FinMap nat_cmp ℕ → State
with_memory regs m = record { regs = regs; memory = m }

back : ℕ → Option ℕ → State → State
back address before s = record { regs = s.regs; memory = restored s.memory address before }

pub returns-in_default : goal.returns-in_default
unfolding restored with_memory back
returns-in_default c =
    ap (with_memory (from_entries c.self.inside.regs.entries))
    (one_removed nat_cmp_total nat_cmp-IsAntisymmetric c.self.inside.memory.entries c.remove.new.self.entries c.args.address c.remove.ensures.updates.0)
    ∙ ap (back c.args.address None) c.self.view_is
    ∙ ap (λ b. back c.args.address b c.args.self.now) (sym c.in_default.is)

pub unreachable-requires : goal.unreachable-requires
unreachable-requires c =
    let absent : get c.args.self.now.memory c.args.address ≡ None =
    ap (λ s. get s.memory c.args.address) (sym c.self.view_is)
    ∙ get_kept nat_cmp_total nat_cmp-IsAntisymmetric c.self.inside.memory.entries c.args.address
    ∙ c.in_default-insert.ensures.absent in
    true≢false (sym (subst IsSome absent c.requires))

pub returns : goal.returns
unfolding restored with_memory back
returns c =
    ap (with_memory (from_entries c.self.inside.regs.entries))
    (one_set nat_cmp_total nat_cmp-IsAntisymmetric c.self.inside.memory.entries c.insert.new.self.entries c.args.address c.in-Some.earlier c.in-Ok.ensures.updates.0)
    ∙ ap (back c.args.address (Some c.in-Some.earlier)) c.self.view_is
    ∙ ap (λ b. back c.args.address b c.args.self.now) (sym c.in-Some.is)
