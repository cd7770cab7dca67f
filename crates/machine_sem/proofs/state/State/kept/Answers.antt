use Rattle.std.proofs.Common.{sym, ap, ◌∙◌}
use Rattle.std.specs.Ordering.{nat_cmp}
use Rattle.std.specs.Cmp.Lexicographic.{slice_cmp, nat_list_cmp_total}
use Rattle.std.specs.BTreeMap.{is_at}
use Rattle.std.specs.Map.{lookup}
use Rattle.std.specs.FinMap.{get}
use Rattle.sl_model.specs.State.{reg_key}
use Rattle.machine_sem.proofs.Maps.{get_kept, keys_differ}
use Rattle.machine_sem.proofs.state.State.kept.Goals as goal

pub returns : goal.returns
returns c =
    c.copied.ensures ∙ c.get.ensures.value
    ∙ ap (λ k. lookup (is_at (slice_cmp nat_cmp k)) c.self.inside.regs.entries) c.key.ensures
    ∙ sym (get_kept nat_list_cmp_total keys_differ c.self.inside.regs.entries (reg_key c.args.reg))
    ∙ ap (λ s. get s.regs (reg_key c.args.reg)) c.self.view_is
