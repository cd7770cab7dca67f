use Rattle.std.proofs.Common.{sym, ap, ◌∙◌}
use Rattle.std.specs.Cmp.{nat_cmp_total}
use Rattle.std.specs.FinMap.{get, nat_cmp-IsAntisymmetric}
use Rattle.machine_sem.proofs.Maps.{get_kept}
use Rattle.machine_sem.proofs.state.State.kept_byte.Goals as goal

pub returns : goal.returns
returns c =
    c.copied.ensures ∙ c.get.ensures.value
    ∙ sym (get_kept nat_cmp_total nat_cmp-IsAntisymmetric c.self.inside.memory.entries c.args.address)
    ∙ ap (λ s. get s.memory c.args.address) c.self.view_is
