use Rattle.std.proofs.Common.{sym, ap, ◌∙◌}
use Rattle.std.specs.Ordering.{nat_cmp}
use Rattle.std.specs.Cmp.{nat_cmp_total}
use Rattle.std.specs.FinMap.{entries, nat_cmp-IsAntisymmetric}
use Rattle.machine_sem.proofs.Entries.{entries_kept}
use Rattle.machine_sem.proofs.state.State.bytes.Goals as goal

pub returns : goal.returns
returns c =
    c.iter.ensures.rest
    ∙ sym (entries_kept nat_cmp nat_cmp_total nat_cmp-IsAntisymmetric c.self.inside.memory.entries c.iter.ensures.ordered)
    ∙ ap (λ s. entries s.memory) c.self.view_is
