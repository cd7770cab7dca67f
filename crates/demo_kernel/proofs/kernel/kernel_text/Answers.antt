use Rattle.std.proofs.Common.{◌≡◌, ◌≤◌, ℕ, List, length, sym, subst}
use Rattle.demo_kernel.proofs.Short.{text-short}
use Rattle.demo_kernel.proofs.kernel.kernel_text.Goals as goal

pub returns-clause-short : goal.returns-clause-short
returns-clause-short c = subst (λ (t : List ℕ). length t ≤ 20000) (sym c.in_ok-text.ensures) (text-short c.args.key c.args.count c.requires.few)
