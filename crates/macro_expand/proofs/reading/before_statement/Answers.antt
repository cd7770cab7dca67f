use Rattle.std.proofs.Common.{sym, subst}
use Rattle.macro_expand.specs.Slices.{AreSlices}
use Rattle.macro_expand.proofs.SliceLemmas.{on-ok}
use Rattle.macro_expand.proofs.reading.before_statement.Goals as goal

pub returns-then-is_directive-clause-slices : goal.returns-then-is_directive-clause-slices
returns-then-is_directive-clause-slices c texts parts reading = c.reopen.ensures.slices texts (c.opening.ensures.slices texts parts) reading

pub returns-then-is_alias-clause-slices : goal.returns-then-is_alias-clause-slices
returns-then-is_alias-clause-slices c texts parts reading =
    on-ok c.with_alias.result (λ known. record { macros = reading.macros; opened = reading.opened; known = known })
    (c.with_alias.ensures.slices texts (subst (AreSlices texts) (sym c.deref-then-is_alias.ensures.value) parts) reading.known)

pub returns-then-is_directive-2-clause-slices : goal.returns-then-is_directive-2-clause-slices
returns-then-is_directive-2-clause-slices c texts parts reading =
    on-ok c.without_alias.result (λ known. record { macros = reading.macros; opened = reading.opened; known = known }) (c.without_alias.ensures.slices texts reading.known)
