use Rattle.std.proofs.Common.{sym, subst}
use Rattle.macro_expand.specs.Slices.{AreSlices}
use Rattle.macro_expand.proofs.SliceLemmas.{on-ok}
use Rattle.macro_expand.proofs.reading.region_statement.Goals as goal

pub returns-then-is_directive-clause-slices : goal.returns-then-is_directive-clause-slices
returns-then-is_directive-clause-slices c texts parts reading =
    c.reopen.ensures.slices texts (c.opening.ensures.slices texts parts)
    (record { macros = reading.macros; opened = reading.opened; known = c.in_ok-give.ensures.slices texts tt reading.known })

pub returns-clause-slices : goal.returns-clause-slices
returns-clause-slices c texts parts reading =
    on-ok c.statement.result (λ known. record { macros = reading.macros; opened = reading.opened; known = known })
    (c.statement.ensures.slices texts reading.macros (subst (AreSlices texts) (sym c.deref-4.ensures.value) parts) reading.known)
