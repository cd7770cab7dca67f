use Rattle.std.proofs.Common.{◌≡◌, ◌≤◌, ◌+◌, length, take, drop}
use Rattle.sl_isa.specs.Symbols.{with_pairs}
use Rattle.sl_isa.specs.SymbolViews.{pairs}
use Rattle.form_table.specs.ItemViews.{lexemes}
use Rattle.form_table.specs.Symbols.{pairs_from}
use Rattle.form_table.proofs.symbols.number_all.Given as goal

-- with those that are left the pairs are all of them
abbrev pub invariant-loop-place : goal.invariant-loop-place
invariant-loop-place l =
    (with_pairs (pairs l.symbols) (pairs_from (lexemes (drop l.place l.tokens))) ≡ with_pairs (pairs l.initial.symbols) (pairs_from (lexemes l.tokens)))
    × (length (pairs l.symbols) + length (pairs_from (lexemes (drop l.place l.tokens)))
    ≤ length (pairs l.initial.symbols) + length (pairs_from (lexemes l.tokens)))
    × (take (length (pairs l.initial.symbols)) (pairs l.symbols) ≡ pairs l.initial.symbols)
