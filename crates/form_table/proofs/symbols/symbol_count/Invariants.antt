use Rattle.std.proofs.Common.{◌≡◌, ◌≤◌, ◌+◌, length, drop}
use Rattle.form_table.specs.ItemViews.{lexemes}
use Rattle.form_table.specs.Symbols.{pairs_from}
use Rattle.form_table.proofs.symbols.symbol_count.Given as goal

-- those that were counted, and those that are left, are all of them
abbrev pub invariant-loop-place : goal.invariant-loop-place
invariant-loop-place l =
    (l.count + length (pairs_from (lexemes (drop l.place l.tokens))) ≡ length (pairs_from (lexemes l.tokens))) × (l.count ≤ l.place)
