use Rattle.std.proofs.Common.{◌≡◌, ◌++◌, map, drop}
use Rattle.sl_text.specs.Tokens.{token_value}
use Rattle.sl_isa.specs.SymbolViews.{pairs}
use Rattle.form_table.specs.Items.{items_from}
use Rattle.form_table.specs.ItemViews.{item_value, lexemes}
use Rattle.form_table.proofs.items.items.Given as goal

-- the items so far, and those that are left, are all of them
abbrev pub invariant-loop-place : goal.invariant-loop-place
invariant-loop-place l =
    map item_value l.items.items ++ items_from (pairs l.symbols) (token_value l.before) l.taken (lexemes (drop l.place l.tokens))
    ≡ items_from (pairs l.symbols) (token_value l.first) 0 (lexemes l.tokens)
