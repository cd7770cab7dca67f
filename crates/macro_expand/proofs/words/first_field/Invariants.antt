use Rattle.std.proofs.Common.{◌≡◌, false, take}
use Rattle.std.specs.List.{list_any}
use Rattle.sl_model.specs.TokenTests.{marks}
use Rattle.macro_expand.specs.Spelled.{lexemes}
use Rattle.macro_expand.proofs.words.first_field.Given as goal

-- no `,` has been passed
abbrev pub invariant-loop-place : goal.invariant-loop-place
invariant-loop-place l = list_any (marks l.code) (lexemes (take l.place l.tokens)) ≡ false
