use Rattle.std.proofs.Common.{◌≡◌, not}
use Rattle.std.specs.List.{list_all}
use Rattle.macro_expand.specs.Words.{are_filled, is_empty}
use Rattle.macro_expand.specs.Spelled.{lexemes}
use Rattle.macro_expand.proofs.WordLemmas.{fields_of, left_of}
use Rattle.macro_expand.proofs.words.are_filled.Given as goal

-- the fields that are left are filled if all are
abbrev pub invariant-loop-rest : goal.invariant-loop-rest
invariant-loop-rest l = list_all (λ list. not (is_empty list)) (fields_of 44 l.rest) ≡ are_filled (lexemes l.words)

abbrev pub decreases-loop-rest : goal.decreases-loop-rest
decreases-loop-rest l = left_of l.rest
