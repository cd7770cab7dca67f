use Rattle.std.proofs.Common.{◌≡◌, ◌++◌, true, drop}
use Rattle.macro_expand.specs.Words.{names_of, are_different}
use Rattle.macro_expand.specs.Spelled.{lexemes, names_in}
use Rattle.macro_expand.proofs.words.names_of.Given as goal

-- the names so far differ, and with those that are left they are all
abbrev pub invariant-loop-word : goal.invariant-loop-word
invariant-loop-word l = record {
  names : names_in l.names ++ names_of (lexemes (drop l.word-index l.words)) ≡ names_of (lexemes l.words);
  different : are_different (names_in l.names) ≡ true;
}
