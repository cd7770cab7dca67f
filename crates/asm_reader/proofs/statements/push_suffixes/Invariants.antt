use Rattle.std.proofs.Common.{◌≡◌, ◌++◌, length}
use Rattle.sl_text.specs.Tokens.{token_value}
use Rattle.asm_reader.specs.Statements.{suffixes}
use Rattle.macro_expand.specs.Spelled.{lexemes}
use Rattle.asm_reader.proofs.statements.push_suffixes.Given as goal

-- the name so far, and the suffixes that are left, are all of it
abbrev pub invariant-loop-rest : goal.invariant-loop-rest
invariant-loop-rest l = l.name.items ++ suffixes (token_value l.before) (lexemes l.rest) ≡ l.fn.name.items ++ suffixes (token_value l.first) (lexemes l.tokens)

abbrev pub decreases-loop-rest : goal.decreases-loop-rest
decreases-loop-rest l = length l.rest
