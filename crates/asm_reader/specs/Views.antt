-- The code's data and answers, as the definitions see them.
use Rattle.std.specs.Prelude.{Option, None, Some}
use Rattle.macro_expand.specs.Spelled.{lexemes}
use Rattle.asm_reader.specs.declared.reasons.Refusal.{Refusal}
use Rattle.asm_reader.specs.declared.reasons.ReadRefusal.{ReadRefusal}
use Rattle.asm_reader.specs.declared.reasons.ReadRefusal.TheVariants.{Refused, NoMemory}
use Rattle.asm_reader.specs.declared.statements.Statement as code
use Rattle.asm_reader.specs.Statements.{Statement}
use Rattle.asm_reader.specs.WordViews.{bytes_value}

-- a statement without where it lies in memory
abbrev pub statement_value : code.Statement → Statement
statement_value statement = record {
  line = statement.line;
  words = lexemes statement.words.now;
  note = bytes_value statement.note;
}

-- the refusal that a failure tells, and nothing for want of memory
abbrev pub refusal_of : ReadRefusal → Option Refusal
refusal_of (Refused refusal) = Some refusal
refusal_of NoMemory = None
