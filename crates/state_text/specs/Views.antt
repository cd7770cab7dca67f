-- What the calls of the reader answer.
use Rattle.std.specs.Prelude.{◌≡◌, ℕ, Option, None, Some, Result, Ok, Err}
use Rattle.sl_model.specs.State.{State}
use Rattle.state_text.specs.declared.reader.EntryErr.{EntryErr}
use Rattle.state_text.specs.declared.reader.EntryErr.TheVariants as entry
use Rattle.state_text.specs.declared.reader.StateErr.{StateErr}
use Rattle.state_text.specs.declared.reader.StateErr.TheVariants as error

-- An entry was put in a state: the state is the definition's, or the entry is bad by the
-- definition, or no memory was found.
abbrev pub Enters : Result (Unit {0}) EntryErr → Option State → State → Type 0
Enters (Ok _) wanted new = wanted ≡ Some new
Enters (Err entry.Bad) wanted new = wanted ≡ None
Enters (Err entry.NoMemory) wanted new = Unit {0}

-- the same of a line with a number
abbrev pub EntersLine : ℕ → Result (Unit {0}) StateErr → Option State → State → Type 0
EntersLine number (Ok _) wanted new = wanted ≡ Some new
EntersLine number (Err (error.StateBad line)) wanted new = (wanted ≡ None) × (line ≡ number)
EntersLine number (Err error.NoMemory) wanted new = Unit {0}

-- the bad line that a failure tells, and nothing for want of memory
abbrev pub line_of : StateErr → Option ℕ
line_of (error.StateBad line) = Some line
line_of error.NoMemory = None
