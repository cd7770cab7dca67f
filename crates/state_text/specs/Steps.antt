-- The steps by which the code reads a state file.
use Rattle.std.specs.Prelude.{ℕ, ◌+◌, ◌*◌, Option}
use Rattle.sl_model.specs.declared.instruction.ArchName.{ArchName}
use Rattle.sl_model.specs.State.{State}
use Rattle.sl_model.specs.OptionSteps.{◌>>=◌}
use Rattle.state_text.specs.StateText.{with_byte}
use Rattle.sl_model.specs.Digits.{digit_of}

-- a byte that two digits spell
unfoldable pub with_pair : ArchName → ℕ → ℕ → ℕ → State → Option State
with_pair arch address c d s = do
  high ← digit_of 16 c
  low ← digit_of 16 d
  with_byte arch address (16 * high + low) s
