-- What instructions leave of the state that a text says, as a text again.
use Rattle.std.specs.Prelude.{ℕ, List, Result, Ok, Err}
use Rattle.sl_model.specs.declared.instruction.Instr.{Instr}
use Rattle.sl_model.specs.Isa.{Isa}
use Rattle.sl_model.specs.State.{State}
use Rattle.sl_model.specs.Exec.{run}
use Rattle.state_text.specs.StateText.{read_state, state_text}

-- the text of the state that is left, where a state was read
abbrev pub left_by : Isa → List Instr → Result State ℕ → Result (List ℕ) ℕ
left_by isa items (Ok s) = Ok (state_text isa.name (run isa items s))
left_by isa items (Err line) = Err line

-- the text of the state that a straight list leaves of the one that a text says, or
-- the number of its first bad line
unfoldable pub run_text : Isa → List Instr → List ℕ → Result (List ℕ) ℕ
run_text isa items text = left_by isa items (read_state isa.name text)
