-- What a schedule of a problem leaves.
use Rattle.std.specs.Prelude.{ℕ, ◌≡◌, List, false, slice_get, Some}
use Rattle.sl_model.specs.declared.register.Reg.{Reg}
use Rattle.sl_model.specs.declared.instruction.Instr.{Instr}
use Rattle.sl_model.specs.declared.schedule.Choice.{Choice}
use Rattle.sl_model.specs.declared.schedule.Source.{Source}
use Rattle.sl_model.specs.State.{State, read, byte}
use Rattle.sl_model.specs.Isa.{Isa}
use Rattle.sl_model.specs.Exec.{Touch, run, touches}
use Rattle.sl_model.specs.Body.{flow_of, source_value}
use Rattle.sl_model.specs.Graph.{body_of}
use Rattle.sl_model.specs.Legal.{Problem}
use Rattle.sl_model.specs.Program.{times_of}
use Rattle.renamer.specs.Written.{is_chosen}

-- The run of a list of instructions, made of a schedule, leaves, from a state, what the flow of the
-- problem gives: each final register has its value, each address reads the same byte, and each
-- access is made as often. A register that no choice took keeps its value.
pub record CarriesProblem (isa : Isa) (problem : Problem) (schedule : List Choice)
    (items : List Instr) (s : State) : Type 0 where
  pub finals : (k : ℕ) (r : Reg) (value : Source) → slice_get problem.finals k ≡ Some (r, value)
      → read (run isa items s) r
      ≡ source_value s (flow_of isa (body_of problem.graph) s).values value
  pub bytes : (address : ℕ)
      → byte (run isa items s).memory address
      ≡ byte (flow_of isa (body_of problem.graph) s).memory address
  pub others : (r : Reg) → is_chosen r schedule ≡ false → read (run isa items s) r ≡ read s r
  pub access_counts : (a : Touch)
      → times_of a (touches isa items s)
      ≡ times_of a (flow_of isa (body_of problem.graph) s).touches
