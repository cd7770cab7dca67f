-- What a step takes from a state and puts there.
use Rattle.std.specs.Prelude.{ℕ, List, [], take, map, Option, None, Some, if◌then◌else◌}
use Rattle.std.specs.Ordering.{nat_cmp}
use Rattle.std.specs.Cmp.Lexicographic.{slice_cmp}
use Rattle.std.specs.List.{filter_map}
use Rattle.std.specs.FinMap.{FinMap}
use Rattle.sl_model.specs.declared.register.Reg.{Reg}
use Rattle.sl_model.specs.declared.instruction.Access.{Access}
use Rattle.sl_model.specs.State.{State, read, write_all, load, store}

-- a state with another memory
abbrev pub with_memory : FinMap nat_cmp ℕ → State → State
with_memory memory s = record { regs = s.regs; memory = memory }

-- a state with other registers
abbrev pub with_regs : FinMap (slice_cmp nat_cmp) ℕ → State → State
with_regs regs s = record { regs = regs; memory = s.memory }

-- the values of the registers that stand in some places
abbrev pub read_from : List (Option Reg) → State → List ℕ
read_from places s = map (read s) (filter_map (λ r. r) places)

-- Values go to the registers that stand in some places.
abbrev pub written : List (Option Reg) → List ℕ → State → State
written places values s = write_all (filter_map (λ r. r) places) values s

-- the bytes that an access loads
unfoldable pub loaded_at : ℕ → Option Access → FinMap nat_cmp ℕ → List ℕ
loaded_at space None memory = []
loaded_at space (Some a) memory = if a.store then [] else load space memory a.address a.size

-- a memory to which an access stores the first of some bytes
unfoldable pub stored_at : ℕ → Option Access → List ℕ → FinMap nat_cmp ℕ → FinMap nat_cmp ℕ
stored_at space None bytes memory = memory
stored_at space (Some a) bytes memory =
    if a.store then store space a.address (take a.size bytes) memory else memory
