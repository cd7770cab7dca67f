-- What instructions do to a state. Source: DDI 0487 and DDI 0403, the pseudocode of
-- each instruction in the tables.
use Rattle.std.specs.Prelude.{ℕ, Bool, false, nat_lt, not, map, List, [], ◌∷◌, ◌++◌, slice_index, Option, None, Some, if◌then◌else◌}
use Rattle.std.specs.Ordering.{nat_cmp}
use Rattle.std.specs.FinMap.{FinMap}
use Rattle.sl_model.specs.declared.instruction.FormInfo.{FormInfo}
use Rattle.sl_model.specs.declared.instruction.Instr.{Instr}
use Rattle.sl_model.specs.Source.{operands, outputs}
use Rattle.sl_model.specs.State.{State, read, write_all, load, store}
use Rattle.sl_model.specs.Isa.{Isa, op_of, address_at}
use Rattle.sl_model.specs.Machine.{space_of}

-- an access that was made, with the tag of its instruction
pub record Touch : Type 0 where
  pub store : Bool
  pub address : ℕ
  pub size : ℕ
  pub tag : Option ℕ

-- the value of the base among those of the operands
abbrev pub base_value : Option ℕ → List ℕ → ℕ
base_value None ins = 0
base_value (Some operand) ins = slice_index ins operand

-- Does a form access memory?
abbrev pub has_access : FormInfo → Bool
has_access info = nat_lt 0 info.size

-- the address of an instruction's access: the value of its base plus its offset
abbrev pub address_of : Isa → Instr → List ℕ → ℕ
address_of isa i ins =
    address_at (space_of isa.name) (base_value (isa.info i.form).base ins) (isa.offset (op_of i))

-- the access of an instruction whose operands have these values
abbrev pub touch_of : Isa → Instr → List ℕ → Touch
touch_of isa i ins = record {
  store = (isa.info i.form).store;
  address = address_of isa i ins;
  size = (isa.info i.form).size;
  tag = i.tag;
}

-- its access, if its form has one
abbrev pub touches_of : Isa → Instr → List ℕ → List Touch
touches_of isa i ins = if has_access (isa.info i.form) then touch_of isa i ins ∷ [] else []

-- Does a form load bytes?
abbrev pub is_load : FormInfo → Bool
is_load info = if has_access info then not info.store else false

-- Does it store bytes?
abbrev pub is_store : FormInfo → Bool
is_store info = if has_access info then info.store else false

-- the bytes that an instruction finds in memory
unfoldable pub loaded_by : Isa → Instr → List ℕ → FinMap nat_cmp ℕ → List ℕ
loaded_by isa i ins memory =
    if is_load (isa.info i.form)
    then load (space_of isa.name) memory (address_of isa i ins) (isa.info i.form).size
    else []

-- the values that it gives to its outputs
unfoldable pub values_of : Isa → Instr → List ℕ → FinMap nat_cmp ℕ → List ℕ
values_of isa i ins memory = isa.values (op_of i) ins (loaded_by isa i ins memory)

-- the memory that it leaves
unfoldable pub memory_after : Isa → Instr → List ℕ → FinMap nat_cmp ℕ → FinMap nat_cmp ℕ
memory_after isa i ins memory =
    if is_store (isa.info i.form)
    then store (space_of isa.name) (address_of isa i ins) (isa.stored (op_of i) ins) memory
    else memory

-- the values of an instruction's operands in a state
abbrev pub operand_values : Instr → State → List ℕ
operand_values i s = map (read s) (operands i)

-- An instruction takes the values of its operands and the bytes at its access from the state, then
-- writes its outputs and the bytes that it stores.
unfoldable pub exec : Isa → Instr → State → State
exec isa i s = write_all (outputs i) (values_of isa i (operand_values i s) s.memory)
    (record { regs = s.regs; memory = memory_after isa i (operand_values i s) s.memory })

-- a list of instructions, one after the other
unfoldable pub run : Isa → List Instr → State → State
run isa [] s = s
run isa (i ∷ items) s = run isa items (exec isa i s)

-- the accesses of that run, in order
unfoldable pub touches : Isa → List Instr → State → List Touch
touches isa [] s = []
touches isa (i ∷ items) s =
    touches_of isa i (operand_values i s) ++ touches isa items (exec isa i s)
