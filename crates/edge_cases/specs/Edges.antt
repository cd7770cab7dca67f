-- What the definitions say where one would look first for a mistake: empty lists, the zero
-- register, the last address, cores of one and of eight slots, accesses of 32 bytes, an item that
-- reads and writes one register, two outputs, and live and free registers.
use Rattle.std.specs.Prelude.{ℕ, ℤ, Bool, Option, ◌==◌, replicate, slice_index_or, if◌then◌else◌, true, false, ◌≡◌, pos, ◌-◌, ◌*◌, ◌^◌, ◌%◌, ◌-ℤ◌, nat_lt, List, [], ◌∷◌, slice_index, None, Some}
use Rattle.std.specs.Ordering.{nat_cmp}
use Rattle.std.specs.FinMap.{FinMap}
use Rattle.sl_model.specs.declared.frame.Frame.{Frame}
use Rattle.sl_model.specs.declared.register.Bank.TheVariants.{General, Vector, Flags, Stack}
use Rattle.sl_model.specs.declared.register.Reg.{Reg}
use Rattle.sl_model.specs.declared.register.RegSet.{RegSet}
use Rattle.sl_model.specs.declared.instruction.ArchName.TheVariants.{Arm64}
use Rattle.sl_model.specs.declared.instruction.FormInfo.{FormInfo}
use Rattle.sl_model.specs.declared.instruction.Instr.{Instr}
use Rattle.sl_model.specs.declared.schedule.Choice.{Choice}
use Rattle.sl_model.specs.declared.schedule.CostRow.{CostRow}
use Rattle.sl_model.specs.declared.schedule.Source.TheVariants.{Entry, Item}
use Rattle.sl_model.specs.declared.rules.Rule.TheVariants.{L2, L4}
use Rattle.sl_model.specs.RegSets.{set_of, regs_in}
use Rattle.sl_model.specs.Source.{last_source, list_sources}
use Rattle.sl_model.specs.State.{State, is_zero, read, write, byte, put, load, store}
use Rattle.sl_model.specs.Isa.{Isa, address_at}
use Rattle.sl_model.specs.Exec.{exec, run, touches}
use Rattle.sl_model.specs.Body.{conflict, held, ranges_disjoint, tags_differ}
use Rattle.sl_model.specs.Cycles.{CostTable, Push, issued, cycles_of, cycle_count, stalls}
use Rattle.sl_model.specs.Lawful.{zero_register}
use Rattle.sl_model.specs.Graph.{body_of, list_graph}
use Rattle.sl_model.specs.Legal.{Problem, IsFullLegal, frame_of, straight_problem, first_broken}
use Rattle.sl_model.specs.Program.{ShareByte, turns_at, is_live, may_change}
use Rattle.sl_model.specs.Program.Program.{Straight, Loop}

-- Of nothing: it takes no cycle and no stall, leaves the state, makes no access and reads nothing;
-- and its empty schedule is legal and full.
pub record OfNothing : Type 0 where
  pub no_cycle : cycle_count [] ≡ 0
  pub no_stall : (width : ℕ) → stalls width [] ≡ 0
  pub same_state : (isa : Isa) (s : State) → run isa [] s ≡ s
  pub no_access : (isa : Isa) (s : State) → touches isa [] s ≡ []
  pub entries_stay : (r : Reg) → last_source [] r ≡ Entry r
  pub schedule : (isa : Isa) (frame : Frame) (costs : CostTable)
      → IsFullLegal (straight_problem isa [] frame costs) []

-- a general register
abbrev pub x : ℕ → Reg
x n = record { bank = General; symbolic = false; number = n }

-- The zero register reads 0, whatever is written to it. Register 31 of another bank, a symbolic
-- register with that number and the stack pointer are other registers.
pub record OfZero : Type 0 where
  pub reads_zero : (s : State) → read s zero_register ≡ 0
  pub stays_zero : (value : ℕ) (s : State) → read (write zero_register value s) zero_register ≡ 0
  pub vector : is_zero (record { bank = Vector; symbolic = false; number = 31 }) ≡ false
  pub symbol : is_zero (record { bank = General; symbolic = true; number = 31 }) ≡ false
  pub stack : is_zero (record { bank = Stack; symbolic = false; number = 0 }) ≡ false

-- The last address of 2^64 has address 0 behind it, for addresses, loads, stores and shared bytes;
-- and a counter of 0 stands for 2^64 turns.
pub record OfLastAddress : Type 0 where
  pub behind : address_at (2 ^ 64) (2 ^ 64 - 1) (pos 1) ≡ 0
  pub before : address_at (2 ^ 64) 0 (pos 0 -ℤ pos 1) ≡ 2 ^ 64 - 1
  pub loaded : (memory : FinMap nat_cmp ℕ)
      → load (2 ^ 64) memory (2 ^ 64 - 1) 2 ≡ byte memory (2 ^ 64 - 1) ∷ byte memory 0 ∷ []
  pub stored : (memory : FinMap nat_cmp ℕ) (a b : ℕ)
      → store (2 ^ 64) (2 ^ 64 - 1) (a ∷ b ∷ []) memory ≡ put 0 b (put (2 ^ 64 - 1) a memory)
  pub shared : ShareByte (2 ^ 64)
      (record { store = true; address = 2 ^ 64 - 1; size = 2; tag = None })
      (record { store = false; address = 0; size = 1; tag = None })
  pub turns : turns_at (2 ^ 64) 0 ≡ 2 ^ 64

-- Ranges of 32 bytes that touch share no byte; ranges that overlap by one byte do. Accesses are
-- tagged apart only where both have a tag.
pub record OfRanges : Type 0 where
  pub touching : ranges_disjoint (pos 0) 32 (pos 32) 32 ≡ true
  pub touching_below : ranges_disjoint (pos 0) 32 (pos 0 -ℤ pos 32) 32 ≡ true
  pub last_byte : ranges_disjoint (pos 0) 32 (pos 31) 1 ≡ false
  pub first_byte : ranges_disjoint (pos 0 -ℤ pos 31) 32 (pos 0) 32 ≡ false
  pub inside : ranges_disjoint (pos 16) 1 (pos 0) 32 ≡ false
  pub one_tag : tags_differ (Some 0) (Some 0) ≡ false
  pub two_tags : tags_differ (Some 0) (Some 1) ≡ true
  pub no_tag : tags_differ (Some 0) None ≡ false
  pub no_tags : tags_differ None None ≡ false

-- a push to a unit on a core of some width, which keeps the unit for so many
-- cycles and is ready at a cycle
abbrev pub push : ℕ → ℕ → ℕ → ℕ → Push
push width unit busy ready = record { width = width; unit = unit; busy = busy; ready = ready }

-- one push to each of nine units, on a core of some width
abbrev pub nine : ℕ → List Push
nine width =
    push width 0 1 0 ∷ push width 1 1 0 ∷ push width 2 1 0 ∷ push width 3 1 0 ∷ push width 4 1 0
    ∷ push width 5 1 0 ∷ push width 6 1 0 ∷ push width 7 1 0 ∷ push width 8 1 0 ∷ []

-- One slot a cycle, and eight. A unit that is kept, and an operand that isn't ready, hold an
-- item back, and those behind it.
pub record OfWidths : Type 0 where
  pub one : cycles_of (issued (nine 1)) ≡ 0 ∷ 1 ∷ 2 ∷ 3 ∷ 4 ∷ 5 ∷ 6 ∷ 7 ∷ 8 ∷ []
  pub one_full : stalls 1 (issued (nine 1)) ≡ 0
  pub eight : cycles_of (issued (nine 8)) ≡ 0 ∷ 0 ∷ 0 ∷ 0 ∷ 0 ∷ 0 ∷ 0 ∷ 0 ∷ 1 ∷ []
  pub eight_full : stalls 8 (issued (nine 8)) ≡ 0
  pub one_unit : cycles_of (issued (push 8 0 3 0 ∷ push 8 0 1 0 ∷ push 8 0 1 0 ∷ []))
      ≡ 0 ∷ 3 ∷ 4 ∷ []
  pub in_order : cycles_of (issued (push 8 0 1 5 ∷ push 8 1 1 0 ∷ [])) ≡ 5 ∷ 5 ∷ []
  pub waited : stalls 8 (issued (push 8 0 1 5 ∷ [])) ≡ 5

-- the registers that a form takes: every general register but the zero register
abbrev pub any_general : RegSet
any_general = record { bits = 2 ^ 31 - 1 }

-- no register
abbrev pub none : RegSet
none = record { bits = 0 }

-- a form with two operands and two outputs
abbrev pub exchanging : FormInfo
exchanging = record {
  class = 0;
  in_sets = any_general ∷ any_general ∷ none ∷ none ∷ [];
  out_sets = any_general ∷ any_general ∷ none ∷ [];
  tied = None ∷ None ∷ None ∷ [];
  back = None;
  base = None;
  store = false;
  size = 0;
}

-- an instruction set whose one instruction gives its operands in the other
-- order, the first of them doubled
abbrev pub exchanging_isa : Isa
exchanging_isa = record {
  name = Arm64;
  forms = 1;
  valid = λ op. nat_lt op.form 1;
  info = λ form. exchanging;
  offset = λ op. pos 0;
  values = λ op ins loaded. slice_index ins 1 ∷ (2 * slice_index ins 0) % 2 ^ 64 ∷ [];
  stored = λ op ins. [];
}

-- (c, d) = (b, 2 a)
abbrev pub exchange : Reg → Reg → Reg → Reg → Instr
exchange c d a b = record {
  form = 0;
  wide = false;
  imms = pos 0 ∷ pos 0 ∷ pos 0 ∷ [];
  ins = Some a ∷ Some b ∷ None ∷ None ∷ [];
  outs = Some c ∷ Some d ∷ None ∷ [];
  tag = None;
  early = false;
  late = false;
  line = 1;
}

-- twice (x1, x2) = (x2, 2 x1)
abbrev pub twice : List Instr
twice = exchange (x 1) (x 2) (x 1) (x 2) ∷ exchange (x 1) (x 2) (x 1) (x 2) ∷ []

-- what they cost on a core with one unit
abbrev pub twice_costs : CostTable
twice_costs =
    let row : CostRow = record {
      class = 0;
      units = 1;
      busy = 1;
      latency = 1;
      writeback = 1;
      back = None;
    } in record { width = 1; rows = row ∷ row ∷ []; forwards = [] }

-- the straight problem of these: both registers are live, and no other is free
abbrev pub twice_problem : Problem
twice_problem = straight_problem exchanging_isa twice (frame_of twice None none) twice_costs

-- an item on unit 0 with two outputs
abbrev pub choose : ℕ → Reg → Reg → Choice
choose item c d = record { item = item; unit = 0; outs = Some c ∷ Some d ∷ None ∷ [] }

-- An item with two outputs that reads the registers that it writes: both operands have the values
-- from before it; each output goes to its own register, and is the source there; the item may
-- overwrite what it alone still reads; and no register takes both outputs.
pub record OfOneItem : Type 0 where
  pub first_reads : list_sources twice 0 ≡ Entry (x 1) ∷ Entry (x 2) ∷ []
  pub second_reads : list_sources twice 1 ≡ Item 0 0 ∷ Item 0 1 ∷ []
  pub last : last_source twice (x 2) ≡ Item 1 1
  pub first_value : (s : State)
      → read (exec exchanging_isa (exchange (x 1) (x 2) (x 1) (x 2)) s) (x 1) ≡ read s (x 2)
  pub second_value : (s : State)
      → read (exec exchanging_isa (exchange (x 1) (x 2) (x 1) (x 2)) s) (x 2)
      ≡ (2 * read s (x 1)) % 2 ^ 64
  pub outputs_held : held (choose 0 (x 2) (x 1) ∷ []) (x 1) ≡ Item 0 1
  pub may_overwrite : first_broken twice_problem [] (choose 0 (x 1) (x 2)) ≡ None
  pub not_before : first_broken twice_problem [] (choose 1 (x 1) (x 2)) ≡ Some L2
  pub in_one_register : first_broken twice_problem [] (choose 0 (x 1) (x 1))
      ≡ Some L4
  pub schedule : IsFullLegal twice_problem
      (choose 0 (x 1) (x 2) ∷ choose 1 (x 1) (x 2) ∷ [])

-- a symbolic register
abbrev pub symbol : Reg
symbol = record { bank = General; symbolic = true; number = 1 }

-- a vector register
abbrev pub vector : Reg
vector = record { bank = Vector; symbolic = false; number = 0 }

-- the flags
abbrev pub flags : Reg
flags = record { bank = Flags; symbolic = false; number = 0 }

-- the stack pointer
abbrev pub stack : Reg
stack = record { bank = Stack; symbolic = false; number = 0 }

-- The registers of a set stand in the order of their bits, each once. The registers that items
-- write are live where none are given, and allowed in any case; free ones are allowed, and not
-- live. A symbolic register is neither. A live register that no item writes is final with what it
-- held at first. The counter of a loop is live. What is neither written, live nor allowed keeps
-- its value.
pub record OfFrames : Type 0 where
  pub ascending : regs_in (set_of (stack ∷ flags ∷ vector ∷ x 30 ∷ x 2 ∷ x 30 ∷ symbol ∷ []))
      ≡ x 2 ∷ x 30 ∷ vector ∷ flags ∷ stack ∷ []
  pub live_unless_given : regs_in (frame_of twice None none).live ≡ x 1 ∷ x 2 ∷ []
  pub live_given : regs_in (frame_of twice (Some (set_of (x 2 ∷ x 5 ∷ []))) none).live
      ≡ x 2 ∷ x 5 ∷ []
  pub none_live : regs_in (frame_of twice (Some none) none).live ≡ []
  pub allowed : regs_in (frame_of twice (Some none) none).allowed ≡ x 1 ∷ x 2 ∷ []
  pub free : regs_in (frame_of twice None (set_of (x 9 ∷ x 1 ∷ []))).allowed
      ≡ x 1 ∷ x 2 ∷ x 9 ∷ []
  pub free_not_live : regs_in (frame_of twice None (set_of (x 9 ∷ []))).live ≡ x 1 ∷ x 2 ∷ []
  pub symbolic : frame_of (exchange symbol (x 2) (x 1) (x 2) ∷ []) None none
      ≡ record { live = set_of (x 2 ∷ []); allowed = set_of (x 2 ∷ []) }
  pub finals : (straight_problem exchanging_isa twice
      (frame_of twice (Some (set_of (x 2 ∷ x 5 ∷ []))) none) twice_costs).finals
      ≡ (x 2, Item 1 1) ∷ (x 5, Entry (x 5)) ∷ []
  pub counter : is_live (frame_of twice None none) (Loop [] twice (x 8) false []) (x 8) ≡ true
  pub kept : (decrement : Bool → Reg → Instr)
      → may_change decrement (frame_of twice None none) (Straight twice) (x 3) ≡ false

-- what a form is: form 0 stores 32 bytes at a base, form 1 loads 32 bytes, and any other makes no
-- access
abbrev pub accessing : ℕ → FormInfo
accessing form = record {
  class = 0;
  in_sets = any_general ∷ none ∷ none ∷ none ∷ [];
  out_sets = any_general ∷ none ∷ none ∷ [];
  tied = None ∷ None ∷ None ∷ [];
  back = None;
  base = Some 0;
  store = form == 0;
  size = if nat_lt form 2 then 32 else 0;
}

-- an instruction set whose form 0 stores 32 bytes at a base and an offset, whose form 1 loads
-- them, and whose form 2 writes the base
abbrev pub accessing_isa : Isa
accessing_isa = record {
  name = Arm64;
  forms = 3;
  valid = λ op. nat_lt op.form 3;
  info = accessing;
  offset = λ op. slice_index_or op.imms 0 (pos 0);
  values = λ op ins loaded. 0 ∷ [];
  stored = λ op ins. replicate 32 0;
}

-- an instruction of it, with a base, an offset, an output and a tag
abbrev pub at_base : ℕ → Reg → ℤ → List (Option Reg) → Option ℕ → Instr
at_base form base offset outs tag = record {
  form = form;
  wide = false;
  imms = offset ∷ pos 0 ∷ pos 0 ∷ [];
  ins = Some base ∷ None ∷ None ∷ None ∷ [];
  outs = outs;
  tag = tag;
  early = false;
  late = false;
  line = 1;
}

-- a store at an offset from x0
abbrev pub store_at : ℤ → Option ℕ → Instr
store_at offset tag = at_base 0 (x 0) offset (None ∷ None ∷ None ∷ []) tag

-- a load at an offset from x0
abbrev pub load_at : ℤ → Option ℕ → Instr
load_at offset tag = at_base 1 (x 0) offset (Some (x 1) ∷ None ∷ None ∷ []) tag

-- stores at 0, 32 and 31, a load at 0 and one at 16, the base written, a store at 64 of the
-- new base, and one at 0 with a tag
abbrev pub accesses_of_one_base : List Instr
accesses_of_one_base =
    store_at (pos 0) None ∷ store_at (pos 32) None ∷ store_at (pos 31) None
    ∷ load_at (pos 0) (Some 1) ∷ load_at (pos 16) None
    ∷ at_base 2 (x 0) (pos 0) (Some (x 0) ∷ None ∷ None ∷ []) None ∷ store_at (pos 64) None
    ∷ store_at (pos 0) (Some 2) ∷ []

-- Does one of them conflict with another?
abbrev pub conflicts : ℕ → ℕ → Bool
conflicts p q =
    conflict accessing_isa
    (body_of (list_graph accessing_isa accesses_of_one_base)) p q

-- Two accesses of 32 bytes of one base conflict where they share a byte and one of them stores. A
-- base that was written in between is another base, and then they conflict whatever their
-- offsets, unless their tags differ.
pub record OfAccesses : Type 0 where
  pub touching : conflicts 0 1 ≡ false
  pub by_one_byte : conflicts 0 2 ≡ true
  pub with_a_load : conflicts 0 3 ≡ true
  pub two_loads : conflicts 3 4 ≡ false
  pub no_access : conflicts 0 5 ≡ false
  pub another_base : conflicts 0 6 ≡ true
  pub one_tag : conflicts 0 7 ≡ true
  pub tags_differ : conflicts 3 7 ≡ false
