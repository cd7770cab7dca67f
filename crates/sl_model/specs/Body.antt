-- What a body of items computes, registers aside; and what a list of choices makes of it. Source:
-- the data-flow graph of SLOTHY (TCHES 2024), with flow, anti and output dependences as
-- conditions on one choice after another.
use Rattle.std.specs.Prelude.{ℕ, ℤ, Bool, true, false, pos, ◌≡◌, ◌+ℤ◌, ◌==◌, ◌&&◌, ◌||◌, not, map, List, [], ◌∷◌, ◌++◌, slice_index, slice_get, length, option_and_then, is_some, int_le, Option, None, Some, if◌then◌else◌}
use Rattle.std.specs.Ordering.{nat_cmp}
use Rattle.std.specs.FinMap.{FinMap}
use Rattle.sl_model.specs.declared.register.Reg.{Reg}
use Rattle.sl_model.specs.declared.instruction.Instr.{Instr}
use Rattle.sl_model.specs.declared.schedule.Choice.{Choice}
use Rattle.sl_model.specs.declared.schedule.Source.{Source}
use Rattle.sl_model.specs.declared.schedule.Source.TheVariants.{Entry, Item}
use Rattle.sl_model.specs.Register.{same_reg}
use Rattle.sl_model.specs.Source.{place_from, output_or, outputs, padded}
use Rattle.sl_model.specs.State.{State, read, is_zero}
use Rattle.sl_model.specs.Isa.{Isa, op_of}
use Rattle.sl_model.specs.Exec.{Touch, has_access, touches_of, values_of, memory_after}
use Rattle.std.specs.List.{filter_map, list_all, list_any}

-- Items by number, the sources of each item's operands, and the order in which the items stand.
pub record Body : Type 0 where
  pub instr : ℕ → Instr
  pub sources : ℕ → List Source
  pub order : List ℕ

-- What items computed: their outputs' values, the last item first, the memory that
-- they leave, and their accesses.
pub record Flow : Type 0 where
  pub values : List (ℕ × List ℕ)
  pub memory : FinMap nat_cmp ℕ
  pub touches : List Touch

-- the value of an output of an item
unfoldable pub output_value : ℕ → ℕ → List (ℕ × List ℕ) → ℕ
output_value item place [] = 0
output_value item place (v ∷ values) =
    if v.0 == item then slice_index v.1 place else output_value item place values

-- the value of a source: what the register held in a state, or the output of an item
abbrev pub source_value : State → List (ℕ × List ℕ) → Source → ℕ
source_value s values (Entry r) = read s r
source_value s values (Item item place) = output_value item place values

-- the values of sources, in their order
abbrev pub sources_values : State → List (ℕ × List ℕ) → List Source → List ℕ
sources_values s values sources = map (source_value s values) sources

-- Each operand takes the value of its source, and the access is made on the memory so far.
abbrev pub flow_item : Isa → Body → State → Flow → ℕ → Flow
flow_item isa body s flow p =
    let i = body.instr p in
    let ins = sources_values s flow.values (body.sources p) in
    record {
      values = (p, values_of isa i ins flow.memory) ∷ flow.values;
      memory = memory_after isa i ins flow.memory;
      touches = flow.touches ++ touches_of isa i ins;
    }

-- what is computed by items in an order, behind what was computed so far
unfoldable pub flow_from : Isa → Body → State → Flow → List ℕ → Flow
flow_from isa body s flow [] = flow
flow_from isa body s flow (p ∷ order) = flow_from isa body s (flow_item isa body s flow p) order

-- what a body computes from a state: its items in their own order, from the memory of the state
abbrev pub flow_of : Isa → Body → State → Flow
flow_of isa body s =
    flow_from isa body s (record { values = []; memory = s.memory; touches = [] }) body.order

-- Apart and conflicts.

-- Are these one source?
abbrev pub same_source : Source → Source → Bool
same_source (Entry a) (Entry b) = same_reg a b
same_source (Item a j) (Item b k) = a == b && j == k
same_source (Entry a) (Item b k) = false
same_source (Item a j) (Entry b) = false

-- the source of the base of an item's access
abbrev pub base_source : Isa → Body → ℕ → Option Source
base_source isa body p =
    option_and_then (slice_get (body.sources p)) (isa.info (body.instr p).form).base

-- Have both accesses a base, and its value from one source?
abbrev pub same_base : Option Source → Option Source → Bool
same_base (Some a) (Some b) = same_source a b
same_base (Some a) None = false
same_base None b = false

-- Do both have a tag, and not the same?
abbrev pub tags_differ : Option ℕ → Option ℕ → Bool
tags_differ (Some a) (Some b) = not (a == b)
tags_differ (Some a) None = false
tags_differ None b = false

-- Does the first of two ranges of bytes, each given by its offset and its size, end before the
-- other begins, or the other before the first?
abbrev pub ranges_disjoint : ℤ → ℕ → ℤ → ℕ → Bool
ranges_disjoint a m b n = int_le (a +ℤ pos m) b || int_le (b +ℤ pos n) a

-- Two accesses are apart where both are tagged and their tags differ, or where their bases have the
-- same source and their ranges are disjoint.
unfoldable pub are_apart : Isa → Body → ℕ → ℕ → Bool
are_apart isa body p q =
    let i = body.instr p in
    let j = body.instr q in
    tags_differ i.tag j.tag || (same_base (base_source isa body p) (base_source isa body q)
    && ranges_disjoint (isa.offset (op_of i)) (isa.info i.form).size
    (isa.offset (op_of j)) (isa.info j.form).size)

-- Two accesses conflict where at least one is a store and they aren't apart.
unfoldable pub conflict : Isa → Body → ℕ → ℕ → Bool
conflict isa body p q =
    let i = isa.info (body.instr p).form in
    let j = isa.info (body.instr q).form in
    (has_access i && has_access j) && ((i.store || j.store) && not (are_apart isa body p q))

-- Lists of choices. In what follows `done` is the choices made so far, the last first.

-- the registers of a choice, in the order of the outputs
abbrev pub chosen : Choice → List Reg
chosen c = filter_map (λ r. r) c.outs

-- Was an item placed?
unfoldable pub is_placed : List Choice → ℕ → Bool
is_placed [] item = false
is_placed (c ∷ done) item = c.item == item || is_placed done item

-- what a register holds: the last output placed in it, or what it held before
unfoldable pub held : List Choice → Reg → Source
held [] r = Entry r
held (c ∷ done) r = output_or c.item (place_from 0 r (chosen c)) (held done r)

-- the register that an output of an item was placed in
unfoldable pub placed_in : List Choice → ℕ → ℕ → Option Reg
placed_in [] item place = None
placed_in (c ∷ done) item place =
    if c.item == item then slice_get (chosen c) place else placed_in done item place

-- the register given to a source, where it is an entry or was placed
abbrev pub given : List Choice → Source → Option Reg
given done (Entry r) = Some r
given done (Item item place) = placed_in done item place

-- Is there a register, and does it still hold a source?
abbrev pub holds_in : List Choice → Source → Option Reg → Bool
holds_in done s None = false
holds_in done s (Some r) = same_source (held done r) s

-- Does the register given to a source still hold it? A source without a register is held nowhere.
unfoldable pub is_still_held : List Choice → Source → Bool
is_still_held done s = holds_in done s (given done s)

-- An item as it was chosen: its outputs in the chosen registers, each operand in
-- the register given to its source.
abbrev pub applied_item : Body → List Choice → Choice → Instr
applied_item body done c = record (body.instr c.item) {
  ins = padded 4 (filter_map (given done) (body.sources c.item));
  outs = c.outs;
}

-- the items in the order of a list of choices
unfoldable pub applied_from : Body → List Choice → List Choice → List Instr
applied_from body done [] = []
applied_from body done (c ∷ choices) =
    applied_item body done c ∷ applied_from body (c ∷ done) choices

-- a list of choices as instructions, in its order and registers
abbrev pub applied : Body → List Choice → List Instr
applied body choices = applied_from body [] choices

-- the numbers that stand above an item in an order
unfoldable pub above : ℕ → List ℕ → List ℕ
above item [] = []
above item (p ∷ order) = if p == item then [] else p ∷ above item order

-- Does a number stand in an order?
unfoldable pub stands_in : ℕ → List ℕ → Bool
stands_in item [] = false
stands_in item (p ∷ order) = p == item || stands_in item order

-- Do all registers of a list differ?
unfoldable pub all_differ : List Reg → Bool
all_differ [] = true
all_differ (r ∷ regs) = not (is_some (place_from 0 r regs)) && all_differ regs

-- What an order has to keep for its items to compute what they computed: the item is one of
-- the body and wasn't placed; each of its sources is still held; each item above it that
-- conflicts with it is placed; and it has a register for each output, all different, and
-- none of them the zero register.
pub record IsFaithfulNext (isa : Isa) (body : Body) (done : List Choice) (c : Choice) : Type 0 where
  pub known : stands_in c.item body.order ≡ true
  pub fresh : is_placed done c.item ≡ false
  pub sources : list_all (is_still_held done) (body.sources c.item) ≡ true
  pub conflicts : list_all (λ p. not (conflict isa body p c.item) || is_placed done p)
      (above c.item body.order) ≡ true
  pub outputs : length (chosen c) ≡ length (outputs (body.instr c.item))
  pub distinct : all_differ (chosen c) ≡ true
  pub writable : list_any is_zero (chosen c) ≡ false

-- Each choice of a list is faithful after those before it.
abbrev pub IsFaithfulFrom : Isa → Body → List Choice → List Choice → Type 0
IsFaithfulFrom isa body done [] = Unit {0}
IsFaithfulFrom isa body done (c ∷ choices) =
    IsFaithfulNext isa body done c × IsFaithfulFrom isa body (c ∷ done) choices

-- All items of an order are placed.
abbrev pub is_full : List ℕ → List Choice → Bool
is_full order done = list_all (is_placed done) order
