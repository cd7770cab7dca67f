-- Legal schedules. Source: the constraints of SLOTHY (TCHES 2024), as
-- rules on one choice after another.
use Rattle.std.specs.Prelude.{ℕ, Bool, true, false, ◌≡◌, ◌==◌, ◌&&◌, ◌||◌, not, map, filter, unwrap_or, length, List, [], ◌∷◌, slice_get, slice_index_or, Option, None, Some, if◌then◌else◌}
use Rattle.std.specs.Int.{bit_at}
use Rattle.std.specs.List.{list_all, list_any, zip, enumerate_from, flat_map}
use Rattle.sl_model.specs.declared.register.Reg.{Reg}
use Rattle.sl_model.specs.declared.register.RegSet.{RegSet}
use Rattle.sl_model.specs.declared.frame.Frame.{Frame}
use Rattle.sl_model.specs.declared.instruction.Instr.{Instr}
use Rattle.sl_model.specs.declared.instruction.FormInfo.{FormInfo}
use Rattle.sl_model.specs.declared.schedule.Choice.{Choice}
use Rattle.sl_model.specs.declared.schedule.Source.{Source}
use Rattle.sl_model.specs.declared.schedule.Source.TheVariants.{Item}
use Rattle.sl_model.specs.declared.rules.Rule.{Rule}
use Rattle.sl_model.specs.declared.rules.Rule.TheVariants.{L1, L2, L3, L4, L5, L6, L7}
use Rattle.sl_model.specs.Register.{same_reg, same_bool, bank_number}
use Rattle.sl_model.specs.Source.{outputs, padded, item_at, last_source}
use Rattle.sl_model.specs.Cycles.{CostTable, row_of}
use Rattle.sl_model.specs.RegSets.{set_has, set_of, set_union, regs_in}
use Rattle.sl_model.specs.Isa.{Isa}
use Rattle.sl_model.specs.Body.{same_source, chosen, is_placed, held, given, is_still_held, all_differ, stands_in, is_full}
use Rattle.sl_model.specs.Graph.{Graph, sources_at, info_at, precedes_at, list_graph}

-- A problem: the graph of its items, the registers with the value that must stand in them at the
-- end, the registers that each item may write, and what items cost.
pub record Problem : Type 0 where
  pub graph : Graph
  pub finals : List (Reg × Source)
  pub allowed : List RegSet
  pub costs : CostTable
  pub looped : Bool

-- the sources of the operands of an item
abbrev pub sources_in : Problem → ℕ → List Source
sources_in problem p = sources_at problem.graph p

-- what the table says of the form of an item
abbrev pub info_in : Problem → ℕ → FormInfo
info_in problem p = info_at problem.graph p

-- the registers that an item may write
abbrev pub allowed_in : Problem → ℕ → RegSet
allowed_in problem p = slice_index_or problem.allowed p (record { bits = 0 })

-- In what follows `done` is the choices made so far, the last first, and `c` the next one.

-- Is there a register, and is it one of a set?
abbrev pub is_in_set : RegSet → Option Reg → Bool
is_in_set set None = false
is_in_set set (Some r) = set_has set r

-- Is a source still held, in a register of the set?
abbrev pub is_held_in : List Choice → Source × RegSet → Bool
is_held_in done x = is_still_held done x.0 && is_in_set x.1 (given done x.0)

-- the classes of the operands of an item, with their sources
abbrev pub operand_classes : Problem → ℕ → List (Source × RegSet)
operand_classes problem p =
    zip (sources_in problem p) (info_in problem p).in_sets

-- Is there a register, and is it this one?
abbrev pub is_register : Reg → Option Reg → Bool
is_register r None = false
is_register r (Some q) = same_reg q r

-- Is this register the one given to a source?
abbrev pub is_given : List Choice → Reg → Option Source → Bool
is_given done r None = false
is_given done r (Some s) = is_register r (given done s)

-- Is an output that is tied to an operand in the register of that operand?
abbrev pub is_tied : Problem → List Choice → ℕ → Reg × Option ℕ → Bool
is_tied problem done item (r, None) = true
is_tied problem done item (r, Some operand) =
    is_given done r (slice_get (sources_in problem item) operand)

-- Is a register the flags?
abbrev pub is_flags : Reg → Bool
is_flags r = bank_number r.bank == 2

-- Is the register of the class of each operand that reads this value?
abbrev pub suits_readers : Problem → Source → Reg → Bool
suits_readers problem value r =
    list_all (λ p. list_all (λ x. not (same_source x.0 value) || set_has x.1 r)
    (operand_classes problem p)) problem.graph.order

-- Is the register the one in which this value is final, wherever it is final?
abbrev pub suits_finals : Problem → Source → Reg → Bool
suits_finals problem value r =
    list_all (λ f. not (same_source f.1 value) || same_reg f.0 r) problem.finals

-- the register, class and original register of each output of an item, with the output's place
abbrev pub output_classes : Problem → Choice → List (ℕ × ((Reg × RegSet) × Reg))
output_classes problem c =
    enumerate_from 0 (zip (zip (chosen c) (info_in problem c.item).out_sets)
    (outputs (item_at problem.graph.items c.item)))

-- May an output go to its register, as far as sets and finals say?
abbrev pub suits_output : Problem → ℕ → ℕ × ((Reg × RegSet) × Reg) → Bool
suits_output problem item x =
    let r = x.1.0.0 in
    let value = Item item x.0 in
    set_has (allowed_in problem item) r && (set_has x.1.0.1 r && (suits_readers problem value r
    && (suits_finals problem value r && same_bool (is_flags x.1.1) (is_flags r))))

-- Is this value final in this register?
abbrev pub is_final_in : Problem → Reg → Source → Bool
is_final_in problem r value = list_any (λ f. same_reg f.0 r && same_source f.1 value) problem.finals

-- Does an item that is still unplaced, this one aside, read a value?
abbrev pub is_still_read : Problem → List Choice → ℕ → Source → Bool
is_still_read problem done item value =
    list_any (λ p. not (p == item)
    && (not (is_placed done p)
    && list_any (same_source value) (sources_in problem p))) problem.graph.order

-- May a register be overwritten by an item?
abbrev pub may_overwrite : Problem → List Choice → ℕ → Reg → Bool
may_overwrite problem done item r =
    not (is_final_in problem r (held done r)) && not (is_still_read problem done item (held done r))

-- L1: the item wasn't placed.
abbrev pub keeps_l1 : Problem → List Choice → Choice → Bool
keeps_l1 problem done c = not (is_placed done c.item)

-- L2: each operand's source is placed or an entry, its register still holds it
-- and is of the operand's class.
abbrev pub keeps_l2 : Problem → List Choice → Choice → Bool
keeps_l2 problem done c = list_all (is_held_in done) (operand_classes problem c.item)

-- L3: a tied output is in the register of its input.
abbrev pub keeps_l3 : Problem → List Choice → Choice → Bool
keeps_l3 problem done c =
    list_all (is_tied problem done c.item)
    (zip (chosen c) (info_in problem c.item).tied)

-- L4: each output's register is allowed for the item, of the output's class and of the
-- class of each operand that reads it; the outputs differ; a final value is in its final
-- register; the flags are in flags.
abbrev pub keeps_l4 : Problem → Choice → Bool
keeps_l4 problem c =
    list_all (suits_output problem c.item) (output_classes problem c)
    && all_differ (chosen c)

-- L5: each item that stands above it and conflicts with it is placed.
abbrev pub keeps_l5 : Problem → List Choice → Choice → Bool
keeps_l5 problem done c =
    list_all (is_placed done) (precedes_at problem.graph c.item)

-- L6: the unit is one of the class's.
abbrev pub keeps_l6 : Problem → Choice → Bool
keeps_l6 problem c = bit_at (row_of problem.costs c.item).units c.unit == 1

-- L7: no output goes to a register that holds a value which is final there,
-- or which an unplaced item reads.
abbrev pub keeps_l7 : Problem → List Choice → Choice → Bool
keeps_l7 problem done c = list_all (may_overwrite problem done c.item) (chosen c)

-- the first rule that a choice breaks
unfoldable pub first_broken : Problem → List Choice → Choice → Option Rule
first_broken problem done c =
    if not (keeps_l1 problem done c) then Some L1 else
    if not (keeps_l2 problem done c) then Some L2 else
    if not (keeps_l3 problem done c) then Some L3 else
    if not (keeps_l4 problem c) then Some L4 else
    if not (keeps_l5 problem done c) then Some L5 else
    if not (keeps_l6 problem c) then Some L6 else
    if not (keeps_l7 problem done c) then Some L7 else None

-- A choice is of a problem: its item is one of it, and it has a register for each
-- output, the rest of its places empty.
pub record IsOf (problem : Problem) (c : Choice) : Type 0 where
  pub known : stands_in c.item problem.graph.order ≡ true
  pub shape : c.outs ≡ padded 3 (chosen c)
  pub outputs_given : length (chosen c) ≡ length (outputs (item_at problem.graph.items c.item))

-- a choice is legal after those made so far
pub record IsLegalNext (problem : Problem) (done : List Choice)
    (c : Choice) : Type 0 where
  pub of : IsOf problem c
  pub rules : first_broken problem done c ≡ None

-- A list of choices is legal where each, after those before it, is.
abbrev pub IsLegalFrom : Problem → List Choice → List Choice → Type 0
IsLegalFrom problem done [] = Unit {0}
IsLegalFrom problem done (c ∷ choices) =
    IsLegalNext problem done c × IsLegalFrom problem (c ∷ done) choices

-- A full legal schedule: legal from the first choice on, and each item is placed.
pub record IsFullLegal (problem : Problem) (schedule : List Choice) : Type 0 where
  pub legal : IsLegalFrom problem [] schedule
  pub full : is_full problem.graph.order schedule ≡ true

-- The straight problem of a list of items.

-- the concrete registers that items write
abbrev pub written : List Instr → List Reg
written items = filter (λ r. not r.symbolic) (flat_map outputs items)

-- What a list of items leaves, and what its schedules may write. The live registers are those that
-- are given, or else all that the items write; allowed are those that they write, and free ones.
abbrev pub frame_of : List Instr → Option RegSet → RegSet → Frame
frame_of items live free = record {
  live = unwrap_or live (set_of (written items));
  allowed = set_union (set_of (written items)) free;
}

-- The items in their own order with their own sources. The finals are the live registers of the
-- frame, each with its last writer; each item may write the registers that the frame allows.
abbrev pub straight_problem : Isa → List Instr → Frame → CostTable → Problem
straight_problem isa items frame costs = record {
  graph = list_graph isa items;
  finals = map (λ r. (r, last_source items r)) (regs_in frame.live);
  allowed = map (λ i. frame.allowed) items;
  costs = costs;
  looped = false;
}
