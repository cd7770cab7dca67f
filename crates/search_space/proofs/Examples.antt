-- Small problems whose choices, entries and verdicts were worked out by hand from the rules; the checker computes them from the
-- definitions.
use Rattle.std.proofs.Common.{◌≡◌, ℕ, ◌+◌, ◌-◌, ◌^◌, List, [], ◌∷◌, map, length, None, Some, false, refl}
use Rattle.sl_model.specs.declared.register.Bank.TheVariants.{General}
use Rattle.sl_model.specs.declared.register.Reg.{Reg}
use Rattle.sl_model.specs.declared.register.RegSet.{RegSet}
use Rattle.sl_model.specs.declared.instruction.FormInfo.{FormInfo}
use Rattle.sl_model.specs.declared.instruction.Instr.{Instr}
use Rattle.sl_model.specs.declared.schedule.Choice.{Choice}
use Rattle.sl_model.specs.declared.schedule.Source.{Source}
use Rattle.sl_model.specs.declared.schedule.Source.TheVariants.{Entry, Item}
use Rattle.sl_model.specs.declared.schedule.CostRow.{CostRow}
use Rattle.sl_model.specs.Register.{same_reg}
use Rattle.sl_model.specs.RegSets.{set_has}
use Rattle.sl_model.specs.Source.{no_instr, padded, place_from, numbers_below}
use Rattle.sl_model.specs.Cycles.{timed_from, issued_at, first_slot, unit_free, next_cycle, ready_after, forward_or, cycle_of, ready_from}
use Rattle.sl_model.specs.Body.{is_placed, held, placed_in, is_still_held, stands_in, all_differ}
use Rattle.sl_model.specs.Legal.{Problem, first_broken}
use Rattle.search_space.specs.Next.{machine_regs, reg_lists, choices_on, choices_of, every_choice, could_go_lower, is_reduced, may_come, next_choices}
use Rattle.search_space.specs.Going.{going_on, full_from}
use Rattle.search_space.specs.Best.{first_fewest, members, best}
use Rattle.search_space.specs.Bound.{bound, filled, needed, earliest, known_from, height_within, way_by, greatest, issued_for}
use Rattle.search_space.specs.Levels.{Tree, entries, entries_from, is_solution, outcome_of, outcome, straight_trees, verdict, verdict_from, level_verdict}
use Rattle.search_space.specs.Levels.Outcome.{Found, Spent}
use Rattle.search_space.specs.Levels.Verdict.{First, Infeasible}

-- ---- what they are made of

-- a general register
abbrev r : ℕ → Reg
r n = record { bank = General; symbolic = false; number = n }

-- the general registers but the last
abbrev general : RegSet
general = record { bits = 2 ^ 31 - 1 }

-- a form with up to four operands and an output, all in general registers
abbrev form : FormInfo
form = record {
  class = 0;
  in_sets = general ∷ general ∷ general ∷ general ∷ [];
  out_sets = general ∷ [];
  tied = None ∷ [];
  back = None;
  base = None;
  store = false;
  size = 0;
}

-- an instruction that writes a register and reads some
abbrev writes : ℕ → List ℕ → Instr
writes out ins = record no_instr { ins = padded 4 (map r ins); outs = padded 3 (r out ∷ []) }

-- an instruction with these costs
abbrev costs : (unit latency : ℕ) → CostRow
costs unit latency = record { class = 0; units = 2 ^ unit; busy = 1; latency = latency; writeback = 1; back = None }

-- a problem of such instructions with their sources, where these values are final, the registers of a set may be written, and
-- one item is issued in a cycle
abbrev problem_of : List Instr → List (List Source) → List (Reg × Source) → RegSet → List CostRow → Problem
problem_of items sources finals allowed rows = record {
  graph = record {
    items = items;
    infos = map (λ i. form) items;
    order = numbers_below (length items);
    sources = sources;
    precedes = map (λ i. []) items;
  };
  finals = finals;
  allowed = map (λ i. allowed) items;
  costs = record { width = 1; rows = rows; forwards = [] };
  looped = false;
}

-- an item on a unit, with its output in a register
abbrev on : (unit item out : ℕ) → Choice
on unit item out = record { item = item; unit = unit; outs = padded 3 (r out ∷ []) }

-- ---- which choices may come

-- r1 = r0 + r0, r2 = r1 + r1, r4 = r0 + r0, where r2 and r4 are final and r1 to r4 may be written
abbrev sums : Problem
sums =
    problem_of (writes 1 (0 ∷ 0 ∷ []) ∷ writes 2 (1 ∷ 1 ∷ []) ∷ writes 4 (0 ∷ 0 ∷ []) ∷ [])
    ((Entry (r 0) ∷ Entry (r 0) ∷ []) ∷ (Item 0 0 ∷ Item 0 0 ∷ []) ∷ (Entry (r 0) ∷ Entry (r 0) ∷ []) ∷ [])
    ((r 2, Item 1 0) ∷ (r 4, Item 2 0) ∷ []) (record { bits = 2 + 4 + 8 + 16 }) (costs 0 1 ∷ costs 0 1 ∷ costs 0 1 ∷ [])

-- At first item 0 may come in r1, which is the least of its kind, or in r2 or r4, which are of a kind of their own; and item 2
-- in its final register. Behind item 0 in r2 item 1 may come, which alone reads r2, and item 2.
sums_next : (next_choices sums [] ≡ on 0 0 1 ∷ on 0 0 2 ∷ on 0 0 4 ∷ on 0 2 4 ∷ [])
    × (next_choices sums (on 0 0 2 ∷ []) ≡ on 0 1 2 ∷ on 0 2 4 ∷ [])
unfolding next_choices may_come is_reduced could_go_lower every_choice choices_of choices_on reg_lists machine_regs numbers_below same_reg set_has place_from is_placed held placed_in is_still_held stands_in all_differ first_broken
sums_next = (refl, refl)

-- three values that are read together, and a fourth that is final in r4, where these registers may be written
abbrev three : RegSet → Problem
three allowed =
    problem_of (writes 4 (0 ∷ 1 ∷ []) ∷ writes 5 (0 ∷ 2 ∷ []) ∷ writes 6 (0 ∷ 3 ∷ []) ∷ writes 4 (4 ∷ 5 ∷ 6 ∷ []) ∷ [])
    ((Entry (r 0) ∷ Entry (r 1) ∷ []) ∷ (Entry (r 0) ∷ Entry (r 2) ∷ []) ∷ (Entry (r 0) ∷ Entry (r 3) ∷ []) ∷ (Item 0 0 ∷ Item 1 0 ∷ Item 2 0 ∷ []) ∷ [])
    ((r 4, Item 3 0) ∷ []) allowed (costs 0 1 ∷ costs 0 1 ∷ costs 0 1 ∷ costs 0 1 ∷ [])

-- With a value in r4, the next ones go to r5, and not to r6, which is of its kind. With two values in r4 and r5, none may come
-- in these two registers, and the third value in a third.
three_next : (next_choices (three (record { bits = 16 + 32 + 64 })) (on 0 0 4 ∷ []) ≡ on 0 1 5 ∷ on 0 2 5 ∷ [])
    × (next_choices (three (record { bits = 16 + 32 })) (on 0 1 5 ∷ on 0 0 4 ∷ []) ≡ [])
    × (next_choices (three (record { bits = 16 + 32 + 64 })) (on 0 1 5 ∷ on 0 0 4 ∷ []) ≡ on 0 2 6 ∷ [])
unfolding next_choices may_come is_reduced could_go_lower every_choice choices_of choices_on reg_lists machine_regs numbers_below same_reg set_has place_from is_placed held placed_in is_still_held stands_in all_differ first_broken
three_next = (refl, refl, refl)

-- ---- the best of a space

-- r2 is written twice and all that is written is final; an item is ready after two cycles
abbrev twice : Problem
twice =
    problem_of (writes 2 (1 ∷ 0 ∷ []) ∷ writes 3 (2 ∷ 2 ∷ []) ∷ writes 2 (4 ∷ 0 ∷ []) ∷ writes 5 (2 ∷ 2 ∷ []) ∷ [])
    ((Entry (r 1) ∷ Entry (r 0) ∷ []) ∷ (Item 0 0 ∷ Item 0 0 ∷ []) ∷ (Entry (r 4) ∷ Entry (r 0) ∷ []) ∷ (Item 2 0 ∷ Item 2 0 ∷ []) ∷ [])
    ((r 2, Item 2 0) ∷ (r 3, Item 1 0) ∷ (r 5, Item 3 0) ∷ []) (record { bits = 4 + 8 + 32 }) (costs 0 2 ∷ costs 0 2 ∷ costs 0 2 ∷ costs 0 2 ∷ [])

-- Without a stall item 2 is issued second, so the value of item 0 can't be in r2, which is item 2's.
twice_best : best twice 64 ≡ Some (on 0 0 3 ∷ on 0 2 2 ∷ on 0 1 3 ∷ on 0 3 5 ∷ [])
unfolding next_choices may_come is_reduced could_go_lower every_choice choices_of choices_on reg_lists machine_regs numbers_below same_reg set_has place_from is_placed held placed_in is_still_held stands_in all_differ first_broken best first_fewest members full_from going_on timed_from issued_at first_slot unit_free next_cycle ready_after forward_or cycle_of ready_from
twice_best = refl

-- ---- bounds, entries and verdicts

-- two loads, each with an addition that reads it: a load takes three cycles, an addition one, and each has a unit
abbrev loads : Problem
loads =
    problem_of (writes 1 (0 ∷ []) ∷ writes 2 (1 ∷ 3 ∷ []) ∷ writes 4 (0 ∷ []) ∷ writes 5 (4 ∷ 3 ∷ []) ∷ [])
    ((Entry (r 0) ∷ []) ∷ (Item 0 0 ∷ Entry (r 3) ∷ []) ∷ (Entry (r 0) ∷ []) ∷ (Item 2 0 ∷ Entry (r 3) ∷ []) ∷ [])
    ((r 1, Item 0 0) ∷ (r 2, Item 1 0) ∷ (r 4, Item 2 0) ∷ (r 5, Item 3 0) ∷ []) (record { bits = 2 + 4 + 16 + 32 })
    (costs 0 3 ∷ costs 1 1 ∷ costs 0 3 ∷ costs 1 1 ∷ [])

-- its choices
abbrev first_load : Choice
first_load = on 0 0 1

abbrev first_sum : Choice
first_sum = on 1 1 2

abbrev second_load : Choice
second_load = on 0 2 4

abbrev second_sum : Choice
second_sum = on 1 3 5

-- Bounds, the last choice first: without a choice, none; with a load, one, since the other sum comes no sooner than in the fifth
-- cycle; with a load and its sum, four.
loads_bounds : (bound loads [] ≡ 0) × (bound loads (first_load ∷ []) ≡ 1) × (bound loads (second_load ∷ []) ≡ 1)
    × (bound loads (first_sum ∷ first_load ∷ []) ≡ 4) × (bound loads (second_load ∷ first_load ∷ []) ≡ 1)
    × (bound loads (first_sum ∷ second_load ∷ first_load ∷ []) ≡ 1) × (bound loads (second_sum ∷ second_load ∷ first_load ∷ []) ≡ 2)
    × (bound loads (second_sum ∷ first_sum ∷ second_load ∷ first_load ∷ []) ≡ 1)
unfolding bound filled needed earliest known_from height_within way_by greatest issued_for first_slot issued_at next_cycle unit_free ready_from ready_after cycle_of forward_or is_placed numbers_below
loads_bounds = (refl, refl, refl, refl, refl, refl, refl, refl)

-- the trees of the two loads, and the first one's best schedule
abbrev loads_trees : List Tree
loads_trees = straight_trees loads

abbrev first_tree : Tree
first_tree = record { problem = loads; first = Some first_load }

abbrev loads_best : List Choice
loads_best = first_load ∷ second_load ∷ first_sum ∷ second_sum ∷ []

-- At level 0 the tree of the first load has no entry. At level 1 it has four, the last of them a schedule; so a budget of four
-- entries finds it, and one of three is spent. Where no stall is allowed nothing is found.
loads_levels : (entries first_tree 0 ≡ [])
    × (entries first_tree 1 ≡ (first_load ∷ []) ∷ (first_load ∷ second_load ∷ []) ∷ (first_load ∷ second_load ∷ first_sum ∷ []) ∷ loads_best ∷ [])
    × (verdict loads_trees 64 4 ≡ First 1 0 (Found loads_best)) × (verdict loads_trees 64 3 ≡ First 1 0 Spent) × (verdict loads_trees 0 100 ≡ Infeasible)
unfolding next_choices may_come is_reduced could_go_lower every_choice choices_of choices_on reg_lists machine_regs numbers_below same_reg set_has place_from is_placed held placed_in is_still_held stands_in all_differ first_broken going_on timed_from issued_at first_slot unit_free next_cycle ready_after forward_or cycle_of ready_from bound filled needed earliest known_from height_within way_by greatest issued_for entries entries_from is_solution outcome_of outcome straight_trees verdict verdict_from level_verdict
loads_levels = (refl, refl, refl, refl, refl)
