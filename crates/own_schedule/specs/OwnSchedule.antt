-- The items of a problem as they stand, each on the unit of its class that issues it first. Source:
-- list scheduling in the given order, as machine-code analysers cost a listing.
use Rattle.std.specs.Prelude.{ℕ, nat_lt, List, [], ◌∷◌, ◌++◌, length, Option, None, Some, if◌then◌else◌}
use Rattle.std.specs.List.{fold}
use Rattle.sl_model.specs.declared.schedule.Choice.{Choice}
use Rattle.sl_model.specs.Cycles.{last_cycle, timed}
use Rattle.sl_model.specs.Legal.{Problem, sources_in, info_in}
use Rattle.sl_model.specs.Source.{item_at, numbers_below}
use Rattle.core_text.specs.Core.{ClassCost, CoreTable, entry_of}

-- the units of an entry, in the order in which they are tried; none where there is no entry
abbrev pub units_or : Option ClassCost → List ℕ
units_or None = []
units_or (Some entry) = entry.units

-- the units that take an item
abbrev pub units_for : CoreTable → Problem → ℕ → List ℕ
units_for core problem item = units_or (entry_of core (info_in problem item).class)

-- the one of two with the less measure, the first where they are equal
abbrev pub lesser : (ℕ → ℕ) → ℕ → ℕ → ℕ
lesser measure best other = if nat_lt (measure other) (measure best) then other else best

-- the first of some numbers whose measure is the least; 0 where there is none
unfoldable pub first_least : (ℕ → ℕ) → List ℕ → ℕ
first_least measure [] = 0
first_least measure (n ∷ rest) = fold (lesser measure) n rest

-- an item on a unit, its outputs in their own registers
abbrev pub own_choice : Problem → ℕ → ℕ → Choice
own_choice problem item unit =
    record { item = item; unit = unit; outs = (item_at problem.graph.items item).outs }

-- the cycle at which an item is issued on a unit, behind a schedule
unfoldable pub cycle_on : Problem → List Choice → ℕ → ℕ → ℕ
cycle_on problem schedule item unit =
    last_cycle (timed problem.costs (sources_in problem)
    (schedule ++ own_choice problem item unit ∷ []))

-- a schedule, and the next item behind it on the unit that issues it first
unfoldable pub with_item : CoreTable → Problem → List Choice → ℕ → List Choice
with_item core problem schedule item =
    schedule
    ++ own_choice problem item
    (first_least (cycle_on problem schedule item) (units_for core problem item)) ∷ []

-- the items of a problem as they stand
unfoldable pub own_schedule : CoreTable → Problem → List Choice
own_schedule core problem =
    fold (with_item core problem) [] (numbers_below (length problem.graph.items))
