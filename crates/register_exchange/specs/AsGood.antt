-- Which problems lose no schedule by taking the least of registers that are alike, and which list is
-- as good as another. Source: the registers of a schedule, up to a change of their names.
use Rattle.std.specs.Prelude.{ℕ, ◌≡◌, true, false, map, List, [], reverse, slice_get, Some}
use Rattle.sl_model.specs.declared.register.Reg.{Reg}
use Rattle.sl_model.specs.declared.schedule.Choice.{Choice}
use Rattle.sl_model.specs.declared.schedule.Source.TheVariants.{Entry}
use Rattle.sl_model.specs.RegSets.{set_has}
use Rattle.sl_model.specs.Body.{held, stands_in, is_full}
use Rattle.sl_model.specs.Legal.{Problem, IsLegalFrom, allowed_in, sources_in}
use Rattle.sl_model.specs.Space.{IsReducedFrom, is_final, stalls_of}

-- The items of a problem may write the same registers, but for final ones.
pub record AllowsAlike (problem : Problem) : Type 0 where
  pub alike : (p q : ℕ) (r : Reg) → stands_in p problem.graph.order ≡ true
      → stands_in q problem.graph.order ≡ true → is_final problem r ≡ false
      → set_has (allowed_in problem p) r ≡ set_has (allowed_in problem q) r

-- Each register that an item reads as it was before the first item is final.
pub record EntriesAreFinal (problem : Problem) : Type 0 where
  pub final : (p operand : ℕ) (r : Reg) → stands_in p problem.graph.order ≡ true
      → slice_get (sources_in problem p) operand ≡ Some (Entry r) → is_final problem r ≡ true

-- the item and the unit of a choice
abbrev pub move : Choice → ℕ × ℕ
move c = (c.item, c.unit)

-- A legal list of reduced choices with the items and units of another, in the same order: so it is
-- full where the other is, and has its stalls; and each final register holds at its end what it
-- holds at the end of the other.
pub record IsAsGood (problem : Problem) (schedule other : List Choice) : Type 0 where
  pub legal : IsLegalFrom problem [] other
  pub reduced : IsReducedFrom problem [] other
  pub moves : map move other ≡ map move schedule
  pub full : is_full problem.graph.order other ≡ is_full problem.graph.order schedule
  pub stalls : stalls_of problem other ≡ stalls_of problem schedule
  pub ends : (r : Reg) → is_final problem r ≡ true
      → held (reverse other) r ≡ held (reverse schedule) r
