-- The stated space of a problem, the order of schedules, and the best of the space. Source: the
-- search of SLOTHY (TCHES 2024), as the least of a listed space.
use Rattle.std.specs.Prelude.{ℕ, Bool, true, false, ◌≤◌, ◌≡◌, ◌==◌, ◌&&◌, ◌||◌, not, map, List, [], ◌∷◌, ◌++◌, slice_get, Option, None, Some, is_some, nat_lt}
use Rattle.std.specs.Ordering.{nat_cmp}
use Rattle.std.specs.Cmp.Lexicographic.{slice_cmp}
use Rattle.std.specs.Ordering.{is_lt}
use Rattle.std.specs.List.{list_all, list_any, enumerate_from, flat_map}
use Rattle.sl_model.specs.declared.register.Reg.{Reg}
use Rattle.sl_model.specs.declared.register.RegSet.{RegSet}
use Rattle.sl_model.specs.declared.schedule.Choice.{Choice}
use Rattle.sl_model.specs.declared.schedule.Source.TheVariants.{Item}
use Rattle.sl_model.specs.Register.{same_reg, same_bool, bank_number}
use Rattle.sl_model.specs.RegSets.{set_has, bit_of}
use Rattle.sl_model.specs.Cycles.{timed, stalls}
use Rattle.sl_model.specs.Body.{same_source, chosen}
use Rattle.sl_model.specs.Legal.{Problem, IsFullLegal, sources_in, info_in, output_classes, suits_output, may_overwrite, is_flags}

-- The stalls of a straight schedule.
abbrev pub stalls_of : Problem → List Choice → ℕ
stalls_of problem schedule =
    stalls problem.costs.width (timed problem.costs (sources_in problem) schedule)

-- The order of schedules: choices go by item, unit and registers, and lists by their first
-- difference, a list before those that it begins. Registers go by their bits in a set.

-- a choice as numbers
abbrev pub choice_key : Choice → List ℕ
choice_key c = c.item ∷ c.unit ∷ map (λ r. bit_of r.bank r.number) (chosen c)

-- a schedule as such numbers
abbrev pub schedule_key : List Choice → List (List ℕ)
schedule_key schedule = map choice_key schedule

-- Does a schedule come before another?
abbrev pub comes_before : List Choice → List Choice → Bool
comes_before a b = is_lt (slice_cmp (slice_cmp nat_cmp) (schedule_key a) (schedule_key b))

-- Is a register final?
abbrev pub is_final : Problem → Reg → Bool
is_final problem r = list_any (λ f. same_reg f.0 r) problem.finals

-- the classes of the operands and outputs of a problem's items
abbrev pub classes : Problem → List RegSet
classes problem =
    flat_map (λ info. info.in_sets ++ info.out_sets) problem.graph.infos

-- Are two registers of one kind: of one bank and of the same classes, and neither is final?
abbrev pub same_kind : Problem → Reg → Reg → Bool
same_kind problem a b =
    (bank_number a.bank == bank_number b.bank
    && (not (is_final problem a) && not (is_final problem b)))
    && list_all (λ set. same_bool (set_has set a) (set_has set b)) (classes problem)

-- Is an output of an item final somewhere?
abbrev pub is_final_output : Problem → ℕ → ℕ → Bool
is_final_output problem item place =
    list_any (λ f. same_source f.1 (Item item place)) problem.finals

-- Is there an output at a place, and is it tied?
abbrev pub tied_at : Option (Option ℕ) → Bool
tied_at None = false
tied_at (Some tied) = is_some tied

-- Is an output tied?
abbrev pub is_tied_output : Problem → ℕ → ℕ → Bool
is_tied_output problem item place =
    tied_at (slice_get (info_in problem item).tied place)

-- the registers of a choice's outputs, with their places
abbrev pub placed_outputs : Choice → List (ℕ × Reg)
placed_outputs c = enumerate_from 0 (chosen c)

-- Is the register of an output free to choose: the output is neither final, tied nor the flags?
abbrev pub is_free_output : Problem → Choice → ℕ × Reg → Bool
is_free_output problem c x =
    not (is_final_output problem c.item x.0)
    && (not (is_tied_output problem c.item x.0) && not (is_flags x.1))

-- Is a register taken by another output of the choice: by one that isn't free
-- to choose, or by an earlier one?
abbrev pub is_taken : Problem → Choice → ℕ → Reg → Bool
is_taken problem c place r =
    list_any (λ x. same_reg x.1 r
    && (nat_lt x.0 place || (not (x.0 == place) && not (is_free_output problem c x))))
    (placed_outputs c)

-- May an output of a choice go to another register, as far as the rules on
-- outputs and on overwriting say?
abbrev pub could_take : Problem → List Choice → Choice → ℕ → Reg → Bool
could_take problem done c place r =
    list_all (λ x. not (x.0 == place)
    || suits_output problem c.item (x.0, ((r, x.1.0.1), x.1.1))) (output_classes problem c)
    && may_overwrite problem done c.item r

-- A choice is reduced: each output that is free to choose is in the least register of its kind that
-- it could take, other than those that are taken.
pub record IsReducedNext (problem : Problem) (done : List Choice)
    (c : Choice) : Type 0 where
  pub least : (place : ℕ) (r other : Reg) → slice_get (chosen c) place ≡ Some r
      → is_free_output problem c (place, r) ≡ true
      → same_kind problem r other ≡ true → could_take problem done c place other ≡ true
      → is_taken problem c place other ≡ false
      → bit_of r.bank r.number ≤ bit_of other.bank other.number

-- Each choice of a list, after those before it, is reduced.
abbrev pub IsReducedFrom : Problem → List Choice → List Choice → Type 0
IsReducedFrom problem done [] = Unit {0}
IsReducedFrom problem done (c ∷ choices) =
    IsReducedNext problem done c × IsReducedFrom problem (c ∷ done) choices

-- The stated space of a straight problem: its full legal lists of reduced
-- choices with at most so many stalls.
pub record InSpace (problem : Problem) (most : ℕ)
    (schedule : List Choice) : Type 0 where
  pub legal : IsFullLegal problem schedule
  pub reduced : IsReducedFrom problem [] schedule
  pub stalls : stalls_of problem schedule ≤ most

-- The best of a space: no member has fewer stalls, and of those with as many none comes before it.
pub record IsBest (problem : Problem) (most : ℕ) (schedule : List Choice) : Type 0 where
  pub member : InSpace problem most schedule
  pub fewest : (other : List Choice) → InSpace problem most other
      → stalls_of problem schedule ≤ stalls_of problem other
  pub first : (other : List Choice) → InSpace problem most other
      → stalls_of problem other ≡ stalls_of problem schedule → comes_before other schedule ≡ false
