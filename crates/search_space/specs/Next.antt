-- The choices that may come next, in their order. Source: the rules on one choice after another, as
-- a test of each choice that there is.
use Rattle.std.specs.Prelude.{ℕ, Bool, true, zero, suc, ◌&&◌, ◌||◌, not, nat_lt, map, filter, is_some, List, [], ◌∷◌, length, Option, None, Some}
use Rattle.std.specs.List.{list_all, list_any, flat_map, find}
use Rattle.std.specs.Ordering.{nat_cmp, is_lt}
use Rattle.std.specs.Cmp.Lexicographic.{slice_cmp}
use Rattle.sl_model.specs.declared.register.Reg.{Reg}
use Rattle.sl_model.specs.declared.schedule.Choice.{Choice}
use Rattle.sl_model.specs.RegSets.{bit_of}
use Rattle.sl_model.specs.Source.{numbers_below, padded}
use Rattle.sl_model.specs.Body.{stands_in}
use Rattle.sl_model.specs.Legal.{Problem, first_broken}
use Rattle.sl_model.specs.Space.{choice_key, same_kind, is_free_output, could_take, is_taken, placed_outputs}
use Rattle.search_space.specs.Searchable.{output_room, unit_room, output_count}
pub use Rattle.sl_model.specs.RegSets.{machine_reg, bank_regs}
-- the registers of the machine, which are tried in this order
unfoldable pub use Rattle.sl_model.specs.RegSets.{machine_regs}

-- ---- every choice

-- the lists of so many registers, in their order
unfoldable pub reg_lists : ℕ → List (List Reg)
reg_lists zero = [] ∷ []
reg_lists (suc n) = flat_map (λ r. map (λ regs. r ∷ regs) (reg_lists n)) machine_regs

-- an item on a unit, with its outputs in these registers
abbrev pub choice_in : ℕ → ℕ → List Reg → Choice
choice_in item unit regs = record { item = item; unit = unit; outs = padded output_room regs }

-- the choices of an item on a unit, in their order
unfoldable pub choices_on : Problem → ℕ → ℕ → List Choice
choices_on problem item unit = map (choice_in item unit) (reg_lists (output_count problem item))

-- the choices of an item, in their order
unfoldable pub choices_of : Problem → ℕ → List Choice
choices_of problem item = flat_map (choices_on problem item) (numbers_below unit_room)

-- every choice: each item on each unit, with its outputs in any registers; in their order
unfoldable pub every_choice : Problem → List Choice
every_choice problem = flat_map (choices_of problem) (numbers_below (length problem.graph.items))

-- Does a choice come before another?
abbrev pub choice_before : Choice → Choice → Bool
choice_before a b = is_lt (slice_cmp nat_cmp (choice_key a) (choice_key b))

-- ---- those that may come

-- In what follows `done` is the choices made so far, the last first.

-- Could an output of a choice go to a lower register of its kind, other than those that are taken?
unfoldable pub could_go_lower : Problem → List Choice → Choice → ℕ → Reg → Bool
could_go_lower problem done c place r =
    list_any (λ other. nat_lt (bit_of other.bank other.number) (bit_of r.bank r.number)
    && (same_kind problem r other
    && (could_take problem done c place other && not (is_taken problem c place other)))) machine_regs

-- Is a choice reduced: is each output that is free to choose in the least register of its kind that
-- it could take?
unfoldable pub is_reduced : Problem → List Choice → Choice → Bool
is_reduced problem done c =
    list_all (λ x. not (is_free_output problem c x) || not (could_go_lower problem done c x.0 x.1))
    (placed_outputs c)

-- May a choice come next: is its item one of the problem, does it break no rule, and is it reduced?
unfoldable pub may_come : Problem → List Choice → Choice → Bool
may_come problem done c =
    stands_in c.item problem.graph.order
    && (not (is_some (first_broken problem done c)) && is_reduced problem done c)

-- the choices that may come next, in their order
unfoldable pub next_choices : Problem → List Choice → List Choice
next_choices problem done = filter (may_come problem done) (every_choice problem)

-- Does a choice come behind another, where there is another?
abbrev pub is_behind : Option Choice → Choice → Bool
is_behind None c = true
is_behind (Some a) c = choice_before a c

-- Does a choice come behind another, and may it come next?
abbrev pub may_follow : Problem → List Choice → Option Choice → Choice → Bool
may_follow problem done after c = is_behind after c && may_come problem done c

-- the first choice that may come next behind another
unfoldable pub next_behind : Problem → List Choice → Option Choice → Option Choice
next_behind problem done after = find (is_behind after) (next_choices problem done)

-- the choices that may come next behind another
unfoldable pub rest_behind : Problem → List Choice → Option Choice → List Choice
rest_behind problem done after = filter (is_behind after) (next_choices problem done)
