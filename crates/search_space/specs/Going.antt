-- The lists that go on from choices made so far. Source: the tree of a depth-first search, as a list.
use Rattle.std.specs.Prelude.{ℕ, zero, suc, filter, List, [], ◌∷◌, length, reverse}
use Rattle.std.specs.List.{flat_map}
use Rattle.sl_model.specs.declared.schedule.Choice.{Choice}
use Rattle.sl_model.specs.Body.{is_full}
use Rattle.sl_model.specs.Legal.{Problem}
use Rattle.search_space.specs.Next.{next_choices}

-- The lists that begin with the choices made so far, the last first, and go on by `next` with at
-- most so many more, in their order: each list before those that go on from it.
unfoldable pub going_on : (List Choice → List Choice) → ℕ → List Choice → List (List Choice)
going_on next zero done = reverse done ∷ []
going_on next (suc more) done =
    reverse done ∷ flat_map (λ c. going_on next more (c ∷ done)) (next done)

-- the legal reduced lists that go on from choices made so far, the last first, with at most so many
-- more, and place all items
unfoldable pub full_from : Problem → ℕ → List Choice → List (List Choice)
full_from problem more done =
    filter (is_full problem.graph.order) (going_on (next_choices problem) more done)

-- the full legal reduced lists of a problem
abbrev pub full_lists : Problem → List (List Choice)
full_lists problem = full_from problem (length problem.graph.items) []
