-- What every search of schedules stands on. Each law is stated here with what it says in words, or cited from its room.
use Rattle.std.proofs.Common.{◌≡◌, ℕ, ◌≤◌, true, List, [], ◌++◌, length, reverse}
use Rattle.sl_model.specs.declared.schedule.Choice.{Choice}
use Rattle.sl_model.specs.Legal.{Problem, IsLegalNext, IsLegalFrom, IsFullLegal}
use Rattle.sl_model.specs.Space.{IsReducedNext, IsReducedFrom, InSpace, IsBest, comes_before}
use Rattle.sl_laws.proofs.Members.{Has, Ordered}
use Rattle.search_space.specs.Searchable.{IsSearchable}
use Rattle.search_space.specs.Next.{choice_before, next_choices}
use Rattle.search_space.specs.Going.{full_lists}
use Rattle.search_space.specs.Bound.{bound}
use Rattle.search_space.specs.Levels.{Tree, IsTree, begun, entries, straight_trees, verdict}
use Rattle.search_space.specs.Levels.Outcome.{Found, Spent}
use Rattle.search_space.specs.Levels.Verdict.{First, Infeasible}
use Rattle.search_space.proofs.Lists.{ordered-weaker}
use Rattle.search_space.proofs.Keys.{Before, Comes, before-test, comes-test}
use Rattle.search_space.proofs.Next.{has-next, from-next, ordered-next}
use Rattle.search_space.proofs.Full.{full-legal, has-full, ordered-full, goes-legal, goes-reduced}
use Rattle.search_space.proofs.Trees.{entry-of_tree, entry-within, has-entry, ordered-entries}
use Rattle.search_space.proofs.StraightVerdict.{verdict-best, verdict-none, verdict-ample}
-- a problem on the graph of instructions of a set, and a straight one
pub use Rattle.search_space.proofs.FromGraph.{searchable-graph, searchable-straight}
-- how many choices legal lists have
pub use Rattle.search_space.proofs.Counts.{length-standing, length-order, made-count, made-few, full-length, length-full}
-- a choice is reduced where it passes the test, and only there
pub use Rattle.search_space.proofs.Reduced.{reduced-test, reduced-from}
-- the choices that may come next, one after the other: the first behind another, and those behind that
pub use Rattle.search_space.proofs.Behind.{IsNextBehind, next_behind-some, next_behind-none, next_behind-every, rest_behind-more, rest_behind-none, rest_behind-all}
-- the same item by item, unit by unit and output by output, without the registers that needn't be tried
pub use Rattle.search_space.proofs.Walk.{none-first, none-more, some-first, next_behind-items, placed-none, choices_of-units, beginning-last, beginning-more, padded-more, last-found, more-found}
pub use Rattle.search_space.proofs.Trials.{hopeless-never, hopeless-found}
-- nothing is found where no choice passes; and lists of registers have their length
pub use Rattle.search_space.proofs.Lists.{fails-behind, find-never}
pub use Rattle.search_space.proofs.RegLists.{length-regs}
-- what a legal choice is of: an item of the problem, on one of few units
pub use Rattle.search_space.proofs.Outputs.{known-item}
pub use Rattle.search_space.proofs.Next.{legal-unit}
-- a list of choices turned round: whether it is full, and one more choice
pub use Rattle.search_space.proofs.Going.{reverse-full, reverse-more}
-- the entries of a tree: each that belongs to it, in ascending order
pub use Rattle.search_space.proofs.Trees.{has-entry, ordered-entries}
-- choices made so far, and the full lists that go on from them
pub use Rattle.search_space.proofs.Full.{made-from, made-list, full-next, full_from-full, full_from-more, full_from-none}
-- the first of the fewest stalls
pub use Rattle.search_space.proofs.Best.{IsFirst, first_fewest-some, first_fewest-none, member-from, has-member, best-from, best-some, best-none, best-full, none-full}
-- the bound: it never falls, and no full schedule has fewer stalls than the bound of a list that it begins with
pub use Rattle.search_space.proofs.BoundLaws.{timed-is, bound-legal, bound-along, bound-schedule, bound-never-falls, bound-below-stalls}
-- heights, told by those of the readers, which stand below
pub use Rattle.search_space.proofs.Heights.{height-is, height-below}
-- the entries that go on from choices made so far
pub use Rattle.search_space.proofs.Entries.{entries-past, entries-last, entries-more}
-- outcomes of lists, of one more entry and of lists that are joined
pub use Rattle.search_space.proofs.Outcomes.{IsFirstSolution, outcome-none, outcome-spent, outcome-more, found-first, nothing-none, ample, solution-parts, is-solution}
pub use Rattle.search_space.proofs.Entries.{outcome-join, decided-join, visited-none, visited-spent, visited-more, nothing-visited, visited-join, visited-front}
-- what a verdict of any trees says
pub use Rattle.search_space.proofs.Verdicts.{HaveNothing, IsFirstOutcome, IsVerdict, verdict-first, verdict-infeasible}
-- the trees of a straight problem, and where its members stand in them
pub use Rattle.search_space.proofs.StraightVerdict.{straight-tree, member-entry}

-- ---- the choices that may come next

-- The choices that may come next are the legal reduced ones, each before those behind it.
pub record AreNext (problem : Problem) (done : List Choice) : Type 0 where
  pub legal : (c : Choice) → Has c (next_choices problem done) → IsLegalNext problem done c
  pub reduced : (c : Choice) → Has c (next_choices problem done) → IsReducedNext problem done c
  pub all : (c : Choice) → IsLegalNext problem done c → IsReducedNext problem done c → Has c (next_choices problem done)
  pub ascending : Ordered (λ a b. choice_before a b ≡ true) (next_choices problem done)

-- they are
pub are-next : (problem : Problem) → IsSearchable problem → (done : List Choice) → AreNext problem done
are-next problem search done = record {
  legal = λ c h. (from-next problem search done c h).0;
  reduced = λ c h. (from-next problem search done c h).1;
  all = has-next problem search done;
  ascending = ordered-weaker Before (λ a b. choice_before a b ≡ true) before-test (next_choices problem done) (ordered-next problem search done);
}

-- ---- the full lists, and the best of them

-- The full lists are the full legal schedules of reduced choices, each before those behind it.
pub record AreFull (problem : Problem) : Type 0 where
  pub legal : (x : List Choice) → Has x (full_lists problem) → IsFullLegal problem x
  pub reduced : (x : List Choice) → Has x (full_lists problem) → IsReducedFrom problem [] x
  pub all : (x : List Choice) → IsFullLegal problem x → IsReducedFrom problem [] x → Has x (full_lists problem)
  pub ascending : Ordered (λ a b. comes_before a b ≡ true) (full_lists problem)

-- they are
pub are-full : (problem : Problem) → IsSearchable problem → AreFull problem
are-full problem search = record {
  legal = λ x h. (full-legal problem search x h).0;
  reduced = λ x h. (full-legal problem search x h).1;
  all = has-full problem search;
  ascending = ordered-weaker Comes (λ a b. comes_before a b ≡ true) comes-test (full_lists problem) (ordered-full problem search (length problem.graph.items) []);
}

-- ---- the search by levels

-- The entries of a tree at a level: each is legal and reduced, begins as the tree does and has a bound of at most the level,
-- each such list is one, and each stands before those behind it.
pub record AreEntries (tree : Tree) (level : ℕ) : Type 0 where
  pub legal : (x : List Choice) → Has x (entries tree level) → IsLegalFrom tree.problem [] x
  pub reduced : (x : List Choice) → Has x (entries tree level) → IsReducedFrom tree.problem [] x
  pub begins : (x : List Choice) → Has x (entries tree level) → (rest : List Choice) × (x ≡ begun tree.first ++ rest)
  pub within : (x : List Choice) → Has x (entries tree level) → bound tree.problem (reverse x) ≤ level
  pub all : (rest : List Choice) → IsLegalFrom tree.problem [] (begun tree.first ++ rest) → IsReducedFrom tree.problem [] (begun tree.first ++ rest)
      → bound tree.problem (reverse (begun tree.first ++ rest)) ≤ level → Has (begun tree.first ++ rest) (entries tree level)
  pub ascending : Ordered (λ a b. comes_before a b ≡ true) (entries tree level)

-- they are
pub are-entries : (tree : Tree) → IsTree tree → (level : ℕ) → AreEntries tree level
are-entries tree is_tree level = record {
  legal = λ x h. goes-legal tree.problem is_tree.searchable [] x (entry-of_tree tree is_tree level x h).goes;
  reduced = λ x h. goes-reduced tree.problem is_tree.searchable [] x (entry-of_tree tree is_tree level x h).goes;
  begins = λ x h. (let of = entry-of_tree tree is_tree level x h in (of.rest, of.is));
  within = entry-within tree is_tree level;
  all = has-entry tree is_tree level;
  ascending = ordered-weaker Comes (λ a b. comes_before a b ≡ true) comes-test (entries tree level) (ordered-entries tree is_tree level);
}

-- What the verdict of a straight problem says: the schedule that it finds is the best of the space; where it is Infeasible
-- the space is empty; and a budget of at least the number of entries of each tree at each level is never spent.
pub record LosesNothing (problem : Problem) (most budget : ℕ) : Type 0 where
  pub best : (level place : ℕ) (x : List Choice) → verdict (straight_trees problem) most budget ≡ First level place (Found x) → IsBest problem most x
  pub none : verdict (straight_trees problem) most budget ≡ Infeasible → (x : List Choice) → InSpace problem most x → ⊥
  pub ample : ((level : ℕ) (tree : Tree) → Has tree (straight_trees problem) → length (entries tree level) ≤ budget)
      → (level place : ℕ) → verdict (straight_trees problem) most budget ≡ First level place Spent → ⊥

-- it does
pub loses-nothing : (problem : Problem) → IsSearchable problem → (most budget : ℕ) → LosesNothing problem most budget
loses-nothing problem search most budget = record {
  best = verdict-best problem search most budget;
  none = verdict-none problem search most budget;
  ample = verdict-ample problem search most budget;
}
