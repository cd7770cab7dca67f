use Rattle.std.proofs.Common.{◌≡◌, ◌+◌, ◌*◌, map, drop}
use Rattle.macro_expand.specs.Filled.{value_of, filled, has_unknown}
use Rattle.sl_model.specs.Text.{Parts}
use Rattle.macro_expand.specs.Slices.{AreBody, AreLists, AreMacros, AreSlices, KnowsSlices}
use Rattle.macro_expand.specs.Source.{parted}
use Rattle.macro_expand.specs.Spelled.{spelled, spelled_lists, names_in}
use Rattle.macro_expand.specs.Views.{known_of, what_of, step_at}
use Rattle.macro_expand.specs.Expansion.{expand_all, in_turn}
use Rattle.macro_expand.proofs.expansion.+expansion.Given as goal

-- the depth falls at each invocation, and between two of them the calls go down
abbrev pub decreases-run : goal.decreases-run
decreases-run l = 5 * l.place.deeper

abbrev pub decreases-statement : goal.decreases-statement
decreases-statement l = 5 * l.place.deeper + 1

abbrev pub decreases-expand_statement : goal.decreases-expand_statement
decreases-expand_statement l = 5 * l.place.deeper + 2

abbrev pub decreases-expand_one : goal.decreases-expand_one
decreases-expand_one l = 5 * l.place.deeper + 3

abbrev pub decreases-expand_all : goal.decreases-expand_all
decreases-expand_all l = 5 * l.place.deeper + 4

-- what is known so far, with what is left of the body, gives what the body gives
abbrev pub invariant-expand_all-loop-what : goal.invariant-expand_all-loop-what
invariant-expand_all-loop-what l =
    (expand_all (step_at l.place) l.place.line (value_of (names_in l.names) (spelled_lists l.values)) (map what_of (drop l.what-index l.body)) (known_of l.known)
    ≡ expand_all (step_at l.place) l.place.line (value_of (names_in l.names) (spelled_lists l.values)) (map what_of l.body) (known_of l.fn.known))
    × ((texts : Parts) → AreMacros texts l.place.macros.now → AreLists texts l.values → AreBody texts l.body → KnowsSlices texts l.fn.known → KnowsSlices texts l.known)

abbrev pub invariant-expand_statement-loop-list : goal.invariant-expand_statement-loop-list
invariant-expand_statement-loop-list l =
    (in_turn (step_at l.place l.unknown) (spelled_lists (drop l.list-index l.list-items)) (known_of l.known)
    ≡ in_turn (step_at l.place (has_unknown (value_of (names_in l.names) (spelled_lists l.values)) 0 (spelled l.parts)))
    (parted (filled (value_of (names_in l.names) (spelled_lists l.values)) 0 (spelled l.parts))) (known_of l.fn.known))
    × ((texts : Parts) → AreMacros texts l.place.macros.now → AreLists texts l.values → AreSlices texts l.parts → KnowsSlices texts l.fn.known → KnowsSlices texts l.known)
