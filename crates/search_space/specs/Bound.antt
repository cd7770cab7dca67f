-- The bound of a list of choices: how many stalls any schedule that begins with them has at least.
-- Source: lower bounds of list scheduling, by the slots that are left and by the longest path of
-- latencies.
use Rattle.std.specs.Prelude.{ℕ, zero, suc, ◌+◌, ◌-◌, ◌==◌, max, map, List, [], ◌∷◌, length, if◌then◌else◌}
use Rattle.std.specs.List.{enumerate_from}
use Rattle.sl_model.specs.declared.schedule.Source.{Source}
use Rattle.sl_model.specs.declared.schedule.Source.TheVariants.{Entry, Item}
use Rattle.sl_model.specs.declared.schedule.Choice.{Choice}
use Rattle.sl_model.specs.Cycles.{Issued, first_slot, issued_at, issue, push_of, ceil_div, ready_at, ready_after}
use Rattle.sl_model.specs.Body.{is_placed}
use Rattle.sl_model.specs.Legal.{Problem, sources_in}

-- In what follows `done` is the choices made so far, the last first.

-- what was issued for them, the last first
unfoldable pub issued_for : Problem → List Choice → List Issued
issued_for problem [] = []
issued_for problem (c ∷ done) =
    issue (push_of problem.costs (sources_in problem c.item) done (issued_for problem done) c)
    (issued_for problem done) ∷ issued_for problem done

-- the greatest of numbers, and 0 where there is none
unfoldable pub greatest : List ℕ → ℕ
greatest [] = 0
greatest (n ∷ numbers) = max n (greatest numbers)

-- The cycles that so many items take at least, where these were issued and each further one gets
-- the next slot.
unfoldable pub filled : ℕ → ℕ → List Issued → ℕ
filled width items [] = ceil_div items width
filled width items (i ∷ done) =
    let room = width - issued_at i.cycle (i ∷ done) in
    i.cycle + 1 + ceil_div (items - length (i ∷ done) - room) width

-- when a source is ready for an operand of an item, as far as it was placed
abbrev pub known_at : Problem → List Choice → ℕ → ℕ → Source → ℕ
known_at problem done to operand (Entry r) = 0
known_at problem done to operand (Item from place) =
    if is_placed done from
    then ready_at problem.costs done (issued_for problem done) to operand (Item from place) else 0

-- when all placed sources of an item are ready, which are those of its operands from a number on
unfoldable pub known_from : Problem → List Choice → ℕ → ℕ → List Source → ℕ
known_from problem done to operand [] = 0
known_from problem done to operand (s ∷ sources) =
    max (known_at problem done to operand s) (known_from problem done to (operand + 1) sources)

-- the first cycle with a slot, or a later one at which the placed sources of an item are ready
unfoldable pub earliest : Problem → List Choice → ℕ → ℕ
earliest problem done item =
    max (first_slot problem.costs.width (issued_for problem done))
    (known_from problem done item 0 (sources_in problem item))

-- What comes behind an item by way of an operand of another: the latency to it, and the other's
-- height; 0 where the operand reads no output of the item.
abbrev pub way : Problem → (ℕ → ℕ) → ℕ → ℕ → ℕ × Source → ℕ
way problem height item reader (operand, Entry r) = 0
way problem height item reader (operand, Item from place) =
    if from == item then ready_after problem.costs item place reader operand + height reader else 0

-- the greatest of the ways by the operands of another item
unfoldable pub way_by : Problem → (ℕ → ℕ) → ℕ → ℕ → ℕ
way_by problem height item reader =
    greatest (map (way problem height item reader) (enumerate_from 0 (sources_in problem reader)))

-- The cycles from an item's own to the end of its longest path of readers, of which there are at
-- most so many on a path: 1 where no item reads it, else the greatest sum of a latency to a reader
-- and the reader's height.
unfoldable pub height_within : ℕ → Problem → ℕ → ℕ
height_within zero problem item = 1
height_within (suc readers) problem item =
    max 1 (greatest (map (way_by problem (height_within readers problem) item) problem.graph.order))

-- the height of an item: no path has more readers than there are items
abbrev pub height : Problem → ℕ → ℕ
height problem item = height_within (length problem.graph.items) problem item

-- the cycles that an item needs at least, where it wasn't placed
abbrev pub needs : Problem → List Choice → ℕ → ℕ
needs problem done item =
    if is_placed done item then 0 else earliest problem done item + height problem item

-- the greatest of what the unplaced items need
unfoldable pub needed : Problem → List Choice → ℕ
needed problem done = greatest (map (needs problem done) problem.graph.order)

-- The bound is the greatest of three numbers of cycles, less those that the items fill.
unfoldable pub bound : Problem → List Choice → ℕ
bound problem done =
    let all = ceil_div (length problem.graph.items) problem.costs.width in
    max all (max (filled problem.costs.width (length problem.graph.items) (issued_for problem done))
    (needed problem done)) - all
