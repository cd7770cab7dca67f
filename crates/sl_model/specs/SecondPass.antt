-- When the items of a loop's body are issued in the second pass: behind the first one, on the same
-- units, from the cycle after the first one's last on. Source: the steady state of a software
-- pipeline, as SLOTHY (TCHES 2024) counts the cycles of a loop.
use Rattle.std.specs.Prelude.{ℕ, ◌+◌, ◌-◌, max, List, [], ◌∷◌, ◌++◌, length, reverse}
use Rattle.sl_model.specs.declared.schedule.Choice.{Choice}
use Rattle.sl_model.specs.declared.schedule.Source.{Source}
use Rattle.sl_model.specs.declared.schedule.Source.TheVariants.{Entry, Item}
use Rattle.sl_model.specs.Body.{held}
use Rattle.sl_model.specs.Cycles.{Push, Issued, CostTable, row_of, issue, cycle_count, cycle_of, ready_after, ready_at, timed, ceil_div}

-- a push that isn't issued before a cycle
abbrev pub not_before : ℕ → Push → Push
not_before start p = record {
  width = p.width;
  unit = p.unit;
  busy = p.busy;
  ready = max start p.ready;
}

-- In what follows `first` is the choices of the first pass and `before` what was issued for them,
-- `choices` is the choices of the second pass so far and `since` what was issued for those, each
-- with the last first.

-- When a source is ready: an output when it is in this pass; an entry when the value is that stands
-- in its register behind the first pass.
unfoldable pub ready_again_at : CostTable → List Choice → List Issued → List Choice → List Issued
    → ℕ → ℕ → Source → ℕ
ready_again_at costs first before choices since to operand (Entry r) =
    ready_at costs first before to operand (held first r)
ready_again_at costs first before choices since to operand (Item from place) =
    cycle_of from choices since + ready_after costs from place to operand

-- when all sources of an item are ready, which are those of its operands from a number on
unfoldable pub ready_again : CostTable → List Choice → List Issued → List Choice → List Issued
    → ℕ → ℕ → List Source → ℕ
ready_again costs first before choices since to operand [] = 0
ready_again costs first before choices since to operand (s ∷ sources) =
    max (ready_again_at costs first before choices since to operand s)
    (ready_again costs first before choices since to (operand + 1) sources)

-- what the choice of an item and its unit pushes, where the item's sources are these
abbrev pub push_again : CostTable → List Source → List Choice → List Issued → List Choice
    → List Issued → Choice → Push
push_again costs sources first before choices since c = not_before (cycle_count before) (record {
  width = costs.width;
  unit = c.unit;
  busy = (row_of costs c.item).busy;
  ready = ready_again costs first before choices since c.item 0 sources;
})

-- the second pass behind its choices so far; `sources` gives those of each item
unfoldable pub again_from : CostTable → (ℕ → List Source) → List Choice → List Issued
    → List Choice → List Issued → List Choice → List Issued
again_from costs sources first before choices since [] = since
again_from costs sources first before choices since (c ∷ rest) =
    again_from costs sources first before (c ∷ choices)
    (issue (push_again costs (sources c.item) first before choices since c) (since ++ before)
    ∷ since) rest

-- the second pass of a schedule
abbrev pub timed_again : CostTable → (ℕ → List Source) → List Choice → List Issued
timed_again costs sources schedule =
    again_from costs sources (reverse schedule) (timed costs sources schedule) [] [] schedule

-- how many cycles the second pass takes, counted from its start
abbrev pub loop_cycles : CostTable → (ℕ → List Source) → List Choice → ℕ
loop_cycles costs sources schedule =
    cycle_count (timed_again costs sources schedule) - cycle_count (timed costs sources schedule)

-- the cycles that it takes beyond those that its items fill
abbrev pub loop_stalls : CostTable → (ℕ → List Source) → List Choice → ℕ
loop_stalls costs sources schedule =
    loop_cycles costs sources schedule - ceil_div (length schedule) costs.width
