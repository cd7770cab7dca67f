-- When items are issued, recounted from the first one. A core issues items in order, at most as
-- many in a cycle as it is wide, each when its operands and its unit are ready. Source: the
-- in-order issue model of SLOTHY (TCHES 2024).
use Rattle.std.specs.Prelude.{ℕ, Bool, false, ◌+◌, ◌-◌, ◌/◌, ◌==◌, ◌&&◌, ◌<◌, ◌≤◌, nat_lt, max, List, [], ◌∷◌, ◌++◌, length, slice_index_or, Option, None, Some, if◌then◌else◌}
use Rattle.sl_model.specs.declared.schedule.Source.{Source}
use Rattle.sl_model.specs.declared.schedule.Source.TheVariants.{Entry, Item}
use Rattle.sl_model.specs.declared.schedule.Choice.{Choice}
use Rattle.sl_model.specs.declared.schedule.CostRow.{CostRow}
use Rattle.sl_model.specs.declared.schedule.Forward.{Forward}

-- what a push asks for: how many items may be issued in a cycle, the unit, how long the unit is
-- kept, and the first cycle at which the operands are ready
pub record Push : Type 0 where
  pub width : ℕ
  pub unit : ℕ
  pub busy : ℕ
  pub ready : ℕ

-- what was issued: the unit, how long it is kept, and the cycle
pub record Issued : Type 0 where
  pub unit : ℕ
  pub busy : ℕ
  pub cycle : ℕ

-- In what follows `done` is what was issued so far, the last first.

-- how many were issued at a cycle
unfoldable pub issued_at : ℕ → List Issued → ℕ
issued_at cycle [] = 0
issued_at cycle (i ∷ done) = (if i.cycle == cycle then 1 else 0) + issued_at cycle done

-- The first cycle with a slot: that of the last item, or the next one where as many
-- were issued as the core is wide.
unfoldable pub first_slot : ℕ → List Issued → ℕ
first_slot width [] = 0
first_slot width (i ∷ done) =
    if nat_lt (issued_at i.cycle (i ∷ done)) width then i.cycle else i.cycle + 1

-- the first cycle at which a unit is free: `busy` cycles after each item that it took
unfoldable pub unit_free : ℕ → List Issued → ℕ
unit_free unit [] = 0
unit_free unit (i ∷ done) =
    max (if i.unit == unit then i.cycle + i.busy else 0) (unit_free unit done)

-- the least cycle that has a slot, at which the operands are ready and the unit is free
unfoldable pub next_cycle : ℕ → ℕ → ℕ → List Issued → ℕ
next_cycle width unit ready done = max (first_slot width done) (max ready (unit_free unit done))

-- the cycle of the last item, and 0 where there is none
abbrev pub last_cycle : List Issued → ℕ
last_cycle [] = 0
last_cycle (i ∷ done) = i.cycle

-- The four conditions of the issue rule on the cycle of an item: it isn't below that of
-- the item before it, fewer items than the core is wide were issued at it, the operands
-- are ready, and the unit is free.
pub record MayIssue (width unit ready : ℕ) (done : List Issued) (cycle : ℕ) : Type 0 where
  pub in_order : last_cycle done ≤ cycle
  pub slot : issued_at cycle done < width
  pub operands_ready : ready ≤ cycle
  pub unit_is_free : unit_free unit done ≤ cycle

-- a push, issued behind what was issued so far
abbrev pub issue : Push → List Issued → Issued
issue p done =
    record { unit = p.unit; busy = p.busy; cycle = next_cycle p.width p.unit p.ready done }

-- pushes issued one after the other, behind what was issued so far
unfoldable pub issued_from : List Issued → List Push → List Issued
issued_from done [] = done
issued_from done (p ∷ pushes) = issued_from (issue p done ∷ done) pushes

-- all pushes, counted from the first
abbrev pub issued : List Push → List Issued
issued pushes = issued_from [] pushes

-- how many cycles are taken: one more than the last item's, and 0 where there is none
abbrev pub cycle_count : List Issued → ℕ
cycle_count [] = 0
cycle_count (i ∷ done) = i.cycle + 1

-- the cycles of what was issued, from the first on
abbrev pub cycles_of : List Issued → List ℕ
cycles_of [] = []
cycles_of (i ∷ done) = cycles_of done ++ i.cycle ∷ []

-- a quotient, rounded up
abbrev pub ceil_div : ℕ → ℕ → ℕ
ceil_div n width = (n + width - 1) / width

-- the cycles that a list takes beyond those that its items fill
abbrev pub stalls : ℕ → List Issued → ℕ
stalls width done = cycle_count done - ceil_div (length done) width

-- What a core tells of the items of a list: how many are issued in a cycle, each item's row, and
-- the latencies of their own that some pairs of classes have.
pub record CostTable : Type 0 where
  pub width : ℕ
  pub rows : List CostRow
  pub forwards : List Forward

-- the row of no item
abbrev pub no_row : CostRow
no_row = record { class = 0; units = 0; busy = 0; latency = 0; writeback = 0; back = None }

-- the row of an item
abbrev pub row_of : CostTable → ℕ → CostRow
row_of costs item = slice_index_or costs.rows item no_row

-- the latency of a forward from one class to an operand of another, or a given one
-- where there is no such forward
unfoldable pub forward_or : List Forward → ℕ → ℕ → ℕ → ℕ → ℕ
forward_or [] from to operand latency = latency
forward_or (f ∷ forwards) from to operand latency =
    if f.from == from && (f.to == to && f.operand == operand) then f.latency
    else forward_or forwards from to operand latency

-- Is this the place?
abbrev pub is_place : Option ℕ → ℕ → Bool
is_place None place = false
is_place (Some at) place = at == place

-- After how many cycles an output of an item is ready for an operand of another: for a
-- written-back base the `writeback` of the class; else the latency of the forward for the two
-- classes and the operand; else the `latency`.
unfoldable pub ready_after : CostTable → ℕ → ℕ → ℕ → ℕ → ℕ
ready_after costs from place to operand =
    let row = row_of costs from in
    if is_place row.back place then row.writeback
    else forward_or costs.forwards row.class (row_of costs to).class operand row.latency

-- In what follows `choices` are those made so far, the last first, as what was issued for them.

-- the cycle of an item
unfoldable pub cycle_of : ℕ → List Choice → List Issued → ℕ
cycle_of item [] done = 0
cycle_of item (c ∷ choices) [] = 0
cycle_of item (c ∷ choices) (i ∷ done) =
    if c.item == item then i.cycle else cycle_of item choices done

-- when a source is ready for an operand of an item
abbrev pub ready_at : CostTable → List Choice → List Issued → ℕ → ℕ → Source → ℕ
ready_at costs choices done to operand (Entry r) = 0
ready_at costs choices done to operand (Item from place) =
    cycle_of from choices done + ready_after costs from place to operand

-- when all sources of an item are ready, which are those of its operands from a number on
unfoldable pub ready_from : CostTable → List Choice → List Issued → ℕ → ℕ → List Source → ℕ
ready_from costs choices done to operand [] = 0
ready_from costs choices done to operand (s ∷ sources) =
    max (ready_at costs choices done to operand s)
    (ready_from costs choices done to (operand + 1) sources)

-- what the choice of an item and its unit pushes, where the item's sources are these
abbrev pub push_of : CostTable → List Source → List Choice → List Issued → Choice → Push
push_of costs sources choices done c = record {
  width = costs.width;
  unit = c.unit;
  busy = (row_of costs c.item).busy;
  ready = ready_from costs choices done c.item 0 sources;
}

-- choices issued one after the other, behind those made so far; `sources` gives those of each item
unfoldable pub timed_from : CostTable → (ℕ → List Source) → List Choice → List Issued → List Choice
    → List Issued
timed_from costs sources choices done [] = done
timed_from costs sources choices done (c ∷ rest) =
    timed_from costs sources (c ∷ choices)
    (issue (push_of costs (sources c.item) choices done c) done ∷ done) rest

-- a schedule, counted from its first choice
abbrev pub timed : CostTable → (ℕ → List Source) → List Choice → List Issued
timed costs sources schedule = timed_from costs sources [] [] schedule
