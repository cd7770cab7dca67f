-- What items cost on a core. Source: this project's own core tables.
use Rattle.std.specs.Prelude.{ℕ, Bool, nat_lt, ◌^◌, bit_or, List, [], length, Option, None, Some, Result, Ok, Err}
use Rattle.std.specs.List.{fold}
use Rattle.sl_model.specs.declared.instruction.FormInfo.{FormInfo}
use Rattle.sl_model.specs.declared.instruction.Instr.{Instr}
use Rattle.sl_model.specs.declared.schedule.CostRow.{CostRow}
use Rattle.sl_model.specs.Cycles.{CostTable}
use Rattle.sl_model.specs.Isa.{Isa}
use Rattle.sl_model.specs.ResultSteps.{◌>>=◌}
use Rattle.core_text.specs.Core.{ClassCost, CoreTable, entry_of}
use Rattle.core_text.specs.InTurn.{in_turn}
use Rattle.core_models.specs.declared.rows.CostErr.{CostErr}
use Rattle.core_models.specs.declared.rows.CostErr.TheVariants.{ClassMissing, NoMemory}

-- an item whose class has no entry, and the class
pub record Lacking : Type 0 where
  pub item : ℕ
  pub class : ℕ

-- what a failure says of an item: want of memory says nothing
abbrev pub lacking_of : CostErr → Option Lacking
lacking_of (ClassMissing item class) = Some (record { item = item; class = class })
lacking_of NoMemory = None

-- a unit beside those of a set: bit u for unit u
abbrev pub with_unit : ℕ → ℕ → ℕ
with_unit set unit = bit_or (2 ^ unit) set

-- the set of some units
abbrev pub unit_set : List ℕ → ℕ
unit_set units = fold with_unit 0 units

-- Has a row only units below a number?
abbrev pub has_known_units : ℕ → CostRow → Bool
has_known_units count row = nat_lt row.units (2 ^ count)

-- the row of an item of a form, by what the core tells of its class
abbrev pub row_for : FormInfo → ClassCost → CostRow
row_for info entry = record {
  class = info.class;
  units = unit_set entry.units;
  busy = entry.busy;
  latency = entry.latency;
  writeback = entry.writeback;
  back = info.back;
}

-- the row of the item at a place, or what it lacks
abbrev pub row_or : FormInfo → ℕ → Option ClassCost → Result CostRow Lacking
row_or info place None = Err (record { item = place; class = info.class })
row_or info place (Some entry) = Ok (row_for info entry)

-- the same, by the core
abbrev pub row_at : CoreTable → FormInfo → ℕ → Result CostRow Lacking
row_at core info place = row_or info place (entry_of core info.class)

-- the row of the next item, which stands behind those that have these rows
abbrev pub row_next : CoreTable → Isa → List CostRow → Instr → Result CostRow Lacking
row_next core isa before i = row_at core (isa.info i.form) (length before)

-- What a core tells of items: its width, a row for each item, and its forwards; or the first item
-- whose class has no entry.
unfoldable pub costs_of : CoreTable → Isa → List Instr → Result CostTable Lacking
costs_of core isa items = do
  rows ← in_turn (row_next core isa) [] items
  Ok (record { width = core.width; rows = rows; forwards = core.forwards })
