-- A region on a core.
use Rattle.std.specs.Prelude.{ℕ, ◌≡◌, ◌<◌, length}
use Rattle.std.specs.Int.{bit_at}
use Rattle.sl_model.specs.Cycles.{CostTable, row_of}
use Rattle.sl_isa.specs.Language.{Language}
use Rattle.asm_reader.specs.Reading.{Region}
use Rattle.asm_reader.specs.Regions.{IsRegion}
use Rattle.core_text.specs.Core.{CoreTable}
use Rattle.slothy_cli.specs.Command.{region_wants}

-- the core, the region, and what its items cost there
pub record Setting : Type 0 where
  pub core : CoreTable
  pub region : Region
  pub costs : CostTable

-- What holds of each: the region's items are as wanted, each has a row of what it costs, and the
-- units that take it are the core's.
pub record IsSetting (language : Language) (setting : Setting) : Type 0 where
  pub right : IsRegion language region_wants setting.region
  pub rows : length setting.costs.rows ≡ length setting.region.items
  pub units : (item unit : ℕ) → bit_at (row_of setting.costs item).units unit ≡ 1
      → unit < length setting.core.units
