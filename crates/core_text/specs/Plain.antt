-- The core `one:L`. Source: this project's own core tables.
use Rattle.std.specs.Prelude.{ℕ, zero, suc, List, [], ◌∷◌, ◌++◌, length, codes}
use Rattle.sl_model.specs.declared.instruction.ArchName.{ArchName}
use Rattle.core_text.specs.ClassNames.{class_names}
use Rattle.core_text.specs.Core.{ClassCost, CoreTable}

-- a class on unit 0, which an item keeps for one cycle; each of its results is ready after so many
abbrev pub plain_cost : ℕ → ℕ → ClassCost
plain_cost latency class = record {
  class = class;
  units = 0 ∷ [];
  busy = 1;
  latency = latency;
  writeback = latency;
}

-- the first classes, so many
unfoldable pub plain_costs : ℕ → ℕ → List ClassCost
plain_costs latency zero = []
plain_costs latency (suc n) = plain_costs latency n ++ plain_cost latency n ∷ []

-- the core `one:L`: it issues an item in a cycle, on its one unit, and each class has an entry
unfoldable pub plain_core : ArchName → ℕ → CoreTable
plain_core arch latency = record {
  width = 1;
  units = codes "u" ∷ [];
  classes = plain_costs latency (length (class_names arch));
  forwards = [];
}
