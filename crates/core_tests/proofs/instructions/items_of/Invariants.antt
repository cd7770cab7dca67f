use Rattle.std.proofs.Common.{◌≡◌, length}
use Rattle.sl_model.specs.Lawful.{AreValid}
use Rattle.arm64_table.specs.Arm64.{arm64}
use Rattle.core_tests.proofs.instructions.items_of.Given as goal

-- the items so far are instructions of the set, one for each text
abbrev pub invariant-loop-text : goal.invariant-loop-text
invariant-loop-text l = record {
  valid : AreValid arm64.isa l.items.items;
  count : length l.items.items ≡ l.text-index;
}
