use Rattle.std.proofs.Common.{◌≡◌, drop, length, true}
use Rattle.std.specs.List.{list_all}
use Rattle.issue_cost.specs.Sound.{is_sound_row}
use Rattle.core_text.proofs.ForCallers.{IsSoFar}
use Rattle.core_models.specs.Costs.{has_known_units, row_next}
use Rattle.core_models.proofs.rows.rows_of.Given as goal

-- the rows so far are those of the items so far, sound, and of known units
abbrev pub invariant-loop-place : goal.invariant-loop-place
invariant-loop-place g l = record {
  so_far : IsSoFar (row_next l.core g.A.Arch.language.isa) l.rows.items (drop l.place l.items) l.items;
  count : length l.rows.items ≡ l.place;
  sound : list_all is_sound_row l.rows.items ≡ true;
  known : list_all (has_known_units (length l.core.units)) l.rows.items ≡ true;
}
