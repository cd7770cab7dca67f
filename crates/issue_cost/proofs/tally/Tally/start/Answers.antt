use Rattle.std.proofs.Common.{ℕ, ◌<◌, refl}
use Rattle.std.proofs.lemmas.List.{get_or-replicate}
use Rattle.sl_model.specs.Cycles.{issued_at, unit_free}
use Rattle.issue_cost.proofs.tally.Tally.start.Goals as goal

pub returns : goal.returns
unfolding issued_at unit_free
returns c = record {
  last = refl;
  none_after = tt;
  count = refl;
  units = refl;
  free = λ (unit : ℕ) (known : unit < 16). get_or-replicate 16 unit 0 0 known;
}
