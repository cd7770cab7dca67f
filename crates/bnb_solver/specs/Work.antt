-- What a search works in. Source: the room of a depth-first search, made before it begins.
use Rattle.std.specs.Prelude.{ℕ, List}
use Rattle.sl_model.specs.declared.schedule.Choice.{Choice}

-- for how many items there is room, and the schedule that was found
pub record Work : Type 0 where
  pub room : ℕ
  pub found : List Choice
