-- What is seen of the items issued.
use Rattle.std.specs.Prelude.{ℕ, Bool, ◌+◌, ◌≤◌, List, [], ◌∷◌, length, take, Option, None, Some}
use Rattle.sl_model.specs.Cycles.{Push, Issued, issued, cycle_count, is_place}

-- the pushes made, in order, for how many there is room, and how many were made before the break
-- between two passes, where there is one
pub record Timeline : Type 0 where
  pub pushes : List Push
  pub room : ℕ
  pub pass : Option ℕ

-- The cycle from which on the items of a pass are issued: the one after the last item before the
-- break, and 0 where there is no break.
unfoldable pub start_from : List Push → Option ℕ → ℕ
start_from pushes None = 0
start_from pushes (Some place) = cycle_count (issued (take place pushes))

-- the cycle from which on one more item is issued
abbrev pub start_of : Timeline → ℕ
start_of t = start_from t.pushes t.pass

-- Was a break made, and no push since?
abbrev pub is_at_break : Timeline → Bool
is_at_break t = is_place t.pass (length t.pushes)

-- At a cycle all units are free, and no item is issued any more.
abbrev pub IsFreeBy : ℕ → List Issued → Type 0
IsFreeBy cycle [] = Unit {0}
IsFreeBy cycle (i ∷ done) = (i.cycle + 1 ≤ cycle) × (i.cycle + i.busy ≤ cycle) × IsFreeBy cycle done
