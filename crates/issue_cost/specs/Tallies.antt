-- What a tally keeps of the items issued so far.
use Rattle.std.specs.Prelude.{◌≡◌, ℕ, ◌<◌, ◌≤◌, List, [], ◌∷◌, length, slice_index}
use Rattle.sl_model.specs.Cycles.{Issued, last_cycle, issued_at, unit_free}
use Rattle.issue_cost.specs.declared.tally.Tally.{Tally}

-- No item was issued after a cycle.
abbrev pub NoneAfter : ℕ → List Issued → Type 0
NoneAfter cycle [] = Unit {0}
NoneAfter cycle (i ∷ done) = (i.cycle ≤ cycle) × NoneAfter cycle done

-- A tally has the last cycle, how many items were issued at it, and from when on each unit is free.
pub record Tallies (done : List Issued) (tally : Tally) : Type 0 where
  pub last : tally.cycle ≡ last_cycle done
  pub none_after : NoneAfter tally.cycle done
  pub count : tally.count ≡ issued_at tally.cycle done
  pub units : length tally.free ≡ 16
  pub free : (unit : ℕ) → unit < 16 → slice_index tally.free unit ≡ unit_free unit done
