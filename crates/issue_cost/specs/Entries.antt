-- What the entries of an `Issue` keep.
use Rattle.std.specs.Prelude.{ℕ, ◌+◌, ◌*◌, ◌^◌, ◌≤◌, List, [], ◌∷◌, length, Option, IfSome}
use Rattle.sl_model.specs.Cycles.{Push, Issued, issue}
use Rattle.issue_cost.specs.declared.issue.Entry.{Entry}
use Rattle.issue_cost.specs.Tallies.{Tallies}

-- the push of an entry
abbrev pub pushed : Entry → Push
pushed e = record { width = e.width; unit = e.unit; busy = e.busy; ready = e.ready }

-- An entry keeps its push, with small numbers, and the tally of the items up to it.
pub record IsCounted (done : List Issued) (e : Entry) : Type 0 where
  pub ready_fits : e.ready ≤ 2 ^ 30 + 256 * length done
  pub busy_fits : e.busy ≤ 255
  pub tally : Tallies (issue (pushed e) done ∷ done) e.tally

-- Each entry is counted behind those before it.
unfoldable pub AreCounted : List Issued → List Entry → Type 0
AreCounted done [] = Unit {0}
AreCounted done (e ∷ entries) = IsCounted done e × AreCounted (issue (pushed e) done ∷ done) entries

-- There is room for at most 131072 entries, all there are have room, each is counted, and a break
-- was made behind some of them.
pub record IsKept (room : ℕ) (entries : List Entry) (pass : Option ℕ) : Type 0 where
  pub small : room ≤ 131072
  pub few : length entries ≤ room
  pub counted : AreCounted [] entries
  pub break_within : IfSome pass (λ place. place ≤ length entries)
