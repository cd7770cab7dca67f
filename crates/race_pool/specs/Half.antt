-- What some of the workers of a race need, and what they leave. Source: none; the workers' own.
use Rattle.std.specs.Prelude.{◌≡◌, ℕ, ◌+◌, ◌≤◌, List, length, All, Option}
use Rattle.atomic_table.specs.Seated.{TableId}
use Rattle.atomic_table.specs.declared.shared.Seat.{Seat}
use Rattle.race_pool.specs.declared.forest.Outcome.{Outcome}
use Rattle.race_pool.specs.declared.key.Level.{Level}
use Rattle.race_pool.specs.declared.rule.View.{View}
use Rattle.race_pool.specs.declared.best.Best.{Best}
use Rattle.race_pool.specs.Decisive.{level_of}
use Rattle.race_pool.specs.Seats.{IsSeated}
use Rattle.race_pool.specs.Ended.{least, IsFound, EachEnded}

-- Workers that fit, at a seat at the word of the level; their numbers, from the first on, are below how many all are.
abbrev pub CanRun : {W : Type 0} → (ℕ → Outcome) → ℕ → (W → Type 0) → TableId → Level → ℕ → ℕ → List W → Seat (Unit {0}) View → Type 0
CanRun outcome count fits table key stride first workers seat =
    (key ≡ level_of outcome count) × IsSeated table key seat × All fits workers × (first + length workers ≤ stride)

-- As many workers as before, that fit, at a seat. The tree that comes back has something; no worker published a lower one; each has ended.
abbrev pub HasRun : {W : Type 0} → (ℕ → Outcome) → ℕ → (W → Type 0) → (W → ℕ → Type 0) → TableId → Level → ℕ → ℕ → ℕ → List W → Seat (Unit {0}) View → Option Best → Type 0
HasRun outcome count fits holds table key stride first number workers seat best =
    (length workers ≡ number) × All fits workers × IsSeated table key seat × (seat.me.0.best ≤ least count best) × IsFound outcome count best
    × EachEnded outcome count stride (least count best) holds first workers
