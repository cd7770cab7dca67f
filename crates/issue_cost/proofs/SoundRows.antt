-- The rows and the forwards of sound costs have numbers of at least 1.
use Rattle.std.proofs.Common.{◌≡◌, ℕ, ◌<◌, ◌≤◌, Bool, true, false, ◌&&◌, nat_lt, List, [], ◌∷◌, length, get_or, if◌then◌else◌, eqb, ⊎_elim, arith}
use Rattle.std.specs.List.{list_all}
use Rattle.std.proofs.lemmas.Bool.{cases_Bool, ltb-true, and_parts}
use Rattle.std.proofs.lemmas.List.Folds.{list_all_at}
use Rattle.sl_model.specs.Cycles.{forward_or}
use Rattle.sl_model.specs.declared.schedule.CostRow.{CostRow}
use Rattle.sl_model.specs.declared.schedule.Forward.{Forward}
use Rattle.issue_cost.specs.Sound.{is_sound_row, is_sound_forward}

-- each of some sound rows is sound
pub row-is_sound : (rows : List CostRow) (i : ℕ) (d : CostRow) → list_all is_sound_row rows ≡ true → i < length rows → is_sound_row (get_or rows i d) ≡ true
row-is_sound rows i d sound within =
    ⊎_elim
    (λ (holds : is_sound_row (get_or rows i d) ≡ true). holds)
    (λ (fails : is_sound_row (get_or rows i d) ≡ false).
    let none : list_all is_sound_row rows ≡ false = list_all_at is_sound_row rows i d within fails in
    absurd (cc))
    (cases_Bool (is_sound_row (get_or rows i d)))

-- the numbers of a sound row
pub sound_row : (row : CostRow) → is_sound_row row ≡ true → (0 < row.units) × (0 < row.busy) × (0 < row.latency) × (0 < row.writeback)
sound_row row sound =
    let one = and_parts (nat_lt 0 row.units) (nat_lt 0 row.busy && (nat_lt 0 row.latency && nat_lt 0 row.writeback)) sound in
    let two = and_parts (nat_lt 0 row.busy) (nat_lt 0 row.latency && nat_lt 0 row.writeback) one.1 in
    let three = and_parts (nat_lt 0 row.latency) (nat_lt 0 row.writeback) two.1 in
    (ltb-true 0 row.units one.0, ltb-true 0 row.busy two.0, ltb-true 0 row.latency three.0, ltb-true 0 row.writeback three.1)

-- one of two numbers of at least 1
choice : (b : Bool) (m n : ℕ) → 1 ≤ m → 1 ≤ n → 1 ≤ (if b then m else n)
choice true m n le le' = le
choice false m n le le' = le'

-- the latency of a sound forward
sound_forward : (f : Forward) → is_sound_forward f ≡ true → 1 ≤ f.latency
sound_forward f sound =
    let least : 0 < f.latency = ltb-true 0 f.latency sound in
    omega arith

-- a forward's latency, or the given one
pub some_forward : (forwards : List Forward) (from to operand latency : ℕ) → list_all is_sound_forward forwards ≡ true → 1 ≤ latency → 1 ≤ forward_or forwards from to operand latency
unfolding forward_or
some_forward [] from to operand latency sound least = least
some_forward (f ∷ forwards) from to operand latency sound least =
    let tests = and_parts (is_sound_forward f) (list_all is_sound_forward forwards) sound in
    choice (eqb f.from from && (eqb f.to to && eqb f.operand operand)) f.latency (forward_or forwards from to operand latency)
    (sound_forward f tests.0) (some_forward forwards from to operand latency tests.1 least)
