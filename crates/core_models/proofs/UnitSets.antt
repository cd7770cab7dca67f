-- Sets of units.
use Rattle.std.proofs.Common.{◌≡◌, ◌∙◌, ◌<◌, ◌≤◌, ◌+◌, ◌/◌, ◌%◌, ◌^◌, ⊎_elim, ℕ, zero, suc, nat_lt, true, ◌&&◌, List, [], ◌∷◌, drop, get_or, length, refl, sym, ap, arith, ltb-true}
use Rattle.std.specs.List.{fold, list_all}
use Rattle.std.proofs.lemmas.Bool.{and_from, and_parts, cases_lt, lt-ltb}
use Rattle.std.proofs.lemmas.List.{drop_all, drop_more}
use Rattle.std.proofs.lemmas.Nat.{le_or_l, le_or_r, or_lt}
use Rattle.std.proofs.lemmas.List.Sums.{AllPass-from_list_all}
use Rattle.std.proofs.Math.Pow.{pow_mono, pow-lt}
use Rattle.std.proofs.Math.Nat.{div-eq_of_lt}
use Rattle.std.specs.Int.{bit_at}
use Rattle.sl_model.specs.declared.instruction.FormInfo.{FormInfo}
use Rattle.sl_model.specs.declared.schedule.CostRow.{CostRow}
use Rattle.sl_model.specs.Cycles.{CostTable, no_row, row_of}
use Rattle.issue_cost.specs.Sound.{is_sound_row}
use Rattle.core_text.specs.Core.{ClassCost, is_sound_entry}
use Rattle.core_models.specs.Costs.{has_known_units, with_unit, unit_set, row_for}

-- one unit more
pub set-grows : (set : ℕ) (units : List ℕ) (i unit : ℕ) → i < length units → unit ≡ get_or units i unit → fold with_unit (with_unit set unit) (drop (i + 1) units) ≡ fold with_unit set (drop i units)
set-grows set units i unit within at =
    ap (λ u. fold with_unit (with_unit set u) (drop (i + 1) units)) at ∙ ap (fold with_unit set) (sym (drop_more units i unit within))

-- at the end there are no more
pub set-ends : (set : ℕ) (units : List ℕ) (i : ℕ) → length units ≤ i → fold with_unit set (drop i units) ≡ set
set-ends set units i past = ap (fold with_unit set) (drop_all i units past)

-- each of the units is below the number that all are
pub unit-known : (n : ℕ) (units : List ℕ) (i d : ℕ) → list_all (λ unit. nat_lt unit n) units ≡ true → i < length units → get_or units i d < n
unit-known n units i d all within = ltb-true (get_or units i d) n (AllPass-from_list_all (λ unit. nat_lt unit n) units all i d within)

-- a set is not less than what it was made of
fold-least : (set : ℕ) (units : List ℕ) → set ≤ fold with_unit set units
fold-least set [] = omega arith
fold-least set (unit ∷ units) = let more = le_or_r (2 ^ unit) set in let rest = fold-least (with_unit set unit) units in omega arith

-- the set of a unit and others isn't empty
pub set-some : (units : List ℕ) → nat_lt 0 (length units) ≡ true → nat_lt 0 (unit_set units) ≡ true
set-some [] some = some
set-some (unit ∷ units) some =
    let bit = le_or_l (2 ^ unit) 0 in
    let power : 1 ≤ 2 ^ unit = pow_mono {i = 0} {j = unit} (omega arith) in
    let rest = fold-least (with_unit 0 unit) units in
    lt-ltb 0 (unit_set (unit ∷ units)) (omega arith)

-- what is below a number is below a greater one
all-weaker : (n m : ℕ) (units : List ℕ) → n ≤ m → list_all (λ unit. nat_lt unit n) units ≡ true → list_all (λ unit. nat_lt unit m) units ≡ true
all-weaker n m [] le all = refl
all-weaker n m (unit ∷ units) le all =
    let parts = and_parts (nat_lt unit n) (list_all (λ unit. nat_lt unit n) units) all in
    let below : unit < n = ltb-true unit n parts.0 in
    and_from (nat_lt unit m) (list_all (λ unit. nat_lt unit m) units) (lt-ltb unit m (omega arith)) (all-weaker n m units le parts.1)

-- an entry that is sound on few units is on more
pub entry-weaker : (n m : ℕ) (entry : ClassCost) → n ≤ m → is_sound_entry n entry ≡ true → is_sound_entry m entry ≡ true
entry-weaker n m entry le sound =
    let parts = and_parts (nat_lt 0 (length entry.units)) (list_all (λ unit. nat_lt unit n) entry.units && (nat_lt 0 entry.busy && (nat_lt 0 entry.latency && nat_lt 0 entry.writeback))) sound in
    let inner = and_parts (list_all (λ unit. nat_lt unit n) entry.units) (nat_lt 0 entry.busy && (nat_lt 0 entry.latency && nat_lt 0 entry.writeback)) parts.1 in
    and_from (nat_lt 0 (length entry.units)) (list_all (λ unit. nat_lt unit m) entry.units && (nat_lt 0 entry.busy && (nat_lt 0 entry.latency && nat_lt 0 entry.writeback))) parts.0
    (and_from (list_all (λ unit. nat_lt unit m) entry.units) (nat_lt 0 entry.busy && (nat_lt 0 entry.latency && nat_lt 0 entry.writeback)) (all-weaker n m entry.units le inner.0) inner.1)

-- its units are known
pub entry-units : (n : ℕ) (entry : ClassCost) → is_sound_entry n entry ≡ true → list_all (λ unit. nat_lt unit n) entry.units ≡ true
entry-units n entry sound =
    (and_parts (list_all (λ unit. nat_lt unit n) entry.units) (nat_lt 0 entry.busy && (nat_lt 0 entry.latency && nat_lt 0 entry.writeback))
    (and_parts (nat_lt 0 (length entry.units)) (list_all (λ unit. nat_lt unit n) entry.units && (nat_lt 0 entry.busy && (nat_lt 0 entry.latency && nat_lt 0 entry.writeback))) sound).1).0

-- the row of a sound entry is sound
pub row-sound : (n : ℕ) (info : FormInfo) (entry : ClassCost) → is_sound_entry n entry ≡ true → is_sound_row (row_for info entry) ≡ true
row-sound n info entry sound =
    let parts = and_parts (nat_lt 0 (length entry.units)) (list_all (λ unit. nat_lt unit n) entry.units && (nat_lt 0 entry.busy && (nat_lt 0 entry.latency && nat_lt 0 entry.writeback))) sound in
    let inner = and_parts (list_all (λ unit. nat_lt unit n) entry.units) (nat_lt 0 entry.busy && (nat_lt 0 entry.latency && nat_lt 0 entry.writeback)) parts.1 in
    and_from (nat_lt 0 (unit_set entry.units)) (nat_lt 0 entry.busy && (nat_lt 0 entry.latency && nat_lt 0 entry.writeback)) (set-some entry.units parts.0) inner.1

-- Of a set made of units below a number each is below it.
fold-below : (n set : ℕ) (units : List ℕ) → set < 2 ^ n → list_all (λ unit. nat_lt unit n) units ≡ true → fold with_unit set units < 2 ^ n
fold-below n set [] small all = small
fold-below n set (unit ∷ units) small all =
    let parts = and_parts (nat_lt unit n) (list_all (λ unit. nat_lt unit n) units) all in
    fold-below n (with_unit set unit) units (or_lt n (2 ^ unit) set (pow-lt (ltb-true unit n parts.0)) small) parts.1

pub row-known : (n : ℕ) (info : FormInfo) (entry : ClassCost) → is_sound_entry n entry ≡ true → has_known_units n (row_for info entry) ≡ true
row-known n info entry sound =
    let some : 1 ≤ 2 ^ n = pow_mono {i = 0} {j = n} (omega arith) in
    lt-ltb (unit_set entry.units) (2 ^ n) (fold-below n 0 entry.units (omega arith) (entry-units n entry sound))

known-bit : (n set unit : ℕ) → set < 2 ^ n → bit_at set unit ≡ 1 → unit < n
known-bit n set unit small has =
    ⊎_elim
    (λ (below : unit < n). below)
    (λ (past : n ≤ unit).
    let large : 2 ^ n ≤ 2 ^ unit = pow_mono past in
    let none : set / 2 ^ unit ≡ 0 = div-eq_of_lt (omega arith) in
    let no_bit : bit_at set unit ≡ 0 = ap (λ q. q % 2) none in
    absurd (omega arith))
    (cases_lt unit n)

known-at : (n item : ℕ) (rows : List CostRow) → list_all (has_known_units n) rows ≡ true → has_known_units n (get_or rows item no_row) ≡ true
known-at n item [] all = lt-ltb 0 (2 ^ n) (let some : 1 ≤ 2 ^ n = pow_mono {i = 0} {j = n} (omega arith) in omega arith)
known-at n zero (row ∷ rows) all = (and_parts (has_known_units n row) (list_all (has_known_units n) rows) all).0
known-at n (suc item) (row ∷ rows) all = known-at n item rows (and_parts (has_known_units n row) (list_all (has_known_units n) rows) all).1

-- so each unit of a row is
pub costs-known : (n : ℕ) (costs : CostTable) (rows : List CostRow) → costs.rows ≡ rows → list_all (has_known_units n) rows ≡ true → (item unit : ℕ) → bit_at (row_of costs item).units unit ≡ 1 → unit < n
costs-known n costs rows are all item unit has =
    known-bit n (row_of costs item).units unit
    (ltb-true (row_of costs item).units (2 ^ n) (ap (λ those. has_known_units n (get_or those item no_row)) are ∙ known-at n item rows all)) has
