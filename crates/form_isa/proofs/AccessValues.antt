-- What an access gives: a value for each of its banks, which fits; and bytes, as many as it has.
use Rattle.std.proofs.Common.{◌≡◌, ◌∙◌, sym, ap, refl, ℕ, ℤ, pos, negsuc, zero, suc, ◌+◌, ◌*◌, ◌%◌, ◌/◌, ◌^◌, ◌<◌, ◌≤◌, Bool, true, false, cond, List, [], ◌∷◌, ◌++◌, length, arith, lit<}
use Rattle.std.specs.Prelude.{nat_lt, take, drop, unsigned_abs, slice_index, ◌+ℤ◌}
use Rattle.std.specs.Int.{int_rem_euclid}
use Rattle.std.specs.List.{list_all}
use Rattle.std.proofs.lemmas.Bool.{and_parts, and_from, leb-true, lt-ltb}
use Rattle.std.proofs.lemmas.Nat.{mod_below, pow_pos}
use Rattle.std.proofs.lemmas.List.{length-append}
use Rattle.sl_model.specs.declared.register.Bank.{Bank}
use Rattle.sl_model.specs.declared.register.Bank.TheVariants.{General}
use Rattle.sl_model.specs.declared.instruction.ArchName.{ArchName}
use Rattle.sl_model.specs.declared.instruction.ArchName.TheVariants.{Arm64, M4}
use Rattle.sl_model.specs.Isa.{address_at}
use Rattle.sl_model.specs.Machine.{space_of, limit_of}
use Rattle.sl_model.specs.Lawful.{are_bytes}
use Rattle.sl_isa.specs.declared.meaning.Addressing.{Addressing}
use Rattle.sl_isa.specs.declared.meaning.Addressing.TheVariants.{Kept, Before, After}
use Rattle.sl_isa.specs.declared.meaning.Transfer.{Transfer}
use Rattle.bit_ops.specs.Bits.{extended}
use Rattle.lane_ops.specs.Lanes.{lanes_of, joined}
use Rattle.lane_ops.proofs.ForCallers.{joined_below, length-lanes_of}
use Rattle.form_isa.specs.Access.{width_bytes, register_count, transfer_size, first_number, new_base, loaded_value, loaded_values, stored_bytes, transfer_values, transfer_bytes}
use Rattle.form_isa.specs.LawfulTable.{loaded_banks, base_banks, transfer_banks, has_room, loaded_bits}
use Rattle.form_isa.proofs.Outputs.{FitBanks}

-- a number of so many bytes
take-few : (n : ℕ) (xs : List ℕ) → length (take n xs) ≤ n
take-few zero xs = omega arith
take-few (suc n) [] = omega arith
take-few (suc n) (x ∷ xs) = let few = take-few n xs in omega (arith, few)

bytes-below : (n : ℕ) (xs : List ℕ) → joined 8 (take n xs) < 2 ^ (8 * n)
bytes-below n xs = joined_below 8 (take n xs) n (take-few n xs)

less-than : (x m n : ℕ) → x < m → m ≤ n → x < n
less-than x m n h g = omega (arith, h, g)

-- so does it with copies of its sign above it
filled-below : (few : Bool) (x bytes : ℕ) → x < 2 ^ (8 * bytes) →
    cond few (extended (8 * bytes) x % 2 ^ 32) x < 2 ^ cond few 32 (8 * bytes)
filled-below true x bytes h = mod_below (extended (8 * bytes) x) (2 ^ 32) (pow_pos 32)
filled-below false x bytes h = h

value-below : (signed : Bool) (bytes : ℕ) (loaded : List ℕ) →
    loaded_value signed bytes loaded < 2 ^ cond signed (cond (nat_lt bytes 4) 32 (8 * bytes)) (8 * bytes)
value-below false bytes loaded = bytes-below bytes loaded
value-below true bytes loaded = filled-below (nat_lt bytes 4) (joined 8 (take bytes loaded)) bytes (bytes-below bytes loaded)

-- what is loaded fits
loaded-fit : (name : ArchName) (t : Transfer) (loaded : List ℕ) → has_room name t.bank (loaded_bits t) ≡ true →
    FitBanks name (loaded_banks t.pair t.bank) (loaded_values t.signed t.pair (width_bytes t.width) loaded)
unfolding loaded_values
loaded-fit name t loaded room = both t.pair
  where
    bytes : ℕ
    bytes = width_bytes t.width

    low : (xs : List ℕ) → loaded_value t.signed bytes xs < limit_of name t.bank
    low xs = less-than _ _ _ (value-below t.signed bytes xs) (leb-true (2 ^ loaded_bits t) (limit_of name t.bank) room)

    both : (p : Bool) → FitBanks name (loaded_banks p t.bank) (loaded_values t.signed p bytes loaded)
    both false = (low loaded, tt)
    both true = (low loaded, (low (drop bytes loaded), tt))

loaded-count : (signed pair : Bool) (b : Bank) (bytes : ℕ) (loaded : List ℕ) →
    length (loaded_values signed pair bytes loaded) ≡ length (loaded_banks pair b)
unfolding loaded_values
loaded-count signed false b bytes loaded = refl
loaded-count signed true b bytes loaded = refl

-- an address is below the number of addresses
rem-below : (z : ℤ) (m : ℕ) → 0 < m → unsigned_abs (int_rem_euclid z (pos m)) < m
rem-below (pos a) m h = mod_below a m h
rem-below (negsuc a) m h = omega (arith, h)

-- and so fits a general register
address-fits : (name : ArchName) (base : ℕ) (offset : ℤ) → address_at (space_of name) base offset < limit_of name General
unfolding address_at
address-fits Arm64 base offset = rem-below (pos base +ℤ offset) (2 ^ 64) (pow_pos 64)
address-fits M4 base offset = rem-below (pos base +ℤ offset) (2 ^ 32) (pow_pos 32)

base-fits : (name : ArchName) (addressing : Addressing) (imms : List ℤ) (base : ℕ) →
    FitBanks name (base_banks addressing) (new_base (space_of name) addressing imms base)
base-fits name Kept imms base = tt
base-fits name Before imms base = (address-fits name base (first_number imms), tt)
base-fits name After imms base = (address-fits name base (first_number imms), tt)

base-count : (space : ℕ) (addressing : Addressing) (imms : List ℤ) (base : ℕ) →
    length (new_base space addressing imms base) ≡ length (base_banks addressing)
base-count space Kept imms base = refl
base-count space Before imms base = refl
base-count space After imms base = refl

-- values of banks, one behind the other
fit-append : (name : ArchName) (bs more : List Bank) (values others : List ℕ) → length values ≡ length bs →
    FitBanks name bs values →
    FitBanks name more others → FitBanks name (bs ++ more) (values ++ others)
fit-append name [] more [] others e f g = g
fit-append name [] more (v ∷ values) others e f g = absurd cc
fit-append name (b ∷ bs) more [] others e f g = absurd cc
fit-append name (b ∷ bs) more (v ∷ values) others e f g =
    let same : length values ≡ length bs = omega (arith, e) in
    (f.0, fit-append name bs more values others same f.1 g)

chosen-fit : (name : ArchName) (store : Bool) (bs more : List Bank) (values others : List ℕ) → length values ≡ length bs →
    FitBanks name bs values →
    FitBanks name more others →
    FitBanks name ((cond store [] bs) ++ more) ((cond store [] values) ++ others)
chosen-fit name true bs more values others e f g = g
chosen-fit name false bs more values others e f g = fit-append name bs more values others e f g

chosen-count : (store : Bool) (bs more : List Bank) (values others : List ℕ) → length values ≡ length bs →
    length others ≡ length more →
    length ((cond store [] values) ++ others) ≡ length ((cond store [] bs) ++ more)
chosen-count true bs more values others e f = f
chosen-count false bs more values others e f =
    length-append values others ∙ (ap (λ n. n + length others) e ∙ (ap (λ n. length bs + n) f ∙ sym (length-append bs more)))

pub transfer-fit : (name : ArchName) (t : Transfer) (imms : List ℤ) (ins loaded : List ℕ) →
    has_room name t.bank (loaded_bits t) ≡ true →
    FitBanks name (transfer_banks t) (transfer_values (space_of name) t imms ins loaded)
unfolding transfer_values
transfer-fit name t imms ins loaded room =
    chosen-fit name t.store (loaded_banks t.pair t.bank) (base_banks t.addressing)
    (loaded_values t.signed t.pair (width_bytes t.width) loaded) _
    (loaded-count t.signed t.pair t.bank (width_bytes t.width) loaded)
    (loaded-fit name t loaded room) (base-fits name t.addressing imms _)

pub transfer-count : (space : ℕ) (t : Transfer) (imms : List ℤ) (ins loaded : List ℕ) →
    length (transfer_values space t imms ins loaded) ≡ length (transfer_banks t)
unfolding transfer_values
transfer-count space t imms ins loaded =
    chosen-count t.store (loaded_banks t.pair t.bank) (base_banks t.addressing)
    (loaded_values t.signed t.pair (width_bytes t.width) loaded) _
    (loaded-count t.signed t.pair t.bank (width_bytes t.width) loaded) (base-count space t.addressing imms _)

-- An access has at most three outputs.
pub transfer-few : (t : Transfer) → length (transfer_banks t) ≤ 3
transfer-few t = few t.store t.pair t.bank t.addressing
  where
    few : (store pair : Bool) (b : Bank) (addressing : Addressing) →
        length ((cond store [] (loaded_banks pair b)) ++ base_banks addressing) ≤ 3
    few true pair b Kept = omega arith
    few true pair b Before = omega arith
    few true pair b After = omega arith
    few false true b Kept = omega arith
    few false true b Before = omega arith
    few false true b After = omega arith
    few false false b Kept = omega arith
    few false false b Before = omega arith
    few false false b After = omega arith

-- what is stored
digits-bytes : (n x : ℕ) → are_bytes (lanes_of 8 n x) ≡ true
unfolding lanes_of
digits-bytes zero x = refl
digits-bytes (suc n) x =
    and_from _ _ (lt-ltb (x % 256) 256 (mod_below x 256 (lit< tt))) (digits-bytes n (x / 256))

append-bytes : (xs ys : List ℕ) → are_bytes xs ≡ true → are_bytes ys ≡ true → are_bytes (xs ++ ys) ≡ true
append-bytes [] ys e f = f
append-bytes (x ∷ xs) ys e f =
    let parts = and_parts (nat_lt x 256) (list_all (λ b. nat_lt b 256) xs) e in
    and_from _ _ parts.0 (append-bytes xs ys parts.1 f)

stored-count : (pair : Bool) (bytes : ℕ) (ins : List ℕ) → length (stored_bytes pair bytes ins) ≡ register_count pair * bytes
unfolding stored_bytes
stored-count false bytes ins =
    let one : bytes ≡ 1 * bytes = omega arith in length-lanes_of 8 bytes (slice_index ins 0) ∙ one
stored-count true bytes ins =
    let two : bytes + bytes ≡ 2 * bytes = omega arith in
    length-append (lanes_of 8 bytes (slice_index ins 0)) (lanes_of 8 bytes (slice_index ins 1))
    ∙ (ap (λ n. n + length (lanes_of 8 bytes (slice_index ins 1))) (length-lanes_of 8 bytes (slice_index ins 0))
    ∙ (ap (λ n. bytes + n) (length-lanes_of 8 bytes (slice_index ins 1)) ∙ two))

stored-bytes : (pair : Bool) (bytes : ℕ) (ins : List ℕ) → are_bytes (stored_bytes pair bytes ins) ≡ true
unfolding stored_bytes
stored-bytes false bytes ins = digits-bytes bytes (slice_index ins 0)
stored-bytes true bytes ins =
    append-bytes (lanes_of 8 bytes (slice_index ins 0)) (lanes_of 8 bytes (slice_index ins 1))
    (digits-bytes bytes (slice_index ins 0)) (digits-bytes bytes (slice_index ins 1))

pub transfer_bytes-count : (t : Transfer) (ins : List ℕ) → t.store ≡ true → length (transfer_bytes t ins) ≡ transfer_size t
unfolding transfer_bytes
transfer_bytes-count t ins e =
    ap (λ b. length (cond b (stored_bytes t.pair (width_bytes t.width) ins) [])) e
    ∙ stored-count t.pair (width_bytes t.width) ins

pub transfer_bytes-fit : (t : Transfer) (ins : List ℕ) → are_bytes (transfer_bytes t ins) ≡ true
unfolding transfer_bytes
transfer_bytes-fit t ins = chosen t.store
  where
    chosen : (store : Bool) → are_bytes (cond store (stored_bytes t.pair (width_bytes t.width) ins) []) ≡ true
    chosen true = stored-bytes t.pair (width_bytes t.width) ins
    chosen false = refl
