-- Registers that the tests of sl_model tell apart, and their places in a list.
use Rattle.std.proofs.Common.{◌≡◌, ◌≢◌, ℕ, zero, suc, ◌+◌, Bool, true, false, ◌&&◌, ◌||◌, ◌==◌, not, cond, List, [], ◌∷◌, None, Some, ⊎_elim, if◌then◌else◌, refl, sym, ap, ◌∙◌, true≢false, arith, is_some, slice_get, option_map}
use Rattle.std.specs.List.{list_any}
use Rattle.std.proofs.lemmas.Bool.{cases_Bool, and_parts, eqb-true, eq-eqb, not-true}
use Rattle.sl_model.specs.declared.register.Bank.{Bank}
use Rattle.sl_model.specs.declared.register.Bank.TheVariants.{General, Vector, Flags, Stack}
use Rattle.sl_model.specs.declared.register.Reg.{Reg}
use Rattle.sl_model.specs.Register.{same_reg, same_bool, bank_number}
use Rattle.sl_model.specs.Source.{place_from}
use Rattle.sl_model.specs.Body.{all_differ}
use Rattle.sl_laws.proofs.Tests.{is_none_from}

-- equal truth values
pub same_bool-true : (a b : Bool) → same_bool a b ≡ true → a ≡ b
same_bool-true true true e = refl
same_bool-true false false e = refl
same_bool-true true false e = cc
same_bool-true false true e = cc

-- a truth value is itself
pub same_bool-refl : (a : Bool) → same_bool a a ≡ true
same_bool-refl true = refl
same_bool-refl false = refl

-- a bank by its number
abbrev bank_of : ℕ → Bank
bank_of n = cond (n == 0) General (cond (n == 1) Vector (cond (n == 2) Flags Stack))

-- the bank of a bank's number is that bank
bank_again : (b : Bank) → bank_of (bank_number b) ≡ b
bank_again General = refl
bank_again Vector = refl
bank_again Flags = refl
bank_again Stack = refl

-- banks with one number are equal
pub same_bank : (a b : Bank) → bank_number a ≡ bank_number b → a ≡ b
same_bank a b e = sym (bank_again a) ∙ ap bank_of e ∙ bank_again b

-- two names of one register are equal
pub same_reg-true : (a b : Reg) → same_reg a b ≡ true → a ≡ b
unfolding same_reg
same_reg-true a b e =
    let parts = and_parts (bank_number a.bank == bank_number b.bank) (same_bool a.symbolic b.symbolic && (a.number == b.number)) e in
    let rest = and_parts (same_bool a.symbolic b.symbolic) (a.number == b.number) parts.1 in
    let bank = same_bank a.bank b.bank (eqb-true _ _ parts.0) in
    let symbolic = same_bool-true a.symbolic b.symbolic rest.0 in
    let number = eqb-true _ _ rest.1 in
    λ i. record { bank = bank i; symbolic = symbolic i; number = number i }

-- a register is itself
pub same_reg-refl : (a : Reg) → same_reg a a ≡ true
unfolding same_reg
same_reg-refl a = rw (eq-eqb (bank_number a.bank) (bank_number a.bank) refl, same_bool-refl a.symbolic, eq-eqb a.number a.number refl) refl

-- registers that the test tells apart differ
pub same_reg-differ : (a b : Reg) → same_reg a b ≡ false → a ≢ b
same_reg-differ a b e same = true≢false (sym (same_reg-refl a) ∙ ap (same_reg a) same ∙ e)

-- the test tells registers apart from either side
pub same_reg-comm : (a b : Reg) → same_reg a b ≡ false → same_reg b a ≡ false
same_reg-comm a b e = ⊎_elim (λ t. absurd (same_reg-differ a b e (sym (same_reg-true b a t)))) (λ f. f) (cases_Bool (same_reg b a))

-- places counted from one more are one more
pub place_from-next : (k : ℕ) (r : Reg) (regs : List Reg) → place_from (k + 1) r regs ≡ option_map (λ j. j + 1) (place_from k r regs)
unfolding place_from
place_from-next k r [] = refl
place_from-next k r (q ∷ regs) = ⊎_elim
    (λ (same : same_reg q r ≡ true). rw same refl)
    (λ (other : same_reg q r ≡ false). rw other (place_from-next (k + 1) r regs))
    (cases_Bool (same_reg q r))

-- what is found at a place stands there
pub place_from-at : (j : ℕ) (r : Reg) (regs : List Reg) (k : ℕ) → place_from j r regs ≡ Some k → (i : ℕ) × (k ≡ j + i) × (slice_get regs i ≡ Some r)
unfolding place_from
place_from-at j r [] k e = absurd (cc)
place_from-at j r (q ∷ regs) k e =
    elim (same_reg q r) as (λ b. same_reg q r ≡ b → (if b then Some j else place_from (j + 1) r regs) ≡ Some k → (i : ℕ) × (k ≡ j + i) × (slice_get (q ∷ regs) i ≡ Some r)) [
      | true ↦ λ is found. let at : j ≡ k = cc in (0, omega arith, ap (λ x. Some x) (same_reg-true q r is))
      | false ↦ λ is found. let rest = place_from-at (j + 1) r regs k found in (suc rest.0, omega (arith, rest.1), rest.2)
    ] refl e

-- a register that isn't found stands nowhere
pub place_from-none : (j : ℕ) (r : Reg) (regs : List Reg) (k : ℕ) (q : Reg) → place_from j r regs ≡ None → slice_get regs k ≡ Some q → same_reg q r ≡ false
unfolding place_from
place_from-none j r [] k q e at = absurd (cc)
place_from-none j r (p ∷ regs) k q e at =
    elim (same_reg p r) as (λ b. same_reg p r ≡ b → (if b then Some j else place_from (j + 1) r regs) ≡ None → same_reg q r ≡ false) [
      | true ↦ λ is found. absurd (cc)
      | false ↦ λ is found. elim k as (λ k. slice_get (p ∷ regs) k ≡ Some q → same_reg q r ≡ false) [
        | zero ↦ λ here. let same : p ≡ q = cc in ap (λ x. same_reg x r) (sym same) ∙ is
        | suc k ↦ λ here. place_from-none (j + 1) r regs k q found here
      ] at
    ] refl e

-- in a list of different registers each is found at its place
pub place_from-differ : (j : ℕ) (r : Reg) (regs : List Reg) (k : ℕ) → all_differ regs ≡ true → slice_get regs k ≡ Some r → place_from j r regs ≡ Some (j + k)
unfolding place_from all_differ
place_from-differ j r [] k differ at = absurd (cc)
place_from-differ j r (q ∷ regs) zero differ at =
    let e : q ≡ r = cc in
    let test : same_reg q r ≡ true = ap (λ x. same_reg x r) e ∙ same_reg-refl r in
    let n : j ≡ j + 0 = omega arith in
    ap (λ b. if b then Some j else place_from (j + 1) r regs) test ∙ ap (λ m. Some m) n
place_from-differ j r (q ∷ regs) (suc k) differ at =
    let none : place_from 0 q regs ≡ None = is_none_from (place_from 0 q regs) (not-true (is_some (place_from 0 q regs)) (and_parts (not (is_some (place_from 0 q regs))) (all_differ regs) differ).0) in
    let test : same_reg q r ≡ false = same_reg-comm r q (place_from-none 0 q regs k r none at) in
    let n : j + 1 + k ≡ j + suc k = omega arith in
    ap (λ b. if b then Some j else place_from (j + 1) r regs) test
    ∙ place_from-differ (j + 1) r regs k (and_parts (not (is_some (place_from 0 q regs))) (all_differ regs) differ).1 at
    ∙ ap (λ m. Some m) n

-- a register from which each of a list differs isn't found there
pub place_from-misses : (j : ℕ) (r : Reg) (regs : List Reg) → ((k : ℕ) (q : Reg) → slice_get regs k ≡ Some q → same_reg q r ≡ false) → place_from j r regs ≡ None
unfolding place_from
place_from-misses j r [] misses = refl
place_from-misses j r (q ∷ regs) misses =
    ap (λ b. if b then Some j else place_from (j + 1) r regs) (misses 0 q refl) ∙ place_from-misses (j + 1) r regs (λ k q at. misses (suc k) q at)

-- a register has a place among others where it is one of them
pub place_from-among : (k : ℕ) (r : Reg) (regs : List Reg) → is_some (place_from k r regs) ≡ list_any (λ out. same_reg out r) regs
unfolding place_from
place_from-among k r [] = refl
place_from-among k r (out ∷ regs) =
    elim (same_reg out r) as (λ b. is_some (cond b (Some k) (place_from (k + 1) r regs)) ≡ (b || list_any (λ out. same_reg out r) regs))
    [ true ↦ refl | false ↦ place_from-among (k + 1) r regs ]
