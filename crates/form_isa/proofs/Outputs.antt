-- The outputs of a lawful row: registers of the banks of its meaning.
use Rattle.std.proofs.Common.{◌≡◌, ◌∙◌, ap, refl, ℕ, zero, suc, ◌+◌, ◌<◌, ◌≤◌, true, false, cond, ◌&&◌, ◌||◌, eqb, List, [], ◌∷◌, length, map, arith}
use Rattle.std.specs.Prelude.{nat_lt}
use Rattle.std.specs.List.{list_all, list_any, zip}
use Rattle.std.proofs.lemmas.Bool.{and_parts, lt-ltb, false≢true}
use Rattle.sl_model.specs.declared.register.Bank.{Bank}
use Rattle.sl_model.specs.declared.register.Reg.{Reg}
use Rattle.sl_model.specs.declared.register.RegSet.{RegSet}
use Rattle.sl_model.specs.declared.instruction.ArchName.{ArchName}
use Rattle.sl_model.specs.Machine.{limit_of}
use Rattle.sl_model.specs.RegSets.{set_has, set_count}
use Rattle.sl_model.specs.Lawful.{suits_set, zero_register}
use Rattle.form_isa.specs.Info.{no_register, padded_classes}
use Rattle.form_isa.specs.LawfulTable.{is_only_of, are_only_of}
use Rattle.form_isa.proofs.Banks.{only-some, only-bank, only-lacks_zero}
use Rattle.sl_laws.proofs.Tests.{then_parts}

-- the banks of registers
abbrev pub banks : List Reg → List Bank
banks regs = map (λ r. r.bank) regs

-- a class that has registers counts
pub count-suc : (set : RegSet) (sets : List RegSet) → eqb set.bits 0 ≡ false → set_count (set ∷ sets) ≡ suc (set_count sets)
unfolding set_count
count-suc set sets e =
    let one : 1 + set_count sets ≡ suc (set_count sets) = omega arith in ap (λ b. cond b 0 1 + set_count sets) e ∙ one

pub count-none : (n : ℕ) → set_count (padded_classes n []) ≡ 0
unfolding set_count padded_classes
count-none zero = refl
count-none (suc n) =
    let same : 0 + set_count (padded_classes n []) ≡ set_count (padded_classes n []) = omega arith in same ∙ count-none n

suc_same : (m n : ℕ) → suc m ≡ suc n → m ≡ n
suc_same m n e = omega arith

-- Registers that suit classes of banks, one each, are of these banks.
pub outputs-banks : (n : ℕ) (wanted : List Bank) (sets : List RegSet) (regs : List Reg) → are_only_of wanted sets ≡ true →
    length wanted ≤ n →
    length regs ≡ set_count (padded_classes n sets) → list_all suits_set (zip regs (padded_classes n sets)) ≡ true →
    banks regs ≡ wanted
unfolding are_only_of padded_classes
outputs-banks n [] [] [] e few count suits = refl
outputs-banks n [] [] (r ∷ regs) e few count suits =
    let none : suc (length regs) ≡ 0 = count ∙ count-none n in absurd (omega arith)
outputs-banks n [] (set ∷ sets) regs e few count suits = absurd (false≢true e)
outputs-banks n (b ∷ wanted) [] regs e few count suits = absurd (false≢true e)
outputs-banks zero (b ∷ wanted) (set ∷ sets) regs e few count suits = absurd (omega arith)
outputs-banks (suc n) (b ∷ wanted) (set ∷ sets) [] e few count suits =
    let parts = then_parts (is_only_of b set) (are_only_of wanted sets) e in
    let none : 0 ≡ suc (set_count (padded_classes n sets)) =
    count ∙ count-suc set (padded_classes n sets) (only-some b set parts.0) in
    absurd (omega arith)
outputs-banks (suc n) (b ∷ wanted) (set ∷ sets) (r ∷ regs) e few count suits =
    let parts = then_parts (is_only_of b set) (are_only_of wanted sets) e in
    let both = and_parts (suits_set (r, set)) (list_all suits_set (zip regs (padded_classes n sets))) suits in
    let less : length wanted ≤ n = omega arith in
    let rest : length regs ≡ set_count (padded_classes n sets) =
    suc_same (length regs) (set_count (padded_classes n sets))
    (count ∙ count-suc set (padded_classes n sets) (only-some b set parts.0)) in
    ap (λ v. v ∷ banks regs) (only-bank b r set parts.0 both.0)
    ∙ ap (λ v. b ∷ v) (outputs-banks n wanted sets regs parts.1 less rest both.1)

-- No class has the zero register.
abbrev lacks_zero : List RegSet → Type 0
lacks_zero sets = list_any (λ set. set_has set zero_register) sets ≡ false

none-lacks_zero : set_has no_register zero_register ≡ false
unfolding set_has
none-lacks_zero = refl

lacks_both : (set : RegSet) (sets : List RegSet) → set_has set zero_register ≡ false → lacks_zero sets → lacks_zero (set ∷ sets)
lacks_both set sets e f = ap (λ b. b || list_any (λ s. set_has s zero_register) sets) e ∙ f

pub padding-lacks_zero : (n : ℕ) → lacks_zero (padded_classes n [])
unfolding padded_classes
padding-lacks_zero zero = refl
padding-lacks_zero (suc n) = lacks_both no_register (padded_classes n []) none-lacks_zero (padding-lacks_zero n)

pub outputs-lack_zero : (n : ℕ) (wanted : List Bank) (sets : List RegSet) → are_only_of wanted sets ≡ true →
    lacks_zero (padded_classes n sets)
unfolding are_only_of padded_classes
outputs-lack_zero zero wanted sets e = refl
outputs-lack_zero (suc n) [] [] e = padding-lacks_zero (suc n)
outputs-lack_zero (suc n) [] (set ∷ sets) e = absurd (false≢true e)
outputs-lack_zero (suc n) (b ∷ wanted) [] e = absurd (false≢true e)
outputs-lack_zero (suc n) (b ∷ wanted) (set ∷ sets) e =
    let parts = then_parts (is_only_of b set) (are_only_of wanted sets) e in
    lacks_both set (padded_classes n sets) (only-lacks_zero b set parts.0) (outputs-lack_zero n wanted sets parts.1)

-- Values fit registers of these banks, one each.
abbrev pub FitBanks : ArchName → List Bank → List ℕ → Type 0
FitBanks name [] values = Unit {0}
FitBanks name (b ∷ wanted) [] = Unit {0}
FitBanks name (b ∷ wanted) (value ∷ values) = (value < limit_of name b) × FitBanks name wanted values

pub fitting : (name : ArchName) (regs : List Reg) (values : List ℕ) → FitBanks name (banks regs) values →
    list_all (λ x. nat_lt x.1 (limit_of name x.0.bank)) (zip regs values) ≡ true
fitting name [] values f = refl
fitting name (r ∷ regs) [] f = refl
fitting name (r ∷ regs) (value ∷ values) f =
    ap (λ b. b && list_all (λ x. nat_lt x.1 (limit_of name x.0.bank)) (zip regs values))
    (lt-ltb value (limit_of name r.bank) f.0)
    ∙ fitting name regs values f.1

-- There are as many classes as banks.
pub only-count : (wanted : List Bank) (sets : List RegSet) → are_only_of wanted sets ≡ true → length wanted ≡ length sets
unfolding are_only_of
only-count [] [] e = refl
only-count [] (set ∷ sets) e = absurd (false≢true e)
only-count (b ∷ wanted) [] e = absurd (false≢true e)
only-count (b ∷ wanted) (set ∷ sets) e =
    ap suc (only-count wanted sets (then_parts (is_only_of b set) (are_only_of wanted sets) e).1)
