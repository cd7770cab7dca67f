-- The least register of a list that passes a test.
use Rattle.std.proofs.Common.{◌≡◌, ◌<◌, ◌≤◌, ◌⊎◌, Bool, true, false, List, [], ◌∷◌, inl, inr, ⊎_elim, sym, ap, ◌∙◌, arith}
use Rattle.std.proofs.lemmas.Bool.{cases_Bool, cases_lt, both_ways}
use Rattle.sl_model.specs.declared.register.Reg.{Reg}
use Rattle.sl_laws.proofs.Members.{Has}
use Rattle.sl_laws.proofs.MachineRegs.{bit}

-- Either no register of a list passes a test, or one that does has the least bit.
abbrev pub Least : (Reg → Bool) → List Reg → Reg → Type 0
Least test regs b = (test b ≡ true) × ((x : Reg) → Has x regs → test x ≡ true → bit b ≤ bit x)

pub least : (test : Reg → Bool) (regs : List Reg) → ((x : Reg) → Has x regs → test x ≡ true → ⊥) ⊎ ((b : Reg) × Least test regs b)
least test [] = inl (λ x h t. h)
least test (r ∷ regs) = ⊎_elim
    (λ (no_r : test r ≡ false). ⊎_elim
    (λ (none : (x : Reg) → Has x regs → test x ≡ true → ⊥). inl (λ x h t. ⊎_elim (λ (e : r ≡ x). both_ways (test x) (ap test (sym e) ∙ no_r) t) (λ (there : Has x regs). none x there t) h))
    (λ (some : (b : Reg) × Least test regs b). inr (some.0, (some.1.0, λ x h t. ⊎_elim (λ (e : r ≡ x). absurd (both_ways (test x) (ap test (sym e) ∙ no_r) t)) (λ (there : Has x regs). some.1.1 x there t) h)))
    (least test regs))
    (λ (yes_r : test r ≡ true). ⊎_elim
    (λ (none : (x : Reg) → Has x regs → test x ≡ true → ⊥). inr (r, (yes_r, λ x h t. ⊎_elim (λ (e : r ≡ x). same r x e) (λ (there : Has x regs). absurd (none x there t)) h)))
    (λ (some : (b : Reg) × Least test regs b). ⊎_elim
    (λ (less : bit r < bit some.0). inr (r, (yes_r, λ x h t. ⊎_elim (λ (e : r ≡ x). same r x e) (λ (there : Has x regs). (let le : bit some.0 ≤ bit x = some.1.1 x there t in omega arith)) h)))
    (λ (more : bit some.0 ≤ bit r). inr (some.0, (some.1.0, λ x h t. ⊎_elim (λ (e : r ≡ x). (let le : bit r ≤ bit x = same r x e in omega arith)) (λ (there : Has x regs). some.1.1 x there t) h)))
    (cases_lt (bit r) (bit some.0)))
    (least test regs))
    (⊎_elim (λ (t : test r ≡ true). inr t) (λ (f : test r ≡ false). inl f) (cases_Bool (test r)))
  where
    same : (x y : Reg) → x ≡ y → bit x ≤ bit y
    same x y e = let b : bit x ≡ bit y = ap bit e in omega arith
