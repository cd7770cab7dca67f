-- Registers that are found by their names, one after the other.
use Rattle.std.proofs.Common.{◌≡◌, ℕ, zero, suc, ◌+◌, ◌-◌, ◌<◌, true, false, cond, List, ◌∷◌, ◌++◌, None, Some, refl, ap, ◌∙◌, arith}
use Rattle.std.specs.Option.{option_or}
use Rattle.std.specs.Str.{bytes_eq}
use Rattle.std.proofs.lemmas.List.Folds.{find-append}
use Rattle.sl_model.specs.declared.register.Bank.{Bank}
use Rattle.sl_model.specs.declared.register.Reg.{Reg}
use Rattle.sl_model.specs.declared.instruction.ArchName.{ArchName}
use Rattle.sl_model.specs.RegisterNames.{register_in, registers_from, name_in, name_of, named_among}

-- ---- among registers in any order

pub named_this : (arch : ArchName) (word : List ℕ) (r : Reg) (regs : List Reg) → bytes_eq (name_of arch r) word ≡ true → named_among arch word (r ∷ regs) ≡ Some r
unfolding named_among
named_this arch word r regs e = ap (λ b. cond b (Some r) (named_among arch word regs)) e

pub named_other : (arch : ArchName) (word : List ℕ) (r : Reg) (regs : List Reg) → bytes_eq (name_of arch r) word ≡ false → named_among arch word (r ∷ regs) ≡ named_among arch word regs
unfolding named_among
named_other arch word r regs e = ap (λ b. cond b (Some r) (named_among arch word regs)) e

-- among some and others
pub named_in_two : (arch : ArchName) (word : List ℕ) (regs others : List Reg) → named_among arch word (regs ++ others) ≡ option_or (named_among arch word regs) (named_among arch word others)
unfolding named_among
named_in_two arch word regs others = find-append _ regs others

-- ---- among those of a bank

pub named_none : (arch : ArchName) (word : List ℕ) (bank : Bank) (first count : ℕ) → count ≡ 0 → named_among arch word (registers_from bank first count) ≡ None
unfolding named_among registers_from
named_none arch word bank first zero e = refl
named_none arch word bank first (suc count) e = absurd (omega arith)

pub named_here : (arch : ArchName) (word : List ℕ) (bank : Bank) (first count : ℕ) → 0 < count → bytes_eq (name_in arch bank first) word ≡ true → named_among arch word (registers_from bank first count) ≡ Some (register_in bank first)
unfolding registers_from
named_here arch word bank first zero some e = absurd (omega arith)
named_here arch word bank first (suc count) some e = named_this arch word (register_in bank first) _ e

pub named_later : (arch : ArchName) (word : List ℕ) (bank : Bank) (first count : ℕ) → 0 < count → bytes_eq (name_in arch bank first) word ≡ false → named_among arch word (registers_from bank first count) ≡ named_among arch word (registers_from bank (first + 1) (count - 1))
unfolding registers_from
named_later arch word bank first zero some e = absurd (omega arith)
named_later arch word bank first (suc count) some e =
    let less : count ≡ suc count - 1 = omega arith in
    named_other arch word (register_in bank first) _ e ∙ ap (λ n. named_among arch word (registers_from bank (first + 1) n)) less
