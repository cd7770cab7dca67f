-- Sets of registers, as the classes of operands and outputs.
use Rattle.std.proofs.Common.{◌≡◌, ℕ, suc, ◌+◌, ◌≤◌, Bool, true, false, ◌&&◌, not, eqb, List, [], ◌∷◌, length, if◌then◌else◌, refl, ap, ◌∙◌, arith}
use Rattle.std.specs.Int.{bit_at}
use Rattle.std.proofs.lemmas.Bool.{and_parts, not-true}
use Rattle.sl_model.specs.declared.register.Reg.{Reg}
use Rattle.sl_model.specs.declared.register.RegSet.{RegSet}
use Rattle.sl_model.specs.Register.{same_reg, same_bool, bank_number}
use Rattle.sl_model.specs.RegSets.{set_has, set_count, is_in_bank, bit_of}
use Rattle.sl_model.specs.State.{is_zero}
use Rattle.sl_model.specs.Lawful.{suits_set, is_of_bank, zero_register}
use Rattle.sl_laws.proofs.Registers.{same_reg-true}

-- as many sets as have a register are at most all
pub set_count-bound : (sets : List RegSet) → set_count sets ≤ length sets
unfolding set_count
set_count-bound [] = omega arith
set_count-bound (set ∷ sets) = bound (eqb set.bits 0) (set_count sets) (length sets) (set_count-bound sets)
  where
    bound : (b : Bool) (m n : ℕ) → m ≤ n → (if b then 0 else 1) + m ≤ suc n
    bound true m n le = omega arith
    bound false m n le = omega arith

-- a register of a set may stand where the set's are taken
pub suits-from_set : (r : Reg) (set : RegSet) → set_has set r ≡ true → suits_set (r, set) ≡ true
unfolding set_has
suits-from_set r set has =
    let concrete : r.symbolic ≡ false = not-true r.symbolic (and_parts (not r.symbolic) (eqb (bit_at set.bits (bit_of r.bank r.number)) 1 && is_in_bank r) has).0 in
    ap (λ b. if b then is_of_bank r.bank set else set_has set r) concrete ∙ has

-- the zero register is the one that the test finds
pub is_zero-register : (r : Reg) → is_zero r ≡ true → r ≡ zero_register
unfolding same_reg
is_zero-register r found = same_reg-true r zero_register (is_same r ∙ found)
  where
    not_symbolic : (b : Bool) → same_bool b false ≡ not b
    not_symbolic true = refl
    not_symbolic false = refl

    is_same : (r : Reg) → same_reg r zero_register ≡ is_zero r
    is_same r = ap (λ b. eqb (bank_number r.bank) 0 && (b && eqb r.number 31)) (not_symbolic r.symbolic)
