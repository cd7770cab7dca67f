-- Registers in places, as an instruction has them.
use Rattle.std.proofs.Common.{◌≡◌, ℕ, zero, suc, ◌≤◌, List, [], ◌∷◌, length, refl, ap, arith}
use Rattle.std.specs.List.{filter_map}
use Rattle.sl_model.specs.declared.register.Reg.{Reg}
use Rattle.sl_model.specs.Source.{padded}

-- padded registers fill all places
pub length-padded : (n : ℕ) (regs : List Reg) → length (padded n regs) ≡ n
length-padded zero regs = refl
length-padded (suc n) [] = ap suc (length-padded n [])
length-padded (suc n) (r ∷ regs) = ap suc (length-padded n regs)

-- The registers of as many places as they fill at most are those that were put there.
pub padded-back : (n : ℕ) (regs : List Reg) → length regs ≤ n → filter_map (λ r. r) (padded n regs) ≡ regs
padded-back zero [] le = refl
padded-back zero (r ∷ regs) le = absurd (omega arith)
padded-back (suc n) [] le = padded-back n [] (omega arith)
padded-back (suc n) (r ∷ regs) le = ap (λ l. r ∷ l) (padded-back n regs (omega arith))
