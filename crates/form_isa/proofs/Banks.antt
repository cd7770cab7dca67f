-- A class that is only of a bank is one of its registers alone.
use Rattle.std.proofs.Common.{◌≡◌, ◌∙◌, ap, subst, refl, ℕ, ◌+◌, ◌*◌, ◌/◌, ◌%◌, ◌^◌, ◌<◌, ◌≤◌, ◌≢◌, Bool, true, false, not, ◌&&◌, eqb, arith}
use Rattle.std.specs.Prelude.{nat_lt}
use Rattle.std.specs.Int.{bit_at}
use Rattle.std.proofs.Math.Nat.{div-eq_of_lt}
use Rattle.std.proofs.lemmas.Nat.{mod_below, pow_pos}
use Rattle.std.proofs.lemmas.Nat.Bits.{bit_at_above, bit_at_cat_low, bit_at-pow_other, bit_at-zero}
use Rattle.std.proofs.lemmas.Bool.{and_parts, eqb-true, ltb-true, not-true, false≢true}
use Rattle.sl_model.specs.declared.register.Bank.{Bank}
use Rattle.sl_model.specs.declared.register.Bank.TheVariants.{General, Vector, Flags, Stack}
use Rattle.sl_model.specs.declared.register.Reg.{Reg}
use Rattle.sl_model.specs.declared.register.RegSet.{RegSet}
use Rattle.sl_model.specs.RegSets.{bit_of, bank_size, set_has}
use Rattle.sl_model.specs.Lawful.{bank_bits, suits_set, zero_register}
use Rattle.form_isa.specs.LawfulTable.{are_of, is_only_of}
use Rattle.sl_laws.proofs.Tests.{else_parts, then_parts}

-- A class has no register of a bank.
record IsClear (bank : Bank) (set : RegSet) : Type 0 where
  bits : bank_bits bank set ≡ 0
  bit : (number : ℕ) → number < bank_size bank → bit_at set.bits (bit_of bank number) ≡ 0

no_one : (x : ℕ) → x ≡ 0 → eqb x 1 ≡ true → ⊥
no_one x e f = let one : x ≡ 1 = eqb-true x 1 f in omega (arith, e, one)

no_less : (x : ℕ) → x ≡ 0 → nat_lt 0 x ≡ true → ⊥
no_less x e f = let more : 0 < x = ltb-true 0 x f in omega (arith, e, more)

-- so no register of this bank suits it
clear-suits : (bank : Bank) (symbolic : Bool) (number : ℕ) (set : RegSet) → IsClear bank set →
    suits_set (record { bank = bank; symbolic = symbolic; number = number }, set) ≡ true → ⊥
unfolding set_has
clear-suits bank true number set clear e = no_less (bank_bits bank set) clear.bits e
clear-suits bank false number set clear e =
    let parts = and_parts (eqb (bit_at set.bits (bit_of bank number)) 1) (nat_lt number (bank_size bank)) e in
    no_one (bit_at set.bits (bit_of bank number)) (clear.bit number (ltb-true number (bank_size bank) parts.1)) parts.0

above-zero : (x k : ℕ) → x < 2 ^ k → x / 2 ^ k ≡ 0
above-zero x k h = div-eq_of_lt h

-- the bits of a class of general registers
low-clear_vector : (set : RegSet) → set.bits < 2 ^ 32 → IsClear Vector set
low-clear_vector set h = record {
  bits = ap (λ n. n % 2 ^ 32) (above-zero set.bits 32 h);
  bit = λ number below. bit_at_above set.bits 32 (32 + number) h (omega arith);
}

wider : (x i j : ℕ) → x < 2 ^ i → 2 ^ i ≤ 2 ^ j → x < 2 ^ j
wider x i j h g = omega (arith, h, g)

below-clear_flags : (set : RegSet) → set.bits < 2 ^ 64 → IsClear Flags set
below-clear_flags set h = record {
  bits = ap (λ n. n % 2) (above-zero set.bits 64 h);
  bit = λ number below. ap (λ n. n % 2) (above-zero set.bits 64 h);
}

below-clear_stack : (set : RegSet) → set.bits < 2 ^ 65 → IsClear Stack set
below-clear_stack set h = record {
  bits = ap (λ n. n % 2) (above-zero set.bits 65 h);
  bit = λ number below. ap (λ n. n % 2) (above-zero set.bits 65 h);
}

-- the bits of a class of vector registers
high-clear_general : (set : RegSet) (v : ℕ) → set.bits ≡ v * 2 ^ 32 → IsClear General set
high-clear_general set v e = record {
  bits = ap (λ n. n % 2 ^ 32) e ∙ omega arith;
  bit = λ number below. ap (λ n. bit_at n number) (e ∙ omega arith) ∙ (bit_at_cat_low v 32 0 number below ∙ bit_at-zero number);
}

-- what the tests of a class say of its bits
general-below : (set : RegSet) → are_of General set ≡ true → set.bits < 2 ^ 32
general-below set e =
    let same : bank_bits General set ≡ set.bits =
    eqb-true (bank_bits General set) set.bits
    (then_parts (eqb (bank_bits General set) set.bits) (not (eqb (set.bits / 2 ^ 31 % 2) 1)) e).0 in
    let below : set.bits % 2 ^ 32 < 2 ^ 32 = mod_below set.bits (2 ^ 32) (pow_pos 32) in
    subst (λ n. n < 2 ^ 32) same below

vector-shifted : (set : RegSet) → are_of Vector set ≡ true → set.bits ≡ bank_bits Vector set * 2 ^ 32
vector-shifted set e = eqb-true set.bits (bank_bits Vector set * 2 ^ 32) e

product-below : (x v : ℕ) → x ≡ v * 2 ^ 32 → v < 2 ^ 32 → x < 2 ^ 64
product-below x v e h = omega (arith, e, h)

vector-below : (set : RegSet) → are_of Vector set ≡ true → set.bits < 2 ^ 64
vector-below set e =
    product-below set.bits (bank_bits Vector set) (vector-shifted set e) (mod_below (set.bits / 2 ^ 32) (2 ^ 32) (pow_pos 32))

flags-bits : (set : RegSet) → are_of Flags set ≡ true → set.bits ≡ 2 ^ 64
flags-bits set e = eqb-true set.bits (2 ^ 64) e

flags-clear : (bank : Bank) (set : RegSet) → bank_bits bank (let s : RegSet = record { bits = 2 ^ 64 } in s) ≡ 0 →
    ((number : ℕ) → number < bank_size bank → bit_of bank number ≢ 64) → set.bits ≡ 2 ^ 64 → IsClear bank set
flags-clear bank set none other e = record {
  bits = ap (λ n. bank_bits bank (let s : RegSet = record { bits = n } in s)) e ∙ none;
  bit = λ number below. ap (λ n. bit_at n (bit_of bank number)) e ∙ bit_at-pow_other 64 (bit_of bank number) (other number below);
}

of-flags-general : (set : RegSet) → are_of Flags set ≡ true → IsClear General set
of-flags-general set e = flags-clear General set refl (λ number below. omega arith) (flags-bits set e)

of-flags-vector : (set : RegSet) → are_of Flags set ≡ true → IsClear Vector set
of-flags-vector set e = flags-clear Vector set refl (λ number below. omega arith) (flags-bits set e)

of-flags-stack : (set : RegSet) → are_of Flags set ≡ true → IsClear Stack set
of-flags-stack set e = flags-clear Stack set refl (λ number below. omega arith) (flags-bits set e)

-- A register that suits a class of one bank is of this bank.
suits-bank : (b bank : Bank) (symbolic : Bool) (number : ℕ) (set : RegSet) → are_of b set ≡ true →
    suits_set (record { bank = bank; symbolic = symbolic; number = number }, set) ≡ true → bank ≡ b
suits-bank General General symbolic number set e s = refl
suits-bank General Vector symbolic number set e s =
    absurd (clear-suits Vector symbolic number set (low-clear_vector set (general-below set e)) s)
suits-bank General Flags symbolic number set e s =
    absurd (clear-suits Flags symbolic number set
    (below-clear_flags set (wider set.bits 32 64 (general-below set e) (omega arith))) s)
suits-bank General Stack symbolic number set e s =
    absurd (clear-suits Stack symbolic number set
    (below-clear_stack set (wider set.bits 32 65 (general-below set e) (omega arith))) s)
suits-bank Vector General symbolic number set e s =
    absurd (clear-suits General symbolic number set (high-clear_general set (bank_bits Vector set) (vector-shifted set e)) s)
suits-bank Vector Vector symbolic number set e s = refl
suits-bank Vector Flags symbolic number set e s =
    absurd (clear-suits Flags symbolic number set (below-clear_flags set (vector-below set e)) s)
suits-bank Vector Stack symbolic number set e s =
    absurd (clear-suits Stack symbolic number set
    (below-clear_stack set (wider set.bits 64 65 (vector-below set e) (omega arith))) s)
suits-bank Flags General symbolic number set e s = absurd (clear-suits General symbolic number set (of-flags-general set e) s)
suits-bank Flags Vector symbolic number set e s = absurd (clear-suits Vector symbolic number set (of-flags-vector set e) s)
suits-bank Flags Flags symbolic number set e s = refl
suits-bank Flags Stack symbolic number set e s = absurd (clear-suits Stack symbolic number set (of-flags-stack set e) s)
suits-bank Stack bank symbolic number set e s = absurd (false≢true e)

-- what the test of a class says
record IsOnly (b : Bank) (set : RegSet) : Type 0 where
  some : eqb set.bits 0 ≡ false
  of : are_of b set ≡ true

only-is : (b : Bank) (set : RegSet) → is_only_of b set ≡ true → IsOnly b set
only-is b set e = let parts = else_parts (eqb set.bits 0) (are_of b set) e in record { some = parts.0; of = parts.1 }

pub only-some : (b : Bank) (set : RegSet) → is_only_of b set ≡ true → eqb set.bits 0 ≡ false
only-some b set e = (only-is b set e).some

pub only-bank : (b : Bank) (r : Reg) (set : RegSet) → is_only_of b set ≡ true → suits_set (r, set) ≡ true → r.bank ≡ b
only-bank b r set e s = suits-bank b r.bank r.symbolic r.number set (only-is b set e).of s

-- The zero register is in no class of one bank.
not_one : (x : ℕ) → not (eqb x 1) ≡ true → eqb x 1 ≡ false
not_one x e = not-true (eqb x 1) e

lacks : (set : RegSet) → eqb (bit_at set.bits 31) 1 ≡ false → set_has set zero_register ≡ false
unfolding set_has
lacks set e = ap (λ b. b && true) e

zero_is : (x : ℕ) → x ≡ 0 → eqb x 1 ≡ false
zero_is x e = ap (λ n. eqb n 1) e

of-lacks_zero : (b : Bank) (set : RegSet) → are_of b set ≡ true → set_has set zero_register ≡ false
of-lacks_zero General set e =
    lacks set (not_one (set.bits / 2 ^ 31 % 2)
    (then_parts (eqb (bank_bits General set) set.bits) (not (eqb (set.bits / 2 ^ 31 % 2) 1)) e).1)
of-lacks_zero Vector set e =
    lacks set (zero_is _ ((high-clear_general set (bank_bits Vector set) (vector-shifted set e)).bit 31 (omega arith)))
of-lacks_zero Flags set e = lacks set (zero_is _ ((of-flags-general set e).bit 31 (omega arith)))
of-lacks_zero Stack set e = absurd (false≢true e)

pub only-lacks_zero : (b : Bank) (set : RegSet) → is_only_of b set ≡ true → set_has set zero_register ≡ false
only-lacks_zero b set e = of-lacks_zero b set (only-is b set e).of
