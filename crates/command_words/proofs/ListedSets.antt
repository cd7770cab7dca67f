-- A set of a list of registers has no other registers than those that lists may name.
use Rattle.std.proofs.Common.{◌≡◌, ◌≢◌, ◌∙◌, ℕ, ◌<◌, ◌^◌, max, Bool, true, false, ◌&&◌, ◌||◌, not, nat_lt, eqb, bit_or, List, [], ◌∷◌, None, Some, Option, Ok, if◌then◌else◌, refl, sym, ap, subst, arith, ltb-true, ⊎_elim, true≢false}
use Rattle.std.specs.Prelude.{IfOk}
use Rattle.std.specs.Int.{bit_at}
use Rattle.std.specs.List.{list_all, slice_split}
use Rattle.std.specs.Str.{bytes_eq}
use Rattle.std.specs.Prelude.{codes}
use Rattle.std.proofs.lemmas.Nat.Bits.{bit_at-zero, bit_at-pow_other, bit_at_or}
use Rattle.std.proofs.lemmas.Bool.{and_parts, cases_Bool, eqb-true, eq-eqb}
use Rattle.sl_model.specs.declared.instruction.ArchName.{ArchName}
use Rattle.sl_model.specs.declared.instruction.ArchName.TheVariants.{Arm64, M4}
use Rattle.sl_model.specs.declared.register.Bank.{Bank}
use Rattle.sl_model.specs.declared.register.Bank.TheVariants.{General, Vector, Flags, Stack}
use Rattle.sl_model.specs.declared.register.Reg.{Reg}
use Rattle.sl_model.specs.RegisterNames.{register_named, machine_registers, general_registers, other_registers, registers_from, named_among, name_of}
use Rattle.sl_model.specs.RegSets.{bit_of, bank_size, is_in_bank, is_of_machine, set_has, set_of}
use Rattle.command_words.specs.Command.{is_listed_bank, numbered, listed_register, listed_registers, register_set}
use Rattle.command_words.specs.Table.{Text}
use Rattle.command_words.specs.Whole.{listed_count, IsListedSet}
use Rattle.command_words.proofs.Steps.{step, let_through, found-all}

-- a register that lists may name
abbrev IsListed : Reg → Type 0
IsListed r = r.number < listed_count r.bank

abbrev AllListed : List Reg → Type 0
AllListed [] = Unit {0}
AllListed (r ∷ regs) = IsListed r × AllListed regs

-- ---- names

-- Is a register of the machine one that lists may name, where its bank is one of those?
abbrev is_fine : Reg → Bool
is_fine r = not (is_listed_bank r.bank) || nat_lt r.number (listed_count r.bank)

all_fine : (arch : ArchName) → list_all is_fine (machine_registers arch) ≡ true
unfolding general_registers other_registers registers_from
all_fine Arm64 = refl
all_fine M4 = refl

fine : (b c : Bool) → (not b || c) ≡ true → b ≡ true → c ≡ true
fine true c e is = e
fine false c e is = absurd (true≢false (sym is))

numbered-listed : (o : Option Reg) → ((r : Reg) → o ≡ Some r → is_fine r ≡ true) → IfOk (numbered o) IsListed
numbered-listed None h = tt
numbered-listed (Some r) h = let_through IsListed (is_listed_bank r.bank) (Ok r)
    (λ is. ltb-true r.number (listed_count r.bank) (fine (is_listed_bank r.bank) (nat_lt r.number (listed_count r.bank)) (h r refl) is))

register-listed : (arch : ArchName) (name : Text) → IfOk (listed_register arch name) IsListed
unfolding listed_register named_among
register-listed arch name = ⊎_elim
    (λ (is : bytes_eq name (codes "flags") ≡ true). rw is (omega arith))
    (λ (other : bytes_eq name (codes "flags") ≡ false). rw other
    (numbered-listed (register_named arch name) (λ r found. found-all (λ r. bytes_eq (name_of arch r) name) is_fine (machine_registers arch) r (all_fine arch) found)))
    (cases_Bool (bytes_eq name (codes "flags")))

registers-listed : (arch : ArchName) (names : List Text) → IfOk (listed_registers arch names) AllListed
unfolding listed_registers
registers-listed arch [] = tt
registers-listed arch (name ∷ names) = step IsListed AllListed (listed_register arch name) _ (register-listed arch name)
    (λ r is. step AllListed AllListed (listed_registers arch names) _ (registers-listed arch names) (λ regs all. (is, all)))

-- ---- bits

-- a bit of a register that lists may name
abbrev IsListedBit : ℕ → Type 0
IsListedBit n = (n ≢ 31) × (n < 65)

bit-listed : (bank : Bank) (number : ℕ) → number < listed_count bank → IsListedBit (bit_of bank number)
bit-listed General number lt = (λ e. omega arith, omega arith)
bit-listed Vector number lt = (λ e. omega arith, omega arith)
bit-listed Flags number lt = (λ e. omega arith, omega arith)
bit-listed Stack number lt = absurd (omega arith)

from-bit : (bank : Bank) (number : ℕ) → number < bank_size bank → IsListedBit (bit_of bank number) → number < listed_count bank
from-bit General number lt is = let other : number ≢ 31 = is.0 in omega arith
from-bit Vector number lt is = lt
from-bit Flags number lt is = lt
from-bit Stack number lt is = absurd (omega (arith, is.1))

-- a bit more
more-listed : (k : ℕ) (bits n : ℕ) → IsListedBit k → (bit_at bits n ≡ 1 → IsListedBit n) → bit_at (bit_or (2 ^ k) bits) n ≡ 1 → IsListedBit n
more-listed k bits n is rest has = ⊎_elim
    (λ (here : eqb n k ≡ true). let same : n ≡ k = eqb-true n k here in subst (λ m. IsListedBit m) (sym same) is)
    (λ (past : eqb n k ≡ false).
    let other : n ≢ k = λ e. true≢false (sym (eq-eqb n k e) ∙ past) in
    let low : max 0 (bit_at bits n) ≡ 1 = ap (λ m. max m (bit_at bits n)) (sym (bit_at-pow_other k n other)) ∙ sym (bit_at_or (2 ^ k) bits n) ∙ has in
    rest (omega arith))
    (cases_Bool (eqb n k))

-- the bits of a set of such registers
bits-listed : (regs : List Reg) → AllListed regs → (n : ℕ) → bit_at (set_of regs).bits n ≡ 1 → IsListedBit n
unfolding set_of
bits-listed [] all n has = absurd (let none = bit_at-zero n in omega arith)
bits-listed (q ∷ regs) all n has = go (is_of_machine q) (bits-listed regs all.1 n) has
  where
    go : (b : Bool) → (bit_at (set_of regs).bits n ≡ 1 → IsListedBit n)
        → bit_at (if b then bit_or (2 ^ bit_of q.bank q.number) (set_of regs).bits else (set_of regs).bits) n ≡ 1 → IsListedBit n
    go true rest h = more-listed (bit_of q.bank q.number) (set_of regs).bits n (bit-listed q.bank q.number all.0) rest h
    go false rest h = rest h

set-listed : (regs : List Reg) → AllListed regs → IsListedSet (set_of regs)
unfolding set_has
set-listed regs all r has =
    let inner = and_parts (eqb (bit_at (set_of regs).bits (bit_of r.bank r.number)) 1) (is_in_bank r)
    (and_parts (not r.symbolic) (eqb (bit_at (set_of regs).bits (bit_of r.bank r.number)) 1 && is_in_bank r) has).1 in
    from-bit r.bank r.number (ltb-true r.number (bank_size r.bank) inner.1)
    (bits-listed regs all (bit_of r.bank r.number) (eqb-true (bit_at (set_of regs).bits (bit_of r.bank r.number)) 1 inner.0))

-- the set that a list names
pub list-listed : (arch : ArchName) (word : Text) → IfOk (register_set arch word) IsListedSet
unfolding register_set
list-listed arch word = ⊎_elim
    (λ (is : bytes_eq word (codes "none") ≡ true). rw is (set-listed [] tt))
    (λ (other : bytes_eq word (codes "none") ≡ false). rw other
    (step AllListed IsListedSet (listed_registers arch (slice_split (λ c. eqb c 44) word)) _ (registers-listed arch (slice_split (λ c. eqb c 44) word)) (λ regs all. set-listed regs all)))
    (cases_Bool (bytes_eq word (codes "none")))

-- no registers
pub none-listed : IsListedSet (set_of [])
none-listed = set-listed [] tt
