-- The registers of the machine, and those of a set: which there are, and their order.
use Rattle.std.proofs.Common.{◌≡◌, ℕ, ◌<◌, ◌≤◌, true, false, ◌&&◌, not, eqb, List, [], ◌∷◌, ◌++◌, is_some, ⊎_elim, refl, sym, ap, subst, arith}
use Rattle.std.specs.Int.{bit_at}
use Rattle.std.proofs.lemmas.Bool.{and_parts, and_from, cases_Bool, not-true, ltb-true}
use Rattle.sl_model.specs.declared.register.Bank.{Bank}
use Rattle.sl_model.specs.declared.register.Bank.TheVariants.{General, Vector, Flags, Stack}
use Rattle.sl_model.specs.declared.register.Reg.{Reg}
use Rattle.sl_model.specs.declared.register.RegSet.{RegSet}
use Rattle.sl_model.specs.Register.{same_reg}
use Rattle.sl_model.specs.RegSets.{set_has, bank_size, bit_of, is_in_bank, machine_reg, bank_regs, machine_regs, regs_in}
use Rattle.sl_model.specs.Source.{numbers_below, place_from}
use Rattle.sl_model.specs.Body.{all_differ}
use Rattle.sl_laws.proofs.Members.{Has, Ordered, has-left, has-right, has-cases, has-map, from-map, has-numbers, from-numbers, has-filter, passes-filter, place-has, ordered-append, ordered-map, ordered-filter, ordered-numbers}
use Rattle.sl_laws.proofs.Registers.{place_from-misses, same_reg-true}

-- the bit of a register in a set
abbrev pub bit : Reg → ℕ
bit r = bit_of r.bank r.number

-- a register stands before another by its bit
abbrev pub Lower : Reg → Reg → Type 0
Lower a b = bit a < bit b

-- the registers behind those of the first banks
abbrev behind_general : List Reg
behind_general = bank_regs Vector ++ (bank_regs Flags ++ bank_regs Stack)

abbrev behind_vector : List Reg
behind_vector = bank_regs Flags ++ bank_regs Stack

-- a register of a bank is one of the bank's
bank-has : (bank : Bank) (n : ℕ) → n < bank_size bank → Has (machine_reg bank n) (bank_regs bank)
bank-has bank n less = has-map (machine_reg bank) n (numbers_below (bank_size bank)) (has-numbers (bank_size bank) n less)

-- and so of the machine's
machine-has : (bank : Bank) (n : ℕ) → n < bank_size bank → Has (machine_reg bank n) machine_regs
unfolding machine_regs
machine-has General n less = has-left (machine_reg General n) (bank_regs General) behind_general (bank-has General n less)
machine-has Vector n less =
    has-right (machine_reg Vector n) (bank_regs General) behind_general
    (has-left (machine_reg Vector n) (bank_regs Vector) behind_vector (bank-has Vector n less))
machine-has Flags n less =
    has-right (machine_reg Flags n) (bank_regs General) behind_general
    (has-right (machine_reg Flags n) (bank_regs Vector) behind_vector
    (has-left (machine_reg Flags n) (bank_regs Flags) (bank_regs Stack) (bank-has Flags n less)))
machine-has Stack n less =
    has-right (machine_reg Stack n) (bank_regs General) behind_general
    (has-right (machine_reg Stack n) (bank_regs Vector) behind_vector
    (has-right (machine_reg Stack n) (bank_regs Flags) (bank_regs Stack) (bank-has Stack n less)))

-- Each register of a set is one of the machine's.
pub has-machine : (set : RegSet) (r : Reg) → set_has set r ≡ true → Has r machine_regs
unfolding set_has
has-machine set r has =
    let parts = and_parts (not r.symbolic) (eqb (bit_at set.bits (bit r)) 1 && is_in_bank r) has in
    let plain : r.symbolic ≡ false = not-true r.symbolic parts.0 in
    let within = (and_parts (eqb (bit_at set.bits (bit r)) 1) (is_in_bank r) parts.1).1 in
    subst (λ q. Has q machine_regs) (λ i. record { bank = r.bank; symbolic = sym plain i; number = r.number })
    (machine-has r.bank r.number (ltb-true r.number (bank_size r.bank) within))

-- ---- their order

-- the least bit of a bank, and the least behind it
low : Bank → ℕ
low General = 0
low Vector = 32
low Flags = 64
low Stack = 65

high : Bank → ℕ
high General = 32
high Vector = 64
high Flags = 65
high Stack = 66

-- a register of a bank has one of its bits
record IsOfBank (bank : Bank) (r : Reg) : Type 0 where
  from : low bank ≤ bit r
  below : bit r < high bank

bits_of_bank : (bank : Bank) (n : ℕ) → n < bank_size bank → IsOfBank bank (machine_reg bank n)
unfolding low high
bits_of_bank General n less = record { from = omega arith; below = omega arith }
bits_of_bank Vector n less = record { from = omega arith; below = omega arith }
bits_of_bank Flags n less = record { from = omega arith; below = omega arith }
bits_of_bank Stack n less = record { from = omega arith; below = omega arith }

from-bank : (bank : Bank) (r : Reg) → Has r (bank_regs bank) → IsOfBank bank r
from-bank bank r h =
    let m = from-map (machine_reg bank) r (numbers_below (bank_size bank)) h in
    subst (IsOfBank bank) m.2 (bits_of_bank bank m.0 (from-numbers (bank_size bank) m.0 m.1))

-- The registers of a bank ascend.
ordered-bank : (bank : Bank) → Ordered Lower (bank_regs bank)
unfolding numbers_below
ordered-bank General = ordered-map (λ a b. a < b) Lower (machine_reg General) (numbers_below 32) (ordered-numbers 32) (λ a b less. less)
ordered-bank Vector = ordered-map (λ a b. a < b) Lower (machine_reg Vector) (numbers_below 32) (ordered-numbers 32) (λ a b less. omega arith)
ordered-bank Flags = (λ y h. absurd h, tt)
ordered-bank Stack = (λ y h. absurd h, tt)

-- where all registers behind those of a bank have no lesser bits, they go on from it
ordered-banks : (bank : Bank) (rest : List Reg) → Ordered Lower rest → ((r : Reg) → Has r rest → high bank ≤ bit r) → Ordered Lower (bank_regs bank ++ rest)
ordered-banks bank rest ordered behind =
    ordered-append Lower (bank_regs bank) rest (ordered-bank bank) ordered (λ a b ha hb.
    let below : bit a < high bank = (from-bank bank a ha).below in
    let from : high bank ≤ bit b = behind b hb in
    omega arith)

-- The registers of the machine ascend.
pub ordered-machine : Ordered Lower machine_regs
unfolding machine_regs low high
ordered-machine =
    ordered-banks General behind_general
    (ordered-banks Vector behind_vector
    (ordered-banks Flags (bank_regs Stack) (ordered-bank Stack) (λ r h. (from-bank Stack r h).from))
    behind-vector)
    (λ r h. ⊎_elim
    (λ (vector : Has r (bank_regs Vector)). (from-bank Vector r vector).from)
    (λ (rest : Has r behind_vector). let least : 64 ≤ bit r = behind-vector r rest in omega arith)
    (has-cases r (bank_regs Vector) behind_vector h))
  where
    behind-vector : (r : Reg) → Has r behind_vector → 64 ≤ bit r
    behind-vector r h = ⊎_elim
        (λ (flags : Has r (bank_regs Flags)). (from-bank Flags r flags).from)
        (λ (stack : Has r (bank_regs Stack)). let least : 65 ≤ bit r = (from-bank Stack r stack).from in omega arith)
        (has-cases r (bank_regs Flags) (bank_regs Stack) h)

-- ---- the registers of a set

-- Each register of a set is among those listed.
pub has-regs_in : (set : RegSet) (r : Reg) → set_has set r ≡ true → Has r (regs_in set)
unfolding regs_in
has-regs_in set r has = has-filter (set_has set) r machine_regs (has-machine set r has) has

-- Those listed are of the set.
pub from-regs_in : (set : RegSet) (r : Reg) → Has r (regs_in set) → set_has set r ≡ true
unfolding regs_in
from-regs_in set r h = passes-filter (set_has set) r machine_regs h

-- They ascend.
pub ordered-regs_in : (set : RegSet) → Ordered Lower (regs_in set)
unfolding regs_in
ordered-regs_in set = ordered-filter Lower (set_has set) machine_regs ordered-machine

-- a register stands before another, so that the test tells them apart
lower-differ : (r q : Reg) → Lower r q → same_reg q r ≡ false
lower-differ r q lower = ⊎_elim
    (λ (same : same_reg q r ≡ true). let one : q ≡ r = same_reg-true q r same in let e : bit q ≡ bit r = ap bit one in absurd (omega arith))
    (λ f. f)
    (cases_Bool (same_reg q r))

-- registers that ascend differ
pub ascending-differ : (regs : List Reg) → Ordered Lower regs → all_differ regs ≡ true
unfolding all_differ
ascending-differ [] ordered = refl
ascending-differ (r ∷ regs) ordered =
    and_from (not (is_some (place_from 0 r regs))) (all_differ regs)
    (ap (λ o. not (is_some o)) (place_from-misses 0 r regs (λ k q at. lower-differ r q (ordered.0 q (place-has q regs k at)))))
    (ascending-differ regs ordered.1)

-- So the registers of a set differ.
pub regs_in-differ : (set : RegSet) → all_differ (regs_in set) ≡ true
regs_in-differ set = ascending-differ (regs_in set) (ordered-regs_in set)
