-- What the operands of an instruction hold is what they held when it was made: printing finds the registers and numbers
-- that were read.
use Rattle.std.proofs.Common.{◌≡◌, ◌∙◌, sym, ap, subst, ℕ, zero, suc, ◌+◌, ◌-◌, ◌==◌, ◌<◌, ◌≤◌, Bool, true, false, cond, List, [], ◌∷◌, length, arith, refl, ◌⊎◌, inl, inr}
use Rattle.std.specs.Prelude.{ℤ, pos, Option, Some, None, is_some, unwrap_or, slice_get, slice_index_or}
use Rattle.std.proofs.Math.Logic.{⊎_elim}
use Rattle.std.proofs.lemmas.Bool.Decides.{nat_tests}
use Rattle.std.proofs.lemmas.Option.{get_or_from_slice_get, slice_get_within, same_Some}
use Rattle.sl_model.specs.declared.register.Reg.{Reg}
use Rattle.sl_model.specs.declared.instruction.Instr.{Instr}
use Rattle.sl_isa.specs.Steps.{flags_register}
use Rattle.form_table.specs.Rows.{row_operands}
use Rattle.form_table.specs.Reads.{is_picked, kept, picked, placed, all_placed, flags_placed, inputs, results, number_at, instr_of}
use Rattle.form_table.specs.Printed.{has_register, has_number, one_if, among_outs, among_ins, register_in, number_in, held_in, helds_in}
use Rattle.form_table.specs.declared.rows.Role.{Role}
use Rattle.form_table.specs.declared.rows.Role.TheVariants as role
use Rattle.form_table.specs.declared.rows.Operand.{Operand}
use Rattle.form_table.specs.declared.rows.Row.{Row}
use Rattle.form_table.specs.declared.spells.Held.{Held}
use Rattle.form_table.specs.declared.reader.Pick.TheVariants as pick

-- a register that has its place keeps it
placed_keeps : (places : List (Option Reg)) (q r : Reg) (k : ℕ) → slice_get places k ≡ Some (Some r) → slice_get (placed places q) k ≡ Some (Some r)
unfolding placed
placed_keeps [] q r k e = absurd cc
placed_keeps (None ∷ places) q r zero e = absurd cc
placed_keeps (None ∷ places) q r (suc k) e = e
placed_keeps (Some p ∷ places) q r zero e = e
placed_keeps (Some p ∷ places) q r (suc k) e = placed_keeps places q r k e

all_placed_keeps : (places : List (Option Reg)) (regs : List Reg) (r : Reg) (k : ℕ) → slice_get places k ≡ Some (Some r) → slice_get (all_placed places regs) k ≡ Some (Some r)
unfolding all_placed
all_placed_keeps places [] r k e = e
all_placed_keeps places (q ∷ regs) r k e = all_placed_keeps (placed places q) regs r k (placed_keeps places q r k e)

-- places that are free
abbrev pub free : ℕ → List (Option Reg)
free zero = []
free (suc n) = None ∷ free n

all_placed_behind : (q : Reg) (places : List (Option Reg)) (regs : List Reg) → all_placed (Some q ∷ places) regs ≡ Some q ∷ all_placed places regs
unfolding all_placed placed
all_placed_behind q places [] = refl
all_placed_behind q places (r ∷ regs) = all_placed_behind q (placed places r) regs

-- registers stand in free places one after the other
all_placed_at : (n : ℕ) (regs : List Reg) (r : Reg) (k : ℕ) → length regs ≤ n → slice_get regs k ≡ Some r → slice_get (all_placed (free n) regs) k ≡ Some (Some r)
unfolding all_placed placed
all_placed_at n [] r k fits e = absurd cc
all_placed_at zero (q ∷ regs) r k fits e = absurd (omega arith)
all_placed_at (suc n) (q ∷ regs) r zero fits e =
    ap (λ v. slice_get v 0) (all_placed_behind q (free n) regs) ∙ ap Some e
all_placed_at (suc n) (q ∷ regs) r (suc k) fits e =
    let less : length regs ≤ n = omega arith in
    ap (λ v. slice_get v (suc k)) (all_placed_behind q (free n) regs) ∙ all_placed_at n regs r k less e

-- An operand's register and number are there exactly where its shape has them.
pub record IsShaped (operand : Operand) (held : Held) : Type 0 where
  pub register : is_some held.register ≡ has_register operand.shape
  pub number : is_some held.number ≡ has_number operand.shape

abbrev pub Shaped : List Operand → List Held → Type 0
Shaped [] [] = Unit {0}
Shaped [] (held ∷ helds) = ⊥
Shaped (operand ∷ operands) [] = ⊥
Shaped (operand ∷ operands) (held ∷ helds) = IsShaped operand held × Shaped operands helds

-- the numbers that operands hold
abbrev pub with_number : Option ℤ → List ℤ → List ℤ
with_number None numbers = numbers
with_number (Some n) numbers = n ∷ numbers

abbrev pub numbers_of : List Held → List ℤ
numbers_of [] = []
numbers_of (held ∷ helds) = with_number held.number (numbers_of helds)

-- From a place on, places hold these registers.
abbrev pub HoldFrom : List (Option Reg) → ℕ → List Reg → Type 0
HoldFrom places from regs = (k : ℕ) (r : Reg) → slice_get regs k ≡ Some r → slice_index_or places (from + k) None ≡ Some r

abbrev pub NumbersFrom : List ℤ → ℕ → List ℤ → Type 0
NumbersFrom imms from numbers = (k : ℕ) (n : ℤ) → slice_get numbers k ≡ Some n → slice_index_or imms (from + k) (pos 0) ≡ n

no_register : (o : Option Reg) → is_some o ≡ false → o ≡ None
no_register None e = refl
no_register (Some r) e = absurd cc

no_number : (o : Option ℤ) → is_some o ≡ false → o ≡ None
no_number None e = refl
no_number (Some n) e = absurd cc

-- where a list begins with a register, what stands behind it is one place on
pub hold_next : (places : List (Option Reg)) (from : ℕ) (r : Reg) (regs : List Reg) → HoldFrom places from (r ∷ regs) → HoldFrom places (from + 1) regs
hold_next places from r regs h k q e =
    let same : from + suc k ≡ from + 1 + k = omega arith in
    subst (λ n. slice_index_or places n None ≡ Some q) same (h (suc k) q e)

pub hold_first : (places : List (Option Reg)) (from : ℕ) (r : Reg) (regs : List Reg) → HoldFrom places from (r ∷ regs) → slice_index_or places from None ≡ Some r
hold_first places from r regs h =
    let same : from + 0 ≡ from = omega arith in
    subst (λ n. slice_index_or places n None ≡ Some r) same (h 0 r refl)

pub hold_same : (places : List (Option Reg)) (from : ℕ) (regs : List Reg) → HoldFrom places from regs → HoldFrom places (from + 0) regs
hold_same places from regs h = let same : from ≡ from + 0 = omega arith in subst (λ n. HoldFrom places n regs) same h

numbers_next : (imms : List ℤ) (from : ℕ) (n : ℤ) (numbers : List ℤ) → NumbersFrom imms from (n ∷ numbers) → NumbersFrom imms (from + 1) numbers
numbers_next imms from n numbers h k m e =
    let same : from + suc k ≡ from + 1 + k = omega arith in
    subst (λ v. slice_index_or imms v (pos 0) ≡ m) same (h (suc k) m e)

numbers_first : (imms : List ℤ) (from : ℕ) (n : ℤ) (numbers : List ℤ) → NumbersFrom imms from (n ∷ numbers) → slice_index_or imms from (pos 0) ≡ n
numbers_first imms from n numbers h =
    let same : from + 0 ≡ from = omega arith in
    subst (λ v. slice_index_or imms v (pos 0) ≡ n) same (h 0 n refl)

numbers_same : (imms : List ℤ) (from : ℕ) (numbers : List ℤ) → NumbersFrom imms from numbers → NumbersFrom imms (from + 0) numbers
numbers_same imms from numbers h = let same : from ≡ from + 0 = omega arith in subst (λ n. NumbersFrom imms n numbers) same h

-- the step for inputs: what is kept of an operand stands first, and the others are where the count says
pub record StepIn (places : List (Option Reg)) (from : ℕ) (wanted : Bool) (o : Option Reg) (regs : List Reg) : Type 0 where
  pub first : wanted ≡ true → slice_index_or places from None ≡ o
  pub rest : HoldFrom places (from + one_if wanted) regs

step_in : (places : List (Option Reg)) (from : ℕ) (has picks : Bool) (o : Option Reg) (regs : List Reg) → is_some o ≡ has →
    HoldFrom places from (kept picks o regs) → StepIn places from (cond has picks false) o regs
step_in places from true true None regs s h = absurd cc
step_in places from true true (Some r) regs s h = record { first = λ w. hold_first places from r regs h; rest = hold_next places from r regs h }
step_in places from true false o regs s h = record { first = λ w. absurd cc; rest = hold_same places from regs h }
step_in places from false false o regs s h = record { first = λ w. absurd cc; rest = hold_same places from regs h }
step_in places from false true None regs s h = record { first = λ w. absurd cc; rest = hold_same places from regs h }
step_in places from false true (Some r) regs s h = absurd cc

pub record StepNumber (imms : List ℤ) (from : ℕ) (has : Bool) (o : Option ℤ) (numbers : List ℤ) : Type 0 where
  pub first : cond has (Some (slice_index_or imms from (pos 0))) None ≡ o
  pub rest : NumbersFrom imms (from + one_if has) numbers

step_number : (imms : List ℤ) (from : ℕ) (has : Bool) (o : Option ℤ) (numbers : List ℤ) → is_some o ≡ has →
    NumbersFrom imms from (with_number o numbers) → StepNumber imms from has o numbers
step_number imms from true None numbers s h = absurd cc
step_number imms from true (Some n) numbers s h = record { first = ap Some (numbers_first imms from n numbers h); rest = numbers_next imms from n numbers h }
step_number imms from false None numbers s h = record { first = refl; rest = numbers_same imms from numbers h }
step_number imms from false (Some n) numbers s h = absurd cc

-- each role is read where it stands, or written
read_or_written : (r : Role) → (is_picked pick.Written r ≡ true) ⊎ ((is_picked pick.Written r ≡ false) × (is_picked pick.Read r ≡ true))
read_or_written role.In = inr (refl, refl)
read_or_written role.Out = inl refl
read_or_written role.Tied = inl refl
read_or_written role.Base = inr (refl, refl)
read_or_written role.Back = inr (refl, refl)

-- the register of an operand, from what was found at its places
choice_is : (has writes reads : Bool) (o atout atin : Option Reg) → is_some o ≡ has → ((writes ≡ true) ⊎ ((writes ≡ false) × (reads ≡ true))) →
    (cond has writes false ≡ true → atout ≡ o) → (cond has reads false ≡ true → atin ≡ o) →
    cond (cond has writes false) atout (cond (cond has reads false) atin None) ≡ o
choice_is false writes reads o atout atin s w a b = sym (no_register o s)
choice_is true true reads o atout atin s w a b = a refl
choice_is true false true o atout atin s w a b = b refl
choice_is true false false o atout atin s w a b = ⊎_elim (λ (e : false ≡ true). absurd cc) (λ (e : (false ≡ false) × (false ≡ true)). absurd (let no : false ≡ true = e.1 in cc)) w

held_same : (o : Option Reg) (n : Option ℤ) (held : Held) → o ≡ held.register → n ≡ held.number → (let made : Held = record { register = o; number = n } in made) ≡ held
held_same o n held e f = ap (λ (v : Option Reg). let made : Held = record { register = v; number = n } in made) e ∙ ap (λ (v : Option ℤ). let made : Held = record { register = held.register; number = v } in made) f

-- What printing finds is what was read, where the places of the instruction hold it.
pub helds_in_is : (i : Instr) (operands : List Operand) (helds : List Held) (ins outs numbers : ℕ) → Shaped operands helds →
    HoldFrom i.ins ins (picked pick.Read operands helds) → HoldFrom i.outs outs (picked pick.Written operands helds) → NumbersFrom i.imms numbers (numbers_of helds) →
    helds_in i operands ins outs numbers ≡ helds
unfolding helds_in picked held_in
helds_in_is i [] [] ins outs numbers s a b c = refl
helds_in_is i [] (held ∷ helds) ins outs numbers s a b c = absurd s
helds_in_is i (operand ∷ operands) [] ins outs numbers s a b c = absurd s
helds_in_is i (operand ∷ operands) (held ∷ helds) ins outs numbers s a b c =
    let shaped : IsShaped operand held = s.0 in
    let one = step_in i.ins ins (has_register operand.shape) (is_picked pick.Read operand.role) held.register (picked pick.Read operands helds) shaped.register a in
    let two = step_in i.outs outs (has_register operand.shape) (is_picked pick.Written operand.role) held.register (picked pick.Written operands helds) shaped.register b in
    let three = step_number i.imms numbers (has_number operand.shape) held.number (numbers_of helds) shaped.number c in
    let register : register_in i operand ins outs ≡ held.register =
    choice_is (has_register operand.shape) (is_picked pick.Written operand.role) (is_picked pick.Read operand.role) held.register
    (slice_index_or i.outs outs None) (slice_index_or i.ins ins None) shaped.register (read_or_written operand.role) two.first one.first in
    let first : held_in i operand ins outs numbers ≡ held = held_same (register_in i operand ins outs) (number_in i operand numbers) held register three.first in
    let rest = helds_in_is i operands helds (ins + one_if (among_ins operand)) (outs + one_if (among_outs operand)) (numbers + one_if (has_number operand.shape)) s.1 one.rest two.rest three.rest in
    ap (λ h. h ∷ helds_in i operands (ins + one_if (among_ins operand)) (outs + one_if (among_outs operand)) (numbers + one_if (has_number operand.shape))) first
    ∙ ap (λ hs. held ∷ hs) rest

flags_keep : (places : List (Option Reg)) (wanted : Bool) (r : Reg) (k : ℕ) → slice_get places k ≡ Some (Some r) → slice_get (flags_placed places wanted) k ≡ Some (Some r)
flags_keep places false r k e = e
flags_keep places true r k e = placed_keeps places flags_register r k e

index_of : (places : List (Option Reg)) (k : ℕ) (r : Reg) → slice_get places k ≡ Some (Some r) → slice_index_or places (0 + k) None ≡ Some r
index_of places k r e =
    let same : k ≡ 0 + k = omega arith in
    subst (λ n. slice_index_or places n None ≡ Some r) same (get_or_from_slice_get places k (Some r) None e)

-- the inputs that are read where they stand come first
inputs_hold : (row : Row) (helds : List Held) → length (picked pick.Read (row_operands row) helds) ≤ 4 → HoldFrom (inputs row helds) 0 (picked pick.Read (row_operands row) helds)
unfolding inputs
inputs_hold row helds few k r e =
    let read : List Reg = picked pick.Read (row_operands row) helds in
    let tied : List Reg = picked pick.Tied (row_operands row) helds in
    let placed_first : slice_get (all_placed (free 4) read) k ≡ Some (Some r) = all_placed_at 4 read r k few e in
    let kept_behind : slice_get (all_placed (all_placed (free 4) read) tied) k ≡ Some (Some r) = all_placed_keeps (all_placed (free 4) read) tied r k placed_first in
    index_of _ k r (flags_keep (all_placed (all_placed (free 4) read) tied) row.reads_flags r k kept_behind)

-- and so do the outputs that are written where they stand
results_hold : (row : Row) (helds : List Held) → length (picked pick.Written (row_operands row) helds) ≤ 3 → HoldFrom (results row helds) 0 (picked pick.Written (row_operands row) helds)
unfolding results
results_hold row helds few k r e =
    let written : List Reg = picked pick.Written (row_operands row) helds in
    let back : List Reg = picked pick.Back (row_operands row) helds in
    let placed_first : slice_get (all_placed (free 3) written) k ≡ Some (Some r) = all_placed_at 3 written r k few e in
    let kept_behind : slice_get (all_placed (all_placed (free 3) written) back) k ≡ Some (Some r) = all_placed_keeps (all_placed (free 3) written) back r k placed_first in
    index_of _ k r (flags_keep (all_placed (all_placed (free 3) written) back) row.sets_flags r k kept_behind)

-- a number at its place
number_at_none : (held : Held) (helds : List Held) (k : ℕ) → held.number ≡ None → number_at k (held ∷ helds) ≡ number_at k helds
unfolding number_at
number_at_none held helds k e =
    ap (λ o. cond (is_some o) (cond (k == 0) (unwrap_or o (pos 0)) (number_at (k - 1) helds)) (number_at k helds)) e

number_at_first : (held : Held) (helds : List Held) (n : ℤ) → held.number ≡ Some n → number_at 0 (held ∷ helds) ≡ n
unfolding number_at
number_at_first held helds n e =
    ap (λ o. cond (is_some o) (cond (0 == 0) (unwrap_or o (pos 0)) (number_at (0 - 1) helds)) (number_at 0 helds)) e

number_at_next : (held : Held) (helds : List Held) (k : ℕ) (n : ℤ) → held.number ≡ Some n → number_at (suc k) (held ∷ helds) ≡ number_at k helds
unfolding number_at
number_at_next held helds k n e =
    let test : (suc k == 0) ≡ false = grind (arith, nat_tests) in
    let less : suc k - 1 ≡ k = omega arith in
    ap (λ o. cond (is_some o) (cond (suc k == 0) (unwrap_or o (pos 0)) (number_at (suc k - 1) helds)) (number_at (suc k) helds)) e
    ∙ (ap (λ b. cond b n (number_at (suc k - 1) helds)) test ∙ ap (λ m. number_at m helds) less)

none_or_some : (o : Option ℤ) → (o ≡ None) ⊎ ((n : ℤ) × (o ≡ Some n))
none_or_some None = inl refl
none_or_some (Some n) = inr (n, refl)

-- the numbers of operands, the first of which holds one
numbers_first_is : (helds : List Held) (held : Held) (m : ℤ) → held.number ≡ Some m → numbers_of (held ∷ helds) ≡ m ∷ numbers_of helds
numbers_first_is helds held m e = ap (λ o. with_number o (numbers_of helds)) e

numbers_none_is : (helds : List Held) (held : Held) → held.number ≡ None → numbers_of (held ∷ helds) ≡ numbers_of helds
numbers_none_is helds held e = ap (λ o. with_number o (numbers_of helds)) e

number_at_is : (helds : List Held) (k : ℕ) (n : ℤ) → slice_get (numbers_of helds) k ≡ Some n → number_at k helds ≡ n
number_at_is [] k n e = absurd cc
number_at_is (held ∷ helds) zero n e =
    ⊎_elim
    (λ (o : held.number ≡ None). number_at_none held helds 0 o ∙ number_at_is helds 0 n (ap (λ v. slice_get v 0) (sym (numbers_none_is helds held o)) ∙ e))
    (λ (o : (m : ℤ) × (held.number ≡ Some m)). number_at_first held helds o.0 o.1 ∙ same_Some o.0 n (ap (λ v. slice_get v 0) (sym (numbers_first_is helds held o.0 o.1)) ∙ e))
    (none_or_some held.number)
number_at_is (held ∷ helds) (suc k) n e =
    ⊎_elim
    (λ (o : held.number ≡ None). number_at_none held helds (suc k) o ∙ number_at_is helds (suc k) n (ap (λ v. slice_get v (suc k)) (sym (numbers_none_is helds held o)) ∙ e))
    (λ (o : (m : ℤ) × (held.number ≡ Some m)). number_at_next held helds k o.0 o.1 ∙ number_at_is helds k n (ap (λ v. slice_get v (suc k)) (sym (numbers_first_is helds held o.0 o.1)) ∙ e))
    (none_or_some held.number)

-- three numbers have their places
imms_hold : (helds : List Held) → length (numbers_of helds) ≤ 3 → NumbersFrom (number_at 0 helds ∷ number_at 1 helds ∷ number_at 2 helds ∷ []) 0 (numbers_of helds)
imms_hold helds few zero n e = number_at_is helds 0 n e
imms_hold helds few (suc zero) n e = number_at_is helds 1 n e
imms_hold helds few (suc (suc zero)) n e = number_at_is helds 2 n e
imms_hold helds few (suc (suc (suc k))) n e =
    let within : suc (suc (suc k)) < length (numbers_of helds) = slice_get_within (numbers_of helds) (suc (suc (suc k))) n e in
    absurd (omega arith)

-- What the operands of a row hold is found again in the instruction that is made of them, where there are places for all.
pub record HasPlaces (row : Row) (helds : List Held) : Type 0 where
  pub shaped : Shaped (row_operands row) helds
  pub ins : length (picked pick.Read (row_operands row) helds) ≤ 4
  pub outs : length (picked pick.Written (row_operands row) helds) ≤ 3
  pub numbers : length (numbers_of helds) ≤ 3

pub helds_again : (form : ℕ) (row : Row) (helds : List Held) → HasPlaces row helds → helds_in (instr_of form row helds) (row_operands row) 0 0 0 ≡ helds
unfolding instr_of
helds_again form row helds p =
    helds_in_is (instr_of form row helds) (row_operands row) helds 0 0 0 p.shaped (inputs_hold row helds p.ins) (results_hold row helds p.outs) (imms_hold helds p.numbers)
