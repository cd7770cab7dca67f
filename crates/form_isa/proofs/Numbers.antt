-- The numbers of operands are those of the instruction, in the operands' ranges.
use Rattle.std.proofs.Common.{◌≡◌, ◌∙◌, sym, ap, subst, refl, ℕ, zero, suc, ◌-◌, ◌==◌, ◌≤◌, true, false, cond, List, [], ◌∷◌, length, arith}
use Rattle.std.specs.Prelude.{ℤ, pos, Option, Some, None, is_some, unwrap_or, slice_index_or}
use Rattle.std.proofs.lemmas.Bool.{eqb-true, false≢true}
use Rattle.std.proofs.lemmas.Bool.Decides.{nat_tests}
use Rattle.form_table.specs.Rows.{row_operands}
use Rattle.form_table.specs.Reads.{held_at, in_range, number_suits, numbers_suit, number_at}
use Rattle.form_table.specs.Printed.{has_number}
use Rattle.form_table.specs.declared.rows.Range.{Range}
use Rattle.form_table.specs.declared.rows.Operand.{Operand}
use Rattle.form_table.specs.declared.rows.Row.{Row}
use Rattle.form_table.specs.declared.spells.Held.{Held}
use Rattle.form_table.proofs.ForCallers.{IsShaped, Shaped, numbers_of, with_number}
use Rattle.form_isa.specs.TableIsa.{ranges, numbers_fit, last_number}
use Rattle.form_isa.specs.LawfulTable.{is_last_number}
use Rattle.sl_laws.proofs.Tests.{some_value, then_parts}

-- numbers of ranges, one each
abbrev AreIn : List Range → List ℤ → Type 0
AreIn [] [] = Unit {0}
AreIn [] (n ∷ numbers) = ⊥
AreIn (range ∷ rest) [] = ⊥
AreIn (range ∷ rest) (n ∷ numbers) = (in_range range n ≡ true) × AreIn rest numbers

operand-in : (operand : Operand) (o : Option ℤ) (rest : List Range) (numbers : List ℤ) → number_suits operand o ≡ true →
    AreIn rest numbers →
    AreIn (cond (is_some o) (operand.range ∷ rest) rest) (with_number o numbers)
operand-in operand None rest numbers e a = a
operand-in operand (Some n) rest numbers e a = (e, a)

numbers-in : (operands : List Operand) (helds : List Held) → Shaped operands helds → numbers_suit operands helds ≡ true →
    AreIn (ranges operands) (numbers_of helds)
unfolding numbers_suit ranges
numbers-in [] [] s e = tt
numbers-in [] (held ∷ helds) s e = absurd s
numbers-in (operand ∷ operands) [] s e = absurd s
numbers-in (operand ∷ operands) (held ∷ helds) s e =
    let shaped : IsShaped operand held = s.0 in
    let parts = then_parts (number_suits operand held.number) (numbers_suit operands helds) e in
    subst (λ has. AreIn (cond has (operand.range ∷ ranges operands) (ranges operands))
    (with_number held.number (numbers_of helds))) shaped.number
    (operand-in operand held.number (ranges operands) (numbers_of helds) parts.0 (numbers-in operands helds s.1 parts.1))

-- a number by its place
abbrev at : List ℤ → ℕ → ℤ
at numbers place = slice_index_or numbers place (pos 0)

at-step : (o : Option ℤ) (place : ℕ) (rest : ℕ → ℤ) (numbers : List ℤ) → ((k : ℕ) → rest k ≡ at numbers k) →
    cond (is_some o) (cond (place == 0) (unwrap_or o (pos 0)) (rest (place - 1))) (rest place) ≡ at (with_number o numbers) place
at-step None place rest numbers same = same place
at-step (Some n) zero rest numbers same = refl
at-step (Some n) (suc place) rest numbers same =
    let test : (suc place == 0) ≡ false = grind (arith, nat_tests) in
    let less : suc place - 1 ≡ place = omega arith in
    ap (λ b. cond b n (rest (suc place - 1))) test ∙ (ap rest less ∙ same place)

number_at-is : (helds : List Held) (place : ℕ) → number_at place helds ≡ at (numbers_of helds) place
unfolding number_at
number_at-is [] place = refl
number_at-is (held ∷ helds) place = at-step held.number place (λ k. number_at k helds) (numbers_of helds) (number_at-is helds)

-- the numbers of an instruction
abbrev pub three : List Held → List ℤ
three helds = number_at 0 helds ∷ number_at 1 helds ∷ number_at 2 helds ∷ []

abbrev first_three : List ℤ → List ℤ
first_three numbers = at numbers 0 ∷ at numbers 1 ∷ at numbers 2 ∷ []

three-is : (helds : List Held) → three helds ≡ first_three (numbers_of helds)
three-is helds =
    ap (λ n. n ∷ number_at 1 helds ∷ number_at 2 helds ∷ []) (number_at-is helds 0)
    ∙ (ap (λ n. at (numbers_of helds) 0 ∷ n ∷ number_at 2 helds ∷ []) (number_at-is helds 1)
    ∙ ap (λ n. at (numbers_of helds) 0 ∷ at (numbers_of helds) 1 ∷ n ∷ []) (number_at-is helds 2))

fit-cons : (range : Range) (rest : List Range) (n : ℤ) (numbers : List ℤ) → in_range range n ≡ true →
    numbers_fit rest numbers ≡ true →
    numbers_fit (range ∷ rest) (n ∷ numbers) ≡ true
unfolding numbers_fit
fit-cons range rest n numbers e f = ap (λ b. cond b (numbers_fit rest numbers) false) e ∙ f

none-fit : (rest : List Range) → numbers_fit rest [] ≡ true
unfolding numbers_fit
none-fit rest = refl

zeros-fit : (numbers_fit [] (pos 0 ∷ []) ≡ true) × (numbers_fit [] (pos 0 ∷ pos 0 ∷ []) ≡ true) ×
    (numbers_fit [] (pos 0 ∷ pos 0 ∷ pos 0 ∷ []) ≡ true)
unfolding numbers_fit
zeros-fit = (refl, refl, refl)

three-fit : (rest : List Range) (numbers : List ℤ) → AreIn rest numbers → numbers_fit rest (first_three numbers) ≡ true
three-fit [] [] a = zeros-fit.2
three-fit [] (n ∷ numbers) a = absurd a
three-fit (r ∷ rest) [] a = absurd a
three-fit (r ∷ []) (m ∷ []) a = fit-cons r [] m _ a.0 zeros-fit.1
three-fit (r ∷ []) (m ∷ n ∷ numbers) a = absurd a.1
three-fit (r ∷ s ∷ rest) (m ∷ []) a = absurd a.1
three-fit (r ∷ s ∷ []) (m ∷ n ∷ []) a = fit-cons r (s ∷ []) m _ a.0 (fit-cons s [] n _ a.1.0 zeros-fit.0)
three-fit (r ∷ s ∷ []) (m ∷ n ∷ o ∷ numbers) a = absurd a.1.1
three-fit (r ∷ s ∷ t ∷ rest) (m ∷ n ∷ []) a = absurd a.1.1
three-fit (r ∷ s ∷ t ∷ rest) (m ∷ n ∷ o ∷ numbers) a =
    fit-cons r (s ∷ t ∷ rest) m _ a.0 (fit-cons s (t ∷ rest) n _ a.1.0 (fit-cons t rest o [] a.1.1.0 (none-fit rest)))

-- An instruction's numbers fit.
pub three-fits : (operands : List Operand) (helds : List Held) → Shaped operands helds → numbers_suit operands helds ≡ true →
    numbers_fit (ranges operands) (three helds) ≡ true
three-fits operands helds s e =
    subst (λ v. numbers_fit (ranges operands) v ≡ true) (sym (three-is helds))
    (three-fit (ranges operands) (numbers_of helds) (numbers-in operands helds s e))

-- the operand at a place has the last number
pub record EndsAt (place : ℕ) (operands : List Operand) (helds : List Held) : Type 0 where
  pub number : ℤ
  pub held : (held_at helds place).number ≡ Some number
  pub some : 1 ≤ length (ranges operands)
  pub last : at (numbers_of helds) (length (ranges operands) - 1) ≡ number

end-here : (o : Option ℤ) (n : ℤ) (range : Range) (rest : List Range) (numbers : List ℤ) → o ≡ Some n → length rest ≡ 0 →
    (1 ≤ length (range ∷ rest)) × (at (with_number o numbers) (length (range ∷ rest) - 1) ≡ n)
end-here None n range rest numbers e none = absurd cc
end-here (Some m) n range rest numbers e none =
    let first : length (range ∷ rest) - 1 ≡ 0 = omega arith in
    (omega arith, ap (at (m ∷ numbers)) first ∙ (let same : m ≡ n = cc in same))

end-behind : (o : Option ℤ) (n : ℤ) (range : Range) (rest : List Range) (numbers : List ℤ) → 1 ≤ length rest →
    at numbers (length rest - 1) ≡ n →
    (1 ≤ length (cond (is_some o) (range ∷ rest) rest)) ×
    (at (with_number o numbers) (length (cond (is_some o) (range ∷ rest) rest) - 1) ≡ n)
end-behind None n range rest numbers some e = (some, e)
end-behind (Some m) n range rest numbers some e =
    let next : length (range ∷ rest) - 1 ≡ suc (length rest - 1) = omega arith in
    (omega arith, ap (at (m ∷ numbers)) next ∙ e)

pub last-is : (place : ℕ) (operands : List Operand) (helds : List Held) → Shaped operands helds →
    is_last_number place operands ≡ true → EndsAt place operands helds
unfolding is_last_number ranges
last-is place [] helds s e = absurd (false≢true e)
last-is place (operand ∷ operands) [] s e = absurd s
last-is zero (operand ∷ operands) (held ∷ helds) s e =
    let shaped : IsShaped operand held = s.0 in
    let parts = then_parts (has_number operand.shape) (length (ranges operands) == 0) e in
    let there = some_value held.number (shaped.number ∙ parts.0) in
    let ends =
    end-here held.number there.0 operand.range (ranges operands) (numbers_of helds) there.1
    (eqb-true (length (ranges operands)) 0 parts.1) in
    record {
      number = there.0;
      held = there.1;
      some = subst (λ has. 1 ≤ length (cond has (operand.range ∷ ranges operands) (ranges operands))) (sym parts.0) ends.0;
      last =
          subst (λ has. at (numbers_of (held ∷ helds))
          (length (cond has (operand.range ∷ ranges operands) (ranges operands)) - 1) ≡ there.0) (sym parts.0) ends.1;
    }
last-is (suc place) (operand ∷ operands) (held ∷ helds) s e =
    let shaped : IsShaped operand held = s.0 in
    let rest : EndsAt place operands helds = last-is place operands helds s.1 e in
    let ends = end-behind held.number rest.number operand.range (ranges operands) (numbers_of helds) rest.some rest.last in
    record {
      number = rest.number;
      held = rest.held;
      some = subst (λ has. 1 ≤ length (cond has (operand.range ∷ ranges operands) (ranges operands))) shaped.number ends.0;
      last =
          subst (λ has. at (numbers_of (held ∷ helds))
          (length (cond has (operand.range ∷ ranges operands) (ranges operands)) - 1) ≡ rest.number) shaped.number ends.1;
    }

three-at : (numbers : List ℤ) (place : ℕ) → place ≤ 2 → at (first_three numbers) place ≡ at numbers place
three-at numbers zero few = refl
three-at numbers (suc zero) few = refl
three-at numbers (suc (suc zero)) few = refl
three-at numbers (suc (suc (suc place))) few = absurd (omega arith)

-- Where the last of at most three numbers is that of a place, it is the last number of an instruction.
pub last-number : (row : Row) (helds : List Held) (place : ℕ) (ends : EndsAt place (row_operands row) helds) →
    length (ranges (row_operands row)) ≤ 3 →
    last_number row (three helds) ≡ ends.number
last-number row helds place ends few =
    let near : length (ranges (row_operands row)) - 1 ≤ 2 = omega arith in
    ap (λ v. at v (length (ranges (row_operands row)) - 1)) (three-is helds)
    ∙ (three-at (numbers_of helds) (length (ranges (row_operands row)) - 1) near ∙ ends.last)
