-- The steps of a counter: each is made by the instruction of its row.
use Rattle.std.proofs.Common.{◌≡◌, ◌∙◌, sym, ap, subst, refl, ℕ, zero, suc, ◌/◌, ◌^◌, ◌<◌, ◌≤◌, ◌||◌, Bool, true, false, cond, [], ◌∷◌, ⊎_elim, arith, lit<}
use Rattle.std.specs.Prelude.{◌==◌, nat_lt, codes, slice_get, Some}
use Rattle.std.proofs.lemmas.Bool.{and_from, ltb-true, eqb-true, cases_Bool, false≢true}
use Rattle.std.proofs.Math.Nat.{mod-eq_of_lt}
use Rattle.sl_model.specs.declared.instruction.ArchName.TheVariants.{M4}
use Rattle.sl_model.specs.RegSets.{set_has, set_count}
use Rattle.sl_model.specs.Register.{same_reg}
use Rattle.sl_model.specs.Body.{all_differ}
use Rattle.sl_model.specs.Source.{place_from}
use Rattle.sl_model.specs.Machine.{counts}
use Rattle.sl_model.specs.Lawful.{suits_set}
use Rattle.sl_isa.specs.declared.arch.CounterOp.{CounterOp}
use Rattle.sl_isa.specs.declared.arch.CounterOp.TheVariants.{Sub, Subs, Lsr}
use Rattle.sl_isa.specs.declared.meaning.Shift.TheVariants as shift
use Rattle.sl_isa.specs.declared.meaning.Second.TheVariants as second
use Rattle.sl_isa.specs.declared.meaning.Scalar.TheVariants as scalar
use Rattle.sl_isa.specs.Steps.{IsStep}
use Rattle.sl_isa.specs.Arch.{padded_values}
use Rattle.scalar_ops.specs.Scalar.{second_of, scalar_values}
use Rattle.form_table.specs.declared.rows.Row.{Row}
use Rattle.form_table.specs.Reads.{in_range}
use Rattle.form_isa.specs.Info.{classes, input_classes, output_classes, padded_classes, ties, places_of, all_ties, padded_ties, info_of}
use Rattle.form_isa.specs.TableIsa.{ranges, numbers_fit, takes, is_valid}
use Rattle.form_isa.proofs.ForCallers.{MakesStep, MakeSteps, step_op, general_register, flags_suit, lessened, small}
use Rattle.m4_table.specs.Document.{document, general, to, from, number, range, plain, alu, alus, sum_row, sums}
use Rattle.m4_table.specs.M4.{step_form}

-- the rows of the steps
abbrev step_row : CounterOp → Row
step_row (Sub n) =
    sum_row (sums (codes "sub") true false) (to ∷ from ∷ number (range 0 4095) ∷ []) alu second.Number
step_row Subs =
    sum_row (sums (codes "subs") true true) (to ∷ from ∷ number (range 0 255) ∷ []) alu second.Number
step_row (Lsr by) =
    plain (codes "lsr") (to ∷ from ∷ number (range 1 32) ∷ []) alus (scalar.Shift shift.Lsr)

-- each step has its row in the document
at : (op : CounterOp) → slice_get document (step_form op) ≡ Some (step_row op)
unfolding padded_values document
at (Sub n) = refl
at Subs = refl
at (Lsr by) = refl

-- what holds of all numbers below one holds of each
all_below : ℕ → (ℕ → Bool) → Bool
all_below zero test = true
all_below (suc k) test = cond (test k) (all_below k test) false

each_below : (k : ℕ) (test : ℕ → Bool) (n : ℕ) → all_below k test ≡ true → n < k → test n ≡ true
unfolding all_below
each_below zero test n e h = absurd (omega (arith, h))
each_below (suc k) test n e h =
    ⊎_elim
    (λ (same : (n == k) ≡ true). ap test (eqb-true n k same) ∙ (parts (test k) (all_below k test) e).0)
    (λ (other : (n == k) ≡ false). each_below k test n (parts (test k) (all_below k test) e).1 (below n k h other))
    (cases_Bool (n == k))
  where
    parts : (a b : Bool) → cond a b false ≡ true → (a ≡ true) × (b ≡ true)
    parts true b e = (refl, e)
    parts false b e = absurd (false≢true e)

    below : (n k : ℕ) → n < suc k → (n == k) ≡ false → n < k
    below n k h other = grind (arith, h, other)

-- A counter is one of r0 to r12 and lr, and they stand in the class of general registers.
is_general : ℕ → Bool
is_general number = cond (counts M4 number) (suits_set (general_register number, general)) true

all_general : all_below 15 is_general ≡ true
unfolding set_has all_below is_general
all_general = refl

counted-few : (number : ℕ) → counts M4 number ≡ true → number < 15
counted-few number e =
    ⊎_elim
    (λ (low : nat_lt number 13 ≡ true). (let less : number < 13 = ltb-true number 13 low in omega (arith, less)))
    (λ (other : nat_lt number 13 ≡ false). (
    let last : number ≡ 14 = eqb-true number 14 (sym (ap (λ b. b || (number == 14)) other) ∙ e) in omega (arith, last)))
    (cases_Bool (nat_lt number 13))

suits_general : (number : ℕ) → counts M4 number ≡ true → suits_set (general_register number, general) ≡ true
unfolding is_general
suits_general number e =
    sym (ap (λ b. cond b (suits_set (general_register number, general)) true) e)
    ∙ each_below 15 is_general number all_general (counted-few number e)

-- The row of `sub` takes 1 and 2, and that of `lsr` 1 to 3.
takes_less : (by : ℕ) → 1 ≤ by → by ≤ 2
    → is_valid (Some (step_row (Sub by))) (step_op 14 (Sub by)) ≡ true
unfolding takes ranges numbers_fit in_range
takes_less zero least most = absurd (omega arith)
takes_less (suc zero) least most = refl
takes_less (suc (suc zero)) least most = refl
takes_less (suc (suc (suc by))) least most = absurd (omega arith)

takes_shift : (by : ℕ) → 1 ≤ by → by ≤ 3
    → is_valid (Some (step_row (Lsr by))) (step_op 94 (Lsr by)) ≡ true
unfolding takes ranges numbers_fit in_range
takes_shift zero least most = absurd (omega arith)
takes_shift (suc zero) least most = refl
takes_shift (suc (suc zero)) least most = refl
takes_shift (suc (suc (suc zero))) least most = refl
takes_shift (suc (suc (suc (suc by)))) least most = absurd (omega arith)

-- Each row makes its step.
row_makes : (op : CounterOp) (number : ℕ) → counts M4 number ≡ true → IsStep op
    → MakesStep M4 (Some (step_row op)) (step_form op) op (general_register number)
unfolding takes ranges numbers_fit in_range set_count info_of input_classes output_classes classes padded_classes ties places_of all_ties padded_ties
    all_differ place_from same_reg second_of scalar_values
row_makes (Sub by) number h step = record {
  valid = takes_less by step.0 step.1;
  outs_shape = refl;
  operand_count = refl;
  output_count = refl;
  operand_classes = and_from _ _ (suits_general number h) refl;
  output_classes = and_from _ _ (suits_general number h) refl;
  distinct = refl;
  tied = refl;
  base_apart = refl;
  no_access = refl;
  writes = refl;
  value = λ n low. lessened 32 n by low (small by 2 (2 ^ 32) step.1 (lit< tt));
}
row_makes Subs number h step = record {
  valid = refl;
  outs_shape = refl;
  operand_count = refl;
  output_count = refl;
  operand_classes = and_from _ _ (suits_general number h) refl;
  output_classes = and_from _ _ (suits_general number h) flags_suit;
  distinct = refl;
  tied = refl;
  base_apart = refl;
  no_access = refl;
  writes = refl;
  value = λ n low. lessened 32 n 1 low (lit< tt);
}
row_makes (Lsr by) number h step = record {
  valid = takes_shift by step.0 step.1;
  outs_shape = refl;
  operand_count = refl;
  output_count = refl;
  operand_classes = and_from _ _ (suits_general number h) refl;
  output_classes = and_from _ _ (suits_general number h) refl;
  distinct = refl;
  tied = refl;
  base_apart = refl;
  no_access = refl;
  writes = refl;
  value = λ n low. ap (λ m. m / 2 ^ by) (mod-eq_of_lt low);
}

-- so do the rows of the document
pub m4_steps : MakeSteps M4 document step_form
m4_steps op number counts step =
    subst (λ row. MakesStep M4 row (step_form op) op (general_register number)) (sym (at op))
    (row_makes op number counts step)
