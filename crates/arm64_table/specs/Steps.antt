-- The steps of a counter: each is made by the instruction of its row.
use Rattle.std.proofs.Common.{◌≡◌, sym, ap, subst, refl, ℕ, zero, suc, ◌-◌, ◌/◌, ◌^◌, ◌<◌, ◌≤◌, true, false, [], ◌∷◌, arith, lit<, lit≤}
use Rattle.std.specs.Prelude.{◌==◌, codes, slice_get, Some}
use Rattle.std.proofs.lemmas.Bool.{and_from, ltb-true, lt-ltb}
use Rattle.std.proofs.lemmas.Nat.Bits.{bit_at_ones}
use Rattle.std.proofs.Math.Nat.{mod-eq_of_lt}
use Rattle.sl_model.specs.declared.instruction.ArchName.TheVariants.{Arm64}
use Rattle.sl_model.specs.RegSets.{set_has, set_count}
use Rattle.sl_model.specs.Register.{same_reg}
use Rattle.sl_model.specs.Body.{all_differ}
use Rattle.sl_model.specs.Source.{place_from}
use Rattle.sl_model.specs.Lawful.{suits_set}
use Rattle.sl_isa.specs.declared.arch.CounterOp.{CounterOp}
use Rattle.sl_isa.specs.declared.arch.CounterOp.TheVariants.{Sub, Subs, Lsr}
use Rattle.sl_isa.specs.declared.meaning.Size.TheVariants.{Bits64}
use Rattle.sl_isa.specs.declared.meaning.Shift.TheVariants as shift
use Rattle.sl_isa.specs.declared.meaning.Second.TheVariants as second
use Rattle.sl_isa.specs.declared.meaning.Scalar.TheVariants as scalar
use Rattle.sl_isa.specs.Steps.{IsStep}
use Rattle.sl_isa.specs.Arch.{padded_values}
use Rattle.scalar_ops.specs.Scalar.{second_of, scalar_values}
use Rattle.form_table.specs.declared.rows.Row.{Row}
use Rattle.form_table.specs.Reads.{in_range}
use Rattle.form_isa.specs.Info.{classes, input_classes, output_classes, padded_classes, ties, places_of, all_ties, padded_ties, info_of}
use Rattle.form_isa.specs.TableIsa.{ranges, numbers_fit, takes, is_valid}
use Rattle.form_isa.proofs.ForCallers.{MakesStep, MakeSteps, step_op, general_register, flags_suit, lessened, small}
use Rattle.arm64_table.specs.Document.{each, document, general, to, from, any, number, range, amount, plain, alu, alus, sum_row}
use Rattle.arm64_table.specs.Arm64.{step_form}

-- the rows of the steps
abbrev step_row : CounterOp → Row
step_row (Sub n) =
    sum_row (codes "sub") (to Bits64 ∷ from Bits64 ∷ number (range 0 4095 1) ∷ [])
    true false alu second.Number Bits64
step_row Subs =
    sum_row (codes "subs") (to Bits64 ∷ from Bits64 ∷ number (range 0 4095 1) ∷ [])
    true true alu second.Number Bits64
step_row (Lsr by) =
    plain (codes "lsr") (to Bits64 ∷ any Bits64 ∷ number (amount Bits64) ∷ []) alus
    (scalar.Shift shift.Lsr) Bits64

-- each step has its row in the document
at : (op : CounterOp) → slice_get document (step_form op) ≡ Some (step_row op)
unfolding padded_values each document
at (Sub n) = refl
at Subs = refl
at (Lsr by) = refl

-- what is below a number is below greater ones
wider : (v m n : ℕ) → v < m → m ≤ n → v < n
wider v m n small far = omega (arith, small, far)

-- a register whose number is below a bound suits the set of all below it
suits : (most number : ℕ) → number < most → most ≤ 32
    → suits_set (general_register number, record { bits = 2 ^ most - 1 }) ≡ true
unfolding set_has
suits most number h few =
    and_from _ _ (ap (λ b. b == 1) (bit_at_ones most number h))
    (lt-ltb number 32 (wider number most 32 h few))

-- x0 to x30 suit the class of them
suits_general : (number : ℕ) → number < 31 → suits_set (general_register number, general) ≡ true
suits_general number h = suits 31 number h (lit≤ tt)

-- and the class that has the zero register too
suits_any : (number : ℕ) → number < 31
    → suits_set (general_register number, record { bits = 2 ^ 32 - 1 }) ≡ true
suits_any number h = suits 32 number (wider number 31 32 h (lit≤ tt)) (lit≤ tt)

-- The row of `sub` takes 1 and 2, and that of `lsr` 1 to 3.
takes_less : (by : ℕ) → 1 ≤ by → by ≤ 2
    → is_valid (Some (step_row (Sub by))) (step_op 20 (Sub by)) ≡ true
unfolding takes ranges numbers_fit in_range
takes_less zero least most = absurd (omega arith)
takes_less (suc zero) least most = refl
takes_less (suc (suc zero)) least most = refl
takes_less (suc (suc (suc by))) least most = absurd (omega arith)

-- a step of 1 to 3 bits is in the range of its row
takes_shift : (by : ℕ) → 1 ≤ by → by ≤ 3
    → is_valid (Some (step_row (Lsr by))) (step_op 122 (Lsr by)) ≡ true
unfolding takes ranges numbers_fit in_range
takes_shift zero least most = absurd (omega arith)
takes_shift (suc zero) least most = refl
takes_shift (suc (suc zero)) least most = refl
takes_shift (suc (suc (suc zero))) least most = refl
takes_shift (suc (suc (suc (suc by)))) least most = absurd (omega arith)

-- Each row makes its step.
row_makes : (op : CounterOp) (number : ℕ) → number < 31 → IsStep op
    → MakesStep Arm64 (Some (step_row op)) (step_form op) op (general_register number)
unfolding takes ranges numbers_fit in_range set_count info_of input_classes output_classes classes padded_classes ties places_of all_ties padded_ties
    all_differ place_from same_reg second_of scalar_values
row_makes (Sub by) number h step = record {
  valid = takes_less by step.0 step.1;
  outs_shape = refl;
  operand_count = refl;
  output_count = refl;
  operand_classes = and_from _ _ (suits_general number h) refl;
  output_classes = and_from _ _ (suits_general number h) refl;
  distinct = refl;
  tied = refl;
  base_apart = refl;
  no_access = refl;
  writes = refl;
  value = λ n low. lessened 64 n by low (small by 2 (2 ^ 64) step.1 (lit< tt));
}
row_makes Subs number h step = record {
  valid = refl;
  outs_shape = refl;
  operand_count = refl;
  output_count = refl;
  operand_classes = and_from _ _ (suits_general number h) refl;
  output_classes = and_from _ _ (suits_general number h) flags_suit;
  distinct = refl;
  tied = refl;
  base_apart = refl;
  no_access = refl;
  writes = refl;
  value = λ n low. lessened 64 n 1 low (lit< tt);
}
row_makes (Lsr by) number h step = record {
  valid = takes_shift by step.0 step.1;
  outs_shape = refl;
  operand_count = refl;
  output_count = refl;
  operand_classes = and_from _ _ (suits_any number h) refl;
  output_classes = and_from _ _ (suits_general number h) refl;
  distinct = refl;
  tied = refl;
  base_apart = refl;
  no_access = refl;
  writes = refl;
  value = λ n low. ap (λ m. m / 2 ^ by) (mod-eq_of_lt low);
}

-- so do the rows of the document
pub arm64_steps : MakeSteps Arm64 document step_form
arm64_steps op number counts step =
    subst (λ row. MakesStep Arm64 row (step_form op) op (general_register number)) (sym (at op))
    (row_makes op number (ltb-true number 31 counts) step)
