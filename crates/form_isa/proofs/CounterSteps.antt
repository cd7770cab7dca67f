-- The steps of a counter by a table: each is made by the instruction of its row, where that takes the counter and gives
-- its next value.
use Rattle.std.proofs.Common.{◌≡◌, ◌∙◌, sym, ap, refl, ℕ, pos, ◌+◌, ◌-◌, ◌*◌, ◌%◌, ◌^◌, ◌<◌, ◌≤◌, Bool, true, false, ◌&&◌, List, [], ◌∷◌, length, slice_index, arith}
use Rattle.std.specs.Prelude.{ℤ, slice_get, Option, None, Some}
use Rattle.std.specs.List.{list_all, filter_map, zip}
use Rattle.std.proofs.lemmas.Bool.{true≢false}
use Rattle.std.proofs.Math.Nat.{mod-eq_of_lt}
use Rattle.sl_model.specs.declared.register.Bank.{Bank}
use Rattle.sl_model.specs.declared.register.Bank.TheVariants.{General, Vector, Flags, Stack}
use Rattle.sl_model.specs.declared.register.Reg.{Reg}
use Rattle.sl_model.specs.declared.instruction.ArchName.{ArchName}
use Rattle.sl_model.specs.RegSets.{set_has, set_count}
use Rattle.sl_model.specs.Register.{same_reg}
use Rattle.sl_model.specs.Body.{all_differ}
use Rattle.sl_model.specs.Source.{padded}
use Rattle.sl_model.specs.Machine.{limit_of, counts, can_count}
use Rattle.sl_model.specs.Isa.{Op}
use Rattle.sl_model.specs.Exec.{has_access}
use Rattle.sl_model.specs.Lawful.{suits_set, is_tied_to, is_base_alone}
use Rattle.sl_isa.specs.declared.arch.CounterOp.{CounterOp}
use Rattle.sl_isa.specs.Steps.{IsStep, Steps, flags_register, stepped, step_outputs}
use Rattle.form_table.specs.declared.rows.Row.{Row}
use Rattle.form_isa.specs.Info.{the_flags, info_at}
use Rattle.form_isa.specs.TableIsa.{is_valid, row_values, table_isa}
use Rattle.form_isa.specs.CounterSteps.{step_number, step_flags, step_instr}

-- the numbers of a step's instruction
abbrev pub step_imms : CounterOp → List ℤ
step_imms op = pos (step_number op) ∷ pos 0 ∷ pos 0 ∷ []

-- a step's instruction of a form, its registers aside
abbrev pub step_op : ℕ → CounterOp → Op
step_op form op = record { form = form; wide = false; imms = step_imms op }

-- the registers that a step's instruction writes
abbrev pub written : CounterOp → Reg → List Reg
written op counter = filter_map (λ r. r) (Some counter ∷ step_flags op ∷ None ∷ [])

-- What has to hold of the row of a step, if it is there: its instruction takes the counter, and
-- gives the counter's next value.
pub record MakesStep (name : ArchName) (row : Option Row) (form : ℕ) (op : CounterOp) (counter : Reg) : Type 0 where
  pub valid : is_valid row (step_op form op) ≡ true
  pub outs_shape : Some counter ∷ step_flags op ∷ None ∷ [] ≡ padded 3 (written op counter)
  pub operand_count : 1 ≡ set_count (info_at row).in_sets
  pub output_count : length (written op counter) ≡ set_count (info_at row).out_sets
  pub operand_classes : list_all suits_set (zip (counter ∷ []) (info_at row).in_sets) ≡ true
  pub output_classes : list_all suits_set (zip (written op counter) (info_at row).out_sets) ≡ true
  pub distinct : all_differ (written op counter) ≡ true
  pub tied : list_all (is_tied_to (counter ∷ [])) (zip (written op counter) (info_at row).tied) ≡ true
  pub base_apart : is_base_alone same_reg (info_at row) (counter ∷ []) ≡ true
  pub no_access : has_access (info_at row) ≡ false
  pub writes : written op counter ≡ step_outputs op counter
  pub value : (n : ℕ) → n < limit_of name General
      → slice_index (row_values name row (step_imms op) (n ∷ []) []) 0 ≡ stepped op (limit_of name General) n

-- a register of the machine or a symbolic one, of any bank
abbrev a_register : Bank → Bool → ℕ → Reg
a_register bank symbolic number = record { bank = bank; symbolic = symbolic; number = number }

-- a general register of the machine
abbrev pub general_register : ℕ → Reg
general_register number = a_register General false number

-- the flags suit their class
pub flags_suit : suits_set (flags_register, the_flags) && true ≡ true
unfolding set_has
flags_suit = refl

-- a difference is the sum with the complement and a carry
less : (n by m : ℕ) → n < m → by < m → (n % m + (m - 1 - by) + 1) % m ≡ (n + m - by) % m
less n by m small low =
    let same : n % m ≡ n = mod-eq_of_lt small in
    let sum : n + (m - 1 - by) + 1 ≡ n + m - by = omega (arith, low) in
    ap (λ k. (k + (m - 1 - by) + 1) % m) same ∙ ap (λ k. k % m) sum

-- a number that is shifted by 0 is itself
unshifted : (bits by : ℕ) → by < 2 ^ bits → by * 2 ^ 0 % 2 ^ bits ≡ by
unshifted bits by low = let same : by * 2 ^ 0 ≡ by = omega arith in ap (λ b. b % 2 ^ bits) same ∙ mod-eq_of_lt low

-- a sum with the complement is the difference
pub lessened : (bits n by : ℕ) → n < 2 ^ bits → by < 2 ^ bits →
    (n % 2 ^ bits + (2 ^ bits - 1 - by * 2 ^ 0 % 2 ^ bits) + 1) % 2 ^ bits ≡ (n + 2 ^ bits - by) % 2 ^ bits
lessened bits n by small low =
    ap (λ b. (n % 2 ^ bits + (2 ^ bits - 1 - b) + 1) % 2 ^ bits) (unshifted bits by low)
    ∙ less n by (2 ^ bits) small low

-- the numbers of steps are small
pub small : (by most limit : ℕ) → by ≤ most → most < limit → by < limit
small by most limit h few = omega (arith, h, few)

-- the instruction of the set makes the step, where the counter is a general register
steps_by : (name : ArchName) (table : List Row) (form : ℕ) (op : CounterOp) (number line : ℕ) →
    MakesStep name (slice_get table form) form op (general_register number) →
    Steps (table_isa name table) op (general_register number) line (step_instr form op (general_register number) line)
unfolding table_isa step_instr
steps_by name table form op number line m = record {
  valid = record {
    op = m.valid;
    ins_shape = refl;
    outs_shape = m.outs_shape;
    operand_count = m.operand_count;
    output_count = m.output_count;
    operand_classes = m.operand_classes;
    output_classes = m.output_classes;
    distinct = m.distinct;
    tied = m.tied;
    base_apart = m.base_apart;
  };
  plain = (refl, refl, refl, refl);
  no_access = m.no_access;
  reads = refl;
  writes = m.writes;
  value = m.value;
}

-- What a step asks of the rows of a table that have these forms.
abbrev pub MakeSteps : ArchName → List Row → (CounterOp → ℕ) → Type 0
MakeSteps name table form_of = (op : CounterOp) (number : ℕ) → counts name number ≡ true → IsStep op →
    MakesStep name (slice_get table (form_of op)) (form_of op) op (general_register number)

-- each step of a counter, bank by bank: only general registers count
steps_of : (name : ArchName) (table : List Row) (form_of : CounterOp → ℕ) (op : CounterOp) (bank : Bank) (symbolic : Bool) (number line : ℕ) →
    MakeSteps name table form_of → can_count name (a_register bank symbolic number) ≡ true → IsStep op →
    Steps (table_isa name table) op (a_register bank symbolic number) line (step_instr (form_of op) op (a_register bank symbolic number) line)
steps_of name table form_of op Vector symbolic number line make can step = absurd (true≢false (sym can))
steps_of name table form_of op Flags symbolic number line make can step = absurd (true≢false (sym can))
steps_of name table form_of op Stack symbolic number line make can step = absurd (true≢false (sym can))
steps_of name table form_of op General true number line make can step = absurd (true≢false (sym can))
steps_of name table form_of op General false number line make can step =
    steps_by name table (form_of op) op number line (make op number can step)

-- each step of a counter is made
pub table-steps : (name : ArchName) (table : List Row) (form_of : CounterOp → ℕ) → MakeSteps name table form_of →
    (op : CounterOp) (counter : Reg) (line : ℕ) → can_count name counter ≡ true → IsStep op →
    Steps (table_isa name table) op counter line (step_instr (form_of op) op counter line)
table-steps name table form_of make op counter line can step =
    steps_of name table form_of op counter.bank counter.symbolic counter.number line make can step
