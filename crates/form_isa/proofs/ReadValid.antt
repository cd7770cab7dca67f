-- What is read by a table is an instruction of its set.
use Rattle.std.proofs.Common.{◌≡◌, ◌∙◌, sym, ap, subst, refl, ℕ, ◌≤◌, Bool, true, false, cond, not, List, length, arith}
use Rattle.std.specs.Prelude.{Some, None, Result, Ok, Err, slice_get}
use Rattle.std.specs.List.{list_all, zip, filter_map}
use Rattle.sl_model.specs.declared.instruction.ArchName.{ArchName}
use Rattle.sl_model.specs.declared.instruction.Instr.{Instr}
use Rattle.sl_model.specs.declared.instruction.FormInfo.{FormInfo}
use Rattle.sl_model.specs.RegSets.{set_count}
use Rattle.sl_model.specs.Source.{operands, outputs, padded}
use Rattle.sl_model.specs.Body.{all_differ}
use Rattle.sl_model.specs.Isa.{op_of}
use Rattle.sl_model.specs.Register.{same_reg}
use Rattle.sl_model.specs.Lawful.{IsValid, suits_set, is_tied_to, is_base_alone, is_base_apart}
use Rattle.sl_isa.specs.Symbols.{Pair}
use Rattle.sl_isa.specs.Language.{IsRead}
use Rattle.sl_isa.specs.declared.reasons.FormReason.{FormReason}
use Rattle.sl_isa.specs.declared.reasons.FormReason.TheVariants.{ImmediateRange, RegisterClass, SameRegister}
use Rattle.form_table.specs.Rows.{row_operands}
use Rattle.form_table.specs.Reads.{numbers_suit, sum_suits, registers_suit, number_at, picked, results, repeats, shares_base, instr_of, judged, reads}
use Rattle.form_table.specs.Tables.{all_kept, all_rows, is_table}
use Rattle.form_table.specs.Tables as tables
use Rattle.sl_model.specs.Token.{Lexeme}
use Rattle.form_table.specs.declared.rows.Row.{Row}
use Rattle.form_table.specs.declared.spells.Held.{Held}
use Rattle.form_table.specs.declared.reader.Pick.TheVariants as pick
use Rattle.form_table.proofs.ForCallers.{IsReadBy, Shaped, filled_shaped, form_of, not_refused, read_kept, read_named, same_Ok}
use Rattle.form_isa.specs.Info.{classes, input_classes, output_classes, padded_classes, all_ties, padded_ties, info_of, info_at}
use Rattle.form_isa.specs.LawfulTable.{banks_of, is_lawful_row, is_lawful_table}
use Rattle.form_isa.specs.TableIsa.{last_number, is_kept, takes, is_valid, table_isa}
use Rattle.form_isa.proofs.Tests.{IsLawfulRow, lawful-row}
use Rattle.form_isa.proofs.Lawful.{lawful-at}
use Rattle.form_isa.proofs.Alone.{kept-alone}
use Rattle.form_isa.proofs.BaseApart.{base-apart}
use Rattle.form_isa.proofs.Numbers.{three, three-fits}
use Rattle.form_isa.proofs.Outputs.{only-count}
use Rattle.form_isa.proofs.Places.{read_regs, written_regs, inputs-padded, results-padded, repeats-differ}
use Rattle.form_isa.proofs.Suits.{AreOf, picked-of, read-of, written-of, of-count, of-counted, of-suit}
use Rattle.form_isa.proofs.Ties.{row-tied}
use Rattle.form_isa.proofs.Values.{banks-few}
use Rattle.sl_laws.proofs.Tests.{then_parts}
use Rattle.sl_laws.proofs.Padded.{padded-back}

passed : (b : Bool) (reason : FormReason) (x : Result Instr FormReason) (i : Instr) → cond b (Err reason) x ≡ Ok i →
    (b ≡ false) × (x ≡ Ok i)
passed true reason x i e = absurd cc
passed false reason x i e = (refl, e)

-- what was judged to be an instruction
pub record IsJudged (form : ℕ) (row : Row) (helds : List Held) (i : Instr) : Type 0 where
  pub numbers : numbers_suit (row_operands row) helds ≡ true
  pub sum : sum_suits row.sum (number_at 0 helds) (number_at 1 helds) ≡ true
  pub registers : registers_suit (row_operands row) helds ≡ true
  pub distinct : repeats (results row helds) ≡ false
  pub apart : shares_base row helds ≡ false
  pub made : instr_of form row helds ≡ i

pub judged-is : (form : ℕ) (row : Row) (helds : List Held) (i : Instr) → judged form row helds ≡ Ok i →
    IsJudged form row helds i
unfolding judged
judged-is form row helds i e =
    let one = not_refused (numbers_suit (row_operands row) helds) ImmediateRange _ i e in
    let two = not_refused (sum_suits row.sum (number_at 0 helds) (number_at 1 helds)) ImmediateRange _ i one.1 in
    let three = not_refused (registers_suit (row_operands row) helds) RegisterClass _ i two.1 in
    let four = passed (repeats (results row helds)) SameRegister _ i three.1 in
    let five = passed (shares_base row helds) SameRegister _ i four.1 in
    record {
      numbers = one.0;
      sum = two.0;
      registers = three.0;
      distinct = four.0;
      apart = five.0;
      made = same_Ok (instr_of form row helds) i five.1;
    }

-- a row with its operands, as it was read
pub record IsOwn (row : Row) (helds : List Held) : Type 0 where
  pub shaped : Shaped (row_operands row) helds
  pub numbers : numbers_suit (row_operands row) helds ≡ true
  pub sum : sum_suits row.sum (number_at 0 helds) (number_at 1 helds) ≡ true
  pub registers : registers_suit (row_operands row) helds ≡ true
  pub distinct : repeats (results row helds) ≡ false
  pub apart : shares_base row helds ≡ false
  pub alone : is_kept row.alias (last_number row (three helds)) ≡ true

-- the registers of its instruction
pub record HasRegs (row : Row) (helds : List Held) (i : Instr) : Type 0 where
  pub read : AreOf (read_regs row helds) (input_classes row)
  pub written : AreOf (written_regs row helds) (output_classes row)
  pub few_read : length (read_regs row helds) ≤ 4
  pub few_written : length (written_regs row helds) ≤ 3
  pub ins : i.ins ≡ padded 4 (read_regs row helds)
  pub outs : i.outs ≡ padded 3 (written_regs row helds)

pub has-regs : (name : ArchName) (form : ℕ) (row : Row) (helds : List Held) → IsLawfulRow name row → IsOwn row helds →
    HasRegs row helds (instr_of form row helds)
unfolding instr_of
has-regs name form row helds lawful own =
    let read : AreOf (read_regs row helds) (input_classes row) = read-of row helds own.shaped own.registers in
    let written : AreOf (written_regs row helds) (output_classes row) = written-of row helds own.shaped own.registers in
    let as_many : length (read_regs row helds) ≡ length (input_classes row) =
    of-count (read_regs row helds) (input_classes row) read in
    let as_many_out : length (written_regs row helds) ≡ length (output_classes row) =
    of-count (written_regs row helds) (output_classes row) written in
    let banks : length (banks_of row.meaning) ≡ length (output_classes row) =
    only-count (banks_of row.meaning) (output_classes row) lawful.outputs in
    let three : length (banks_of row.meaning) ≤ 3 = banks-few row.meaning in
    let four : length (input_classes row) ≤ 4 = lawful.few in
    record {
      read = read;
      written = written;
      few_read = omega arith;
      few_written = omega arith;
      ins = inputs-padded row helds;
      outs = results-padded row helds;
    }

read-back : (row : Row) (helds : List Held) (i : Instr) → HasRegs row helds i → operands i ≡ read_regs row helds
read-back row helds i has = ap (filter_map (λ r. r)) has.ins ∙ padded-back 4 (read_regs row helds) has.few_read

written-back : (row : Row) (helds : List Held) (i : Instr) → HasRegs row helds i → outputs i ≡ written_regs row helds
written-back row helds i has = ap (filter_map (λ r. r)) has.outs ∙ padded-back 3 (written_regs row helds) has.few_written

-- its form and numbers are taken
takes-it : (form : ℕ) (row : Row) (helds : List Held) → IsOwn row helds →
    is_valid (Some row) (op_of (instr_of form row helds)) ≡ true
unfolding takes instr_of
takes-it form row helds own =
    let sums : Bool = sum_suits row.sum (number_at 0 helds) (number_at 1 helds) in
    let alone : Bool = is_kept row.alias (last_number row (three helds)) in
    ap (λ b. cond b (cond sums alone false) false) (three-fits (row_operands row) helds own.shaped own.numbers)
    ∙ (ap (λ b. cond b alone false) own.sum ∙ own.alone)

-- the form as the table has it
info-is : (name : ArchName) (table : List Row) (form : ℕ) (row : Row) (helds : List Held) → slice_get table form ≡ Some row →
    (table_isa name table).info (instr_of form row helds).form ≡ info_of row
unfolding table_isa
info-is name table form row helds at = ap (λ n. info_at (slice_get table n)) (form_of form row helds) ∙ ap info_at at

valid-is : (name : ArchName) (table : List Row) (form : ℕ) (row : Row) (helds : List Held) → slice_get table form ≡ Some row →
    IsOwn row helds →
    (table_isa name table).valid (op_of (instr_of form row helds)) ≡ true
unfolding table_isa
valid-is name table form row helds at own =
    ap (λ n. is_valid (slice_get table n) (op_of (instr_of form row helds))) (form_of form row helds)
    ∙ (ap (λ o. is_valid o (op_of (instr_of form row helds))) at ∙ takes-it form row helds own)

read-classes : (row : Row) (helds : List Held) (i : Instr) → HasRegs row helds i →
    (length (operands i) ≡ set_count (info_of row).in_sets) × (list_all suits_set (zip (operands i) (info_of row).in_sets) ≡ true)
unfolding info_of
read-classes row helds i has =
    let back : operands i ≡ read_regs row helds = read-back row helds i has in (
      ap length back ∙ of-counted 4 (read_regs row helds) (input_classes row) has.few_read has.read,
      subst (λ regs. list_all suits_set (zip regs (padded_classes 4 (input_classes row))) ≡ true) (sym back)
          (of-suit 4 (read_regs row helds) (input_classes row) has.read),
    )

written-classes : (row : Row) (helds : List Held) (i : Instr) → HasRegs row helds i →
    (length (outputs i) ≡ set_count (info_of row).out_sets) × (list_all suits_set (zip (outputs i) (info_of row).out_sets) ≡ true)
unfolding info_of
written-classes row helds i has =
    let back : outputs i ≡ written_regs row helds = written-back row helds i has in (
      ap length back ∙ of-counted 3 (written_regs row helds) (output_classes row) has.few_written has.written,
      subst (λ regs. list_all suits_set (zip regs (padded_classes 3 (output_classes row))) ≡ true) (sym back)
          (of-suit 3 (written_regs row helds) (output_classes row) has.written),
    )

tied-outputs : (row : Row) (helds : List Held) (i : Instr) → IsOwn row helds → HasRegs row helds i →
    list_all (is_tied_to (operands i)) (zip (outputs i) (info_of row).tied) ≡ true
unfolding info_of
tied-outputs row helds i own has =
    let read : length (picked pick.Read (row_operands row) helds) ≡ length (classes pick.Read (row_operands row)) =
    of-count _ _ (picked-of pick.Read (row_operands row) helds own.shaped own.registers) in
    let places = padded_ties 3 (all_ties (row_operands row)) in
    subst (λ ins. list_all (is_tied_to ins) (zip (outputs i) places) ≡ true) (sym (read-back row helds i has))
    (subst (λ outs. list_all (is_tied_to (read_regs row helds)) (zip outs places) ≡ true) (sym (written-back row helds i has))
    (row-tied row helds 3 own.shaped read))

differ-outputs : (row : Row) (helds : List Held) (i : Instr) → IsOwn row helds → HasRegs row helds i →
    all_differ (outputs i) ≡ true
differ-outputs row helds i own has =
    let apart : repeats (padded 3 (written_regs row helds)) ≡ false =
    ap repeats (sym (results-padded row helds)) ∙ own.distinct in
    ap all_differ (written-back row helds i has) ∙ repeats-differ 3 (written_regs row helds) has.few_written apart

-- a base that is written back is alone
apart-base : (name : ArchName) (row : Row) (helds : List Held) (i : Instr) → IsLawfulRow name row → IsOwn row helds → HasRegs row helds i →
    is_base_apart (info_of row) i ≡ true
apart-base name row helds i lawful own has =
    ap (is_base_alone same_reg (info_of row)) (read-back row helds i has)
    ∙ (base-apart name row.meaning row helds lawful.suits lawful.few own.shaped own.registers ∙ ap not own.apart)

-- The instruction of a row whose operands hold these is one of the set.
pub made-valid : (name : ArchName) (table : List Row) (form : ℕ) (row : Row) (helds : List Held) →
    slice_get table form ≡ Some row → is_lawful_row name row ≡ true →
    IsOwn row helds → IsValid (table_isa name table) (instr_of form row helds)
made-valid name table form row helds at lawful own =
    let i : Instr = instr_of form row helds in
    let has : HasRegs row helds i = has-regs name form row helds (lawful-row name row lawful) own in
    let info : (table_isa name table).info i.form ≡ info_of row = info-is name table form row helds at in
    let read = read-classes row helds i has in
    let written = written-classes row helds i has in
    record {
      op = valid-is name table form row helds at own;
      ins_shape = has.ins ∙ ap (padded 4) (sym (read-back row helds i has));
      outs_shape = has.outs ∙ ap (padded 3) (sym (written-back row helds i has));
      operand_count = read.0 ∙ ap (λ (f : FormInfo). set_count f.in_sets) (sym info);
      output_count = written.0 ∙ ap (λ (f : FormInfo). set_count f.out_sets) (sym info);
      operand_classes = subst (λ (f : FormInfo). list_all suits_set (zip (operands i) f.in_sets) ≡ true) (sym info) read.1;
      output_classes = subst (λ (f : FormInfo). list_all suits_set (zip (outputs i) f.out_sets) ≡ true) (sym info) written.1;
      distinct = differ-outputs row helds i own has;
      tied =
          subst (λ (f : FormInfo). list_all (is_tied_to (operands i)) (zip (outputs i) f.tied) ≡ true) (sym info)
          (tied-outputs row helds i own has);
      base_apart =
          subst (λ (f : FormInfo). is_base_apart f i ≡ true) (sym info)
          (apart-base name row helds i (lawful-row name row lawful) own has);
    }

made-plain : (form : ℕ) (row : Row) (helds : List Held) →
    ((instr_of form row helds).tag ≡ None) × ((instr_of form row helds).early ≡ false) ×
    ((instr_of form row helds).late ≡ false) × ((instr_of form row helds).line ≡ 0)
unfolding instr_of
made-plain form row helds = (refl, refl, refl, refl)

-- A made instruction is of the set, and stands on no line yet.
abbrev IsMade : (name : ArchName) (table : List Row) → Instr → Type 0
IsMade name table i = IsValid (table_isa name table) i × (i.tag ≡ None) × (i.early ≡ false) × (i.late ≡ false) × (i.line ≡ 0)

made-is : (name : ArchName) (table : List Row) (form : ℕ) (row : Row) (helds : List Held) →
    slice_get table form ≡ Some row → is_lawful_row name row ≡ true →
    IsOwn row helds → IsMade name table (instr_of form row helds)
made-is name table form row helds at lawful own =
    let plain = made-plain form row helds in
    (made-valid name table form row helds at lawful own, plain.0, plain.1, plain.2, plain.3)

-- Where a form of the table keeps what its operands hold, and was judged to be an instruction, its operands are its own.
pub own-is : (name : ArchName) (table : List Row) (pairs : List Pair) (i : Instr) (r : IsReadBy table pairs i) → all_kept table table ≡ true → is_lawful_row name r.kept.row ≡ true →
    IsOwn r.kept.row r.fit.helds
own-is name table pairs i r kept lawful =
    let judges : IsJudged r.fit.form r.kept.row r.fit.helds i = judged-is r.fit.form r.kept.row r.fit.helds i r.judges in
    let shaped : Shaped (row_operands r.kept.row) r.fit.helds =
    filled_shaped (row_operands r.kept.row) r.fit.helds r.kept.filled in
    record {
      shaped = shaped;
      numbers = judges.numbers;
      sum = judges.sum;
      registers = judges.registers;
      distinct = judges.distinct;
      apart = judges.apart;
      alone = kept-alone table r.fit r.kept.row kept r.kept.at r.kept.stays (lawful-row name r.kept.row lawful).number shaped;
    }

pub read-valid : (name : ArchName) (table : List Row) (pairs : List Pair) (words : List Lexeme) (i : Instr) → is_table table ≡ true →
    is_lawful_table name table ≡ true →
    reads table pairs words ≡ Ok i → IsRead (table_isa name table) pairs i
read-valid name table pairs words i tests lawful e =
    let one = then_parts (tables.all_differ table) (cond (all_kept table table) (all_rows table) false) tests in
    let two = then_parts (all_kept table table) (all_rows table) one.1 in
    let r : IsReadBy table pairs i = read_kept table pairs words i tests e in
    let row_lawful : is_lawful_row name r.kept.row ≡ true = lawful-at name table r.fit.form r.kept.row lawful r.kept.at in
    let made : IsMade name table i =
    subst (λ (j : Instr). IsMade name table j) (judged-is r.fit.form r.kept.row r.fit.helds i r.judges).made
    (made-is name table r.fit.form r.kept.row r.fit.helds r.kept.at row_lawful (own-is name table pairs i r two.0 row_lawful)) in
    record {
      valid = made.0;
      plain = (made.1, made.2, made.3, made.4);
      named = read_named table pairs i r;
    }
