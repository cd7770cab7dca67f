-- What is spelled by a table is spelled in other registers too.
use Rattle.std.proofs.Common.{◌≡◌, ◌∙◌, sym, ap, subst, refl, ℕ, zero, suc, ◌+◌, ◌≤◌, ◌==◌, Bool, true, false, cond, not, List, [], ◌∷◌, ◌++◌, length, arith, ◌<◌, ◌^◌}
use Rattle.std.specs.Prelude.{Option, Some, None, is_some, slice_get, slice_index_or, Ok, nat_lt}
use Rattle.std.specs.List.{list_all, zip}
use Rattle.std.specs.Int.{bit_at}
use Rattle.std.proofs.lemmas.Bool.{and_parts, eqb-true, false≢true, not-true, ltb-true}
use Rattle.std.proofs.lemmas.Nat.Bits.{bit_at-pow_other}
use Rattle.std.proofs.lemmas.Option.{get_or_from_slice_get}
use Rattle.sl_model.specs.declared.register.Bank.{Bank}
use Rattle.sl_model.specs.declared.register.Bank.TheVariants as bank
use Rattle.sl_model.specs.declared.register.Reg.{Reg}
use Rattle.sl_model.specs.declared.instruction.ArchName.{ArchName}
use Rattle.sl_model.specs.declared.instruction.FormInfo.{FormInfo}
use Rattle.sl_model.specs.declared.instruction.Instr.{Instr}
use Rattle.sl_model.specs.Register.{same_reg}
use Rattle.sl_model.specs.RegSets.{set_has, set_count}
use Rattle.sl_model.specs.Source.{operands, outputs, padded, place_from}
use Rattle.sl_model.specs.Body.{all_differ}
use Rattle.sl_model.specs.Lawful.{IsValid, suits_set, is_tied_to, is_base_alone, is_base_apart, is_of_bank}
use Rattle.sl_isa.specs.Steps.{flags_register}
use Rattle.sl_isa.specs.Language.{IsRenaming, unmarked, is_concrete}
use Rattle.form_table.specs.Rows.{row_operands}
use Rattle.form_table.specs.Reads.{picked, number_at, stands_in, repeats, shares_base, instr_of, reads, registers_suit}
use Rattle.form_table.specs.Printed.{helds_in}
use Rattle.form_table.specs.Tables.{is_table, all_led, is_readable, all_kept, all_rows}
use Rattle.form_table.specs.declared.rows.Row.{Row}
use Rattle.form_table.specs.declared.spells.Held.{Held}
use Rattle.form_table.specs.declared.reader.Pick.TheVariants as pick
use Rattle.form_table.proofs.ForCallers.{IsReadBy, Shaped, HoldFrom, form_of, read_kept, SameNumbers, IsRenamed, held_again, same_number, renamed_read, words_of, HasWords, is_plain}
use Rattle.form_isa.specs.Info.{the_flags, classes, flags_if, input_classes, output_classes, places_of, all_ties, padded_classes, ties, padded_ties, info_of, info_at}
use Rattle.form_isa.specs.LawfulTable.{is_lawful_row, is_lawful_table}
use Rattle.form_isa.specs.TableIsa.{table_isa}
use Rattle.form_isa.proofs.Alone.{stays-renamed}
use Rattle.form_isa.proofs.BaseApart.{base-apart}
use Rattle.form_isa.proofs.Dealt.{of-suits, in-parts, same-numbers, IsDealt, dealt, AreConcrete}
use Rattle.form_isa.proofs.Lawful.{lawful-at}
use Rattle.form_isa.proofs.Places.{flags_among, read_regs, written_regs, inputs-padded, results-padded}
use Rattle.form_isa.proofs.ReadValid.{judged-is, HasRegs, has-regs, own-is}
use Rattle.form_isa.proofs.Suits.{AreOf, of-count, of-counted, picked-of}
use Rattle.form_isa.proofs.Tests.{IsLawfulRow, lawful-row}
use Rattle.form_isa.proofs.Ties.{AreTied, as_ties, StandFrom, read-stand}
use Rattle.form_isa.proofs.TiedBack.{TiedBack, tied-back, bases-back, same-front, stand-behind}
use Rattle.sl_laws.proofs.Tests.{then_parts, is_none_from}
use Rattle.sl_laws.proofs.Elements.{slice_get-front}
use Rattle.form_table.specs.declared.rows.Operand.{Operand}
use Rattle.form_table.specs.Tables as tables
use Rattle.sl_model.specs.Token.{Lexeme}
use Rattle.sl_isa.specs.Symbols.{Pair}
use Rattle.sl_model.specs.declared.register.RegSet.{RegSet}

-- ---- the flags are the one register of their class

flags-number : (n : ℕ) → n < 1 → record { bank = bank.Flags; symbolic = false; number = n } ≡ flags_register
flags-number zero less = refl
flags-number (suc n) less = absurd (omega arith)

no-flags : (n : ℕ) (k : ℕ) → n < 64 + k → (n ≡ 64 → ⊥) → bit_at (2 ^ 64) n ≡ 1 → ⊥
no-flags n k less other e = let none : bit_at (2 ^ 64) n ≡ 0 = bit_at-pow_other 64 n other in omega arith

only-flags : (b : Bank) (symbolic : Bool) (n : ℕ) → set_has the_flags (record { bank = b; symbolic = symbolic; number = n }) ≡ true →
    record { bank = b; symbolic = symbolic; number = n } ≡ flags_register
unfolding set_has
only-flags bank.General true n e = absurd (false≢true e)
only-flags bank.Vector true n e = absurd (false≢true e)
only-flags bank.Flags true n e = absurd (false≢true e)
only-flags bank.Stack true n e = absurd (false≢true e)
only-flags bank.General false n e =
    let parts = and_parts (bit_at (2 ^ 64) n == 1) (nat_lt n 32) e in
    let less : n < 32 = ltb-true n 32 parts.1 in
    absurd (no-flags n 1 (omega arith) (λ same. omega arith) (eqb-true (bit_at (2 ^ 64) n) 1 parts.0))
only-flags bank.Vector false n e =
    let parts = and_parts (bit_at (2 ^ 64) (32 + n) == 1) (nat_lt n 32) e in
    let less : n < 32 = ltb-true n 32 parts.1 in
    absurd (no-flags (32 + n) 1 (omega arith) (λ same. omega arith) (eqb-true (bit_at (2 ^ 64) (32 + n)) 1 parts.0))
only-flags bank.Flags false n e = flags-number n (ltb-true n 1 (and_parts (bit_at (2 ^ 64) 64 == 1) (nat_lt n 1) e).1)
only-flags bank.Stack false n e =
    absurd (no-flags 65 2 (omega arith) (λ same. omega arith) (eqb-true (bit_at (2 ^ 64) 65) 1 (and_parts (bit_at (2 ^ 64) 65 == 1) (nat_lt n 1) e).0))

plain-has : (set : RegSet) (r : Reg) → is_concrete r ≡ true → suits_set (r, set) ≡ true → set_has set r ≡ true
plain-has set r plain suits = sym (ap (λ b. cond b (is_of_bank r.bank set) (set_has set r)) (not-true r.symbolic plain)) ∙ suits

flags-are : (wanted : Bool) (regs : List Reg) → AreOf regs (flags_if wanted) → AreConcrete regs → regs ≡ flags_among wanted
flags-are false [] of known = refl
flags-are false (r ∷ regs) of known = absurd of
flags-are true [] of known = absurd of
flags-are true (r ∷ []) of known = ap (λ q. q ∷ []) (only-flags r.bank r.symbolic r.number (plain-has the_flags r (and_parts (is_concrete r) true known).0 of.0))
flags-are true (r ∷ q ∷ regs) of known = absurd of.1

-- ---- registers in their places

padded-at : (n : ℕ) (regs : List Reg) (k : ℕ) (r : Reg) → length regs ≤ n → slice_get regs k ≡ Some r → slice_get (padded n regs) k ≡ Some (Some r)
padded-at n [] k r few at = absurd cc
padded-at zero (q ∷ regs) k r few at = absurd (omega arith)
padded-at (suc n) (q ∷ regs) zero r few at = ap Some at
padded-at (suc n) (q ∷ regs) (suc k) r few at = padded-at n regs k r (omega arith) at

hold-front : (n : ℕ) (places : List (Option Reg)) (front back : List Reg) → places ≡ padded n (front ++ back) → length (front ++ back) ≤ n → HoldFrom places 0 front
hold-front n places front back is few k r at =
    let same : 0 + k ≡ k = omega arith in
    ap (λ m. slice_index_or places m None) same
    ∙ get_or_from_slice_get places k (Some r) None
    (ap (λ l. slice_get l k) is ∙ padded-at n (front ++ back) k r few (slice_get-front front back k r at))

-- registers that differ stand at no two places
no-stand : (n : ℕ) (r : Reg) (regs : List Reg) (from : ℕ) → place_from from r regs ≡ None → stands_in r (padded n regs) ≡ false
unfolding stands_in place_from
no-stand zero r regs from e = refl
no-stand (suc n) r [] from e = no-stand n r [] from e
no-stand (suc n) r (q ∷ regs) from e = by (same_reg q r) (no-stand n r regs (from + 1)) e
  where
    by : (b : Bool) → (place_from (from + 1) r regs ≡ None → stands_in r (padded n regs) ≡ false) → cond b (Some from) (place_from (from + 1) r regs) ≡ None → cond b true (stands_in r (padded n regs)) ≡ false
    by true rest f = absurd cc
    by false rest f = rest f

differ-repeats : (n : ℕ) (regs : List Reg) → all_differ regs ≡ true → repeats (padded n regs) ≡ false
unfolding repeats all_differ
differ-repeats zero regs e = refl
differ-repeats (suc n) [] e = differ-repeats n [] e
differ-repeats (suc n) (r ∷ regs) e =
    let parts = and_parts (not (is_some (place_from 0 r regs))) (all_differ regs) e in
    let none : place_from 0 r regs ≡ None = is_none_from (place_from 0 r regs) (not-true (is_some (place_from 0 r regs)) parts.0) in
    ap (λ b. cond b true (repeats (padded n regs))) (no-stand n r regs 0 none) ∙ differ-repeats n regs parts.1

-- ---- the registers of an instruction of a row

-- What is known of an instruction of a row.
record OfRow (row : Row) (j : Instr) : Type 0 where
  read : AreOf (operands j) (input_classes row)
  written : AreOf (outputs j) (output_classes row)
  few_read : length (operands j) ≤ 4
  few_written : length (outputs j) ≤ 3
  ins : j.ins ≡ padded 4 (operands j)
  outs : j.outs ≡ padded 3 (outputs j)
  tied : list_all (is_tied_to (operands j)) (zip (outputs j) (info_of row).tied) ≡ true
  read_known : AreConcrete (operands j)
  written_known : AreConcrete (outputs j)

-- the operands of the row hold its registers
record Redealt (row : Row) (j : Instr) (helds : List Held) : Type 0 where
  shaped : Shaped (row_operands row) helds
  suit : registers_suit (row_operands row) helds ≡ true
  plain : list_all is_plain helds ≡ true
  reads : read_regs row helds ≡ operands j
  writes : written_regs row helds ≡ outputs j

redealt : (row : Row) (j : Instr) → OfRow row j → Redealt row j (helds_in j (row_operands row) 0 0 0)
unfolding input_classes output_classes info_of all_ties
redealt row j of =
    let ops : List Operand = row_operands row in
    let helds : List Held = helds_in j ops 0 0 0 in
    let one = in-parts (classes pick.Read ops) (classes pick.Tied ops ++ flags_if row.reads_flags) (operands j) of.read of.read_known in
    let two = in-parts (classes pick.Tied ops) (flags_if row.reads_flags) one.back one.of_back one.back_known in
    let three = in-parts (classes pick.Written ops) (classes pick.Back ops ++ flags_if row.sets_flags) (outputs j) of.written of.written_known in
    let four = in-parts (classes pick.Back ops) (flags_if row.sets_flags) three.back three.of_back three.back_known in
    let in_length : length (operands j) ≡ length (one.front ++ one.back) = ap length one.whole in
    let out_length : length (outputs j) ≡ length (three.front ++ three.back) = ap length three.whole in
    let in_few : length (operands j) ≤ 4 = of.few_read in
    let out_few : length (outputs j) ≤ 3 = of.few_written in
    let d : IsDealt ops helds one.front three.front = dealt j ops 0 0 0 one.front three.front one.of_front three.of_front
    (hold-front 4 j.ins one.front one.back (of.ins ∙ ap (padded 4) one.whole) (omega arith))
    (hold-front 3 j.outs three.front three.back (of.outs ∙ ap (padded 3) three.whole) (omega arith)) one.front_known three.front_known in
    let tied : List Reg = picked pick.Tied ops helds in
    let written : List Reg = picked pick.Written ops helds in
    let outs_are : outputs j ≡ written ++ three.back = three.whole ∙ ap (λ l. l ++ three.back) (sym d.is_written) in
    let outs_length : length (outputs j) ≡ length (written ++ three.back) = ap length outs_are in
    let front_length : length one.front ≡ length (classes pick.Read ops) = of-count one.front (classes pick.Read ops) one.of_front in
    let back : TiedBack (operands j) (length (classes pick.Read ops)) tied three.back (as_ties (places_of pick.Back 0 ops)) =
    tied-back (operands j) ops helds three.back (as_ties (places_of pick.Back 0 ops)) 3 (length (classes pick.Read ops)) d.shaped (omega arith)
    (subst (λ outs. AreTied (operands j) outs (padded_ties 3 (ties (length (classes pick.Read ops)) ops ++ as_ties (places_of pick.Back 0 ops)))) outs_are of.tied) in
    let stand : StandFrom (one.front ++ one.back) (length one.front) tied =
    subst (λ n. StandFrom (one.front ++ one.back) n tied) (sym front_length)
    (subst (λ ins. StandFrom ins (length (classes pick.Read ops)) tied) one.whole back.stand) in
    let tied_is : tied ≡ two.front = same-front tied two.front two.back
    (of-count tied (classes pick.Tied ops) (picked-of pick.Tied ops helds d.shaped d.suit) ∙ sym (of-count two.front (classes pick.Tied ops) two.of_front))
    (λ k r at. ap (λ l. slice_get l k) (sym two.whole) ∙ stand-behind one.front one.back tied stand k r at) in
    let read_stand : StandFrom (operands j) 0 (picked pick.Read ops helds) =
    subst (λ regs. StandFrom (operands j) 0 regs) (sym d.is_read) (subst (λ ins. StandFrom ins 0 one.front) (sym one.whole) (read-stand one.front one.back)) in
    let back_length : length three.back ≡ length (four.front ++ four.back) = ap length four.whole in
    let back_few : length three.back ≤ back.room = back.few in
    let back_is : four.front ≡ picked pick.Back ops helds =
    bases-back (operands j) ops helds four.back back.room 0 four.front d.shaped (omega arith) read_stand (of-count four.front (classes pick.Back ops) four.of_front)
    (subst (λ outs. AreTied (operands j) outs (padded_ties back.room (as_ties (places_of pick.Back 0 ops)))) four.whole back.behind) in
    record {
      shaped = d.shaped;
      suit = d.suit;
      plain = d.plain;
      reads =
          ap (λ l. l ++ (tied ++ flags_among row.reads_flags)) d.is_read
          ∙ (ap (λ l. one.front ++ (l ++ flags_among row.reads_flags)) tied_is
          ∙ (ap (λ l. one.front ++ (two.front ++ l)) (sym (flags-are row.reads_flags two.back two.of_back two.back_known))
          ∙ (ap (λ l. one.front ++ l) (sym two.whole) ∙ sym one.whole)));
      writes =
          ap (λ l. written ++ (l ++ flags_among row.sets_flags)) (sym back_is)
          ∙ (ap (λ l. written ++ (four.front ++ l)) (sym (flags-are row.sets_flags four.back four.of_back four.back_known))
          ∙ (ap (λ l. written ++ l) (sym four.whole) ∙ sym outs_are));
    }

-- ---- an instruction of the set, of the form of one that was read

-- as many registers as an instruction of the row has are as many as classes
in-count : (row : Row) (helds : List Held) (i : Instr) → HasRegs row helds i → set_count (padded_classes 4 (input_classes row)) ≡ length (input_classes row)
in-count row helds i has = sym (of-counted 4 (read_regs row helds) (input_classes row) has.few_read has.read) ∙ of-count (read_regs row helds) (input_classes row) has.read

out-count : (row : Row) (helds : List Held) (i : Instr) → HasRegs row helds i → set_count (padded_classes 3 (output_classes row)) ≡ length (output_classes row)
out-count row helds i has = sym (of-counted 3 (written_regs row helds) (output_classes row) has.few_written has.written) ∙ of-count (written_regs row helds) (output_classes row) has.written

of-row : (row : Row) (olds : List Held) (i j : Instr) (info : FormInfo) → HasRegs row olds i → info ≡ info_of row → list_all is_concrete (operands j) ≡ true →
    list_all is_concrete (outputs j) ≡ true → length (operands j) ≡ set_count info.in_sets → length (outputs j) ≡ set_count info.out_sets →
    list_all suits_set (zip (operands j) info.in_sets) ≡ true → list_all suits_set (zip (outputs j) info.out_sets) ≡ true →
    list_all (is_tied_to (operands j)) (zip (outputs j) info.tied) ≡ true → j.ins ≡ padded 4 (operands j) → j.outs ≡ padded 3 (outputs j) → OfRow row j
unfolding info_of
of-row row olds i j info has is ins_known outs_known ins_many outs_many ins_suit outs_suit tied ins outs =
    let read_count : length (operands j) ≡ length (input_classes row) = ins_many ∙ (ap (λ (f : FormInfo). set_count f.in_sets) is ∙ in-count row olds i has) in
    let written_count : length (outputs j) ≡ length (output_classes row) = outs_many ∙ (ap (λ (f : FormInfo). set_count f.out_sets) is ∙ out-count row olds i has) in
    let old_read : length (read_regs row olds) ≡ length (input_classes row) = of-count (read_regs row olds) (input_classes row) has.read in
    let old_written : length (written_regs row olds) ≡ length (output_classes row) = of-count (written_regs row olds) (output_classes row) has.written in
    let four : length (read_regs row olds) ≤ 4 = has.few_read in
    let three : length (written_regs row olds) ≤ 3 = has.few_written in
    record {
      read = of-suits 4 (operands j) (input_classes row) read_count (omega arith) (subst (λ (f : FormInfo). list_all suits_set (zip (operands j) f.in_sets) ≡ true) is ins_suit);
      written = of-suits 3 (outputs j) (output_classes row) written_count (omega arith) (subst (λ (f : FormInfo). list_all suits_set (zip (outputs j) f.out_sets) ≡ true) is outs_suit);
      few_read = omega arith;
      few_written = omega arith;
      ins = ins;
      outs = outs;
      tied = subst (λ (f : FormInfo). list_all (is_tied_to (operands j)) (zip (outputs j) f.tied) ≡ true) is tied;
      read_known = ins_known;
      written_known = outs_known;
    }

-- ---- the instruction that is made of the operands

same-instr : (i j : Instr) → i.form ≡ j.form → i.wide ≡ j.wide → i.imms ≡ j.imms → i.ins ≡ j.ins → i.outs ≡ j.outs → unmarked i ≡ unmarked j
same-instr i j form wide imms ins outs = λ t. record {
  form = form t;
  wide = wide t;
  imms = imms t;
  ins = ins t;
  outs = outs t;
  tag = None;
  early = false;
  late = false;
  line = 0;
}

plain-made : (form : ℕ) (row : Row) (helds : List Held) → instr_of form row helds ≡ unmarked (instr_of form row helds)
unfolding instr_of
plain-made form row helds = refl

made-numbers : (form : ℕ) (row : Row) (olds news : List Held) → SameNumbers olds news → (instr_of form row news).imms ≡ (instr_of form row olds).imms
unfolding instr_of
made-numbers form row olds news same =
    ap (λ n. n ∷ number_at 1 news ∷ number_at 2 news ∷ []) (same_number 0 olds news same)
    ∙ (ap (λ n. number_at 0 olds ∷ n ∷ number_at 2 news ∷ []) (same_number 1 olds news same)
    ∙ ap (λ n. number_at 0 olds ∷ number_at 1 olds ∷ n ∷ []) (same_number 2 olds news same))

made-wide : (form : ℕ) (row : Row) (olds news : List Held) → (instr_of form row news).wide ≡ (instr_of form row olds).wide
unfolding instr_of
made-wide form row olds news = refl

made-ins : (form : ℕ) (row : Row) (helds : List Held) → (instr_of form row helds).ins ≡ padded 4 (read_regs row helds)
unfolding instr_of
made-ins form row helds = inputs-padded row helds

made-outs : (form : ℕ) (row : Row) (helds : List Held) → (instr_of form row helds).outs ≡ padded 3 (written_regs row helds)
unfolding instr_of
made-outs form row helds = results-padded row helds

-- ---- the law

info-at : (name : ArchName) (table : List Row) (form : ℕ) (row : Row) → slice_get table form ≡ Some row → (table_isa name table).info form ≡ info_of row
unfolding table_isa
info-at name table form row at = ap info_at at

-- What is spelled by a table is spelled in other registers too.
pub read-renamed : (name : ArchName) (table : List Row) → is_readable table ≡ true → is_lawful_table name table ≡ true → (pairs : List Pair) (words : List Lexeme) (i j : Instr) →
    reads table pairs words ≡ Ok (unmarked i) → IsRenaming (table_isa name table) i j → HasWords table [] (unmarked j)
read-renamed name table tests lawful pairs words i j e renaming =
    let whole : is_table table ≡ true = (then_parts (is_table table) (all_led table) tests).0 in
    let one = then_parts (tables.all_differ table) (cond (all_kept table table) (all_rows table) false) whole in
    let kept : all_kept table table ≡ true = (then_parts (all_kept table table) (all_rows table) one.1).0 in
    let r : IsReadBy table pairs (unmarked i) = read_kept table pairs words (unmarked i) whole e in
    let row : Row = r.kept.row in
    let form : ℕ = r.fit.form in
    let olds : List Held = r.fit.helds in
    let fair : is_lawful_row name row ≡ true = lawful-at name table form row lawful r.kept.at in
    let fine : IsLawfulRow name row = lawful-row name row fair in
    let has : HasRegs row olds (instr_of form row olds) = has-regs name form row olds fine (own-is name table pairs (unmarked i) r kept fair) in
    let made : instr_of form row olds ≡ unmarked i = (judged-is form row olds (unmarked i) r.judges).made in
    let same_form : j.form ≡ form = ap (λ (k : Instr). k.form) (sym renaming.same) ∙ (ap (λ (k : Instr). k.form) (sym made) ∙ form_of form row olds) in
    let same_imms : j.imms ≡ i.imms = ap (λ (k : Instr). k.imms) (sym renaming.same) in
    let v : IsValid (table_isa name table) j = renaming.valid in
    let info : (table_isa name table).info j.form ≡ info_of row = info-at name table j.form row (ap (slice_get table) same_form ∙ r.kept.at) in
    let of : OfRow row j = of-row row olds (instr_of form row olds) j ((table_isa name table).info j.form) has info renaming.concrete.operands_concrete renaming.concrete.outputs_concrete
    v.operand_count v.output_count v.operand_classes v.output_classes v.tied v.ins_shape v.outs_shape in
    let news : List Held = helds_in j (row_operands row) 0 0 0 in
    let again : Redealt row j news = redealt row j of in
    let numbers : SameNumbers olds news = subst (λ hs. SameNumbers hs news) (held_again table pairs (unmarked i) r whole) (same-numbers (unmarked i) j (row_operands row) 0 0 0 0 0 same_imms) in
    let apart : not (shares_base row news) ≡ true =
    sym (base-apart name row.meaning row news fine.suits fine.few again.shaped again.suit)
    ∙ (ap (is_base_alone same_reg (info_of row)) again.reads ∙ (ap (λ (f : FormInfo). is_base_apart f j) (sym info) ∙ v.base_apart)) in
    let renamed : IsRenamed row olds news = record {
      numbers = numbers;
      shaped = again.shaped;
      registers = again.suit;
      plain = again.plain;
      distinct = ap repeats (results-padded row news ∙ ap (padded 3) again.writes) ∙ differ-repeats 3 (outputs j) v.distinct;
      apart = not-true (shares_base row news) apart;
    } in
    let found : HasWords table [] (instr_of form row news) = words_of table [] (instr_of form row news) tests (renamed_read table pairs (unmarked i) r news fine.spells renamed (stays-renamed table r.fit row news kept r.kept.at r.kept.stays numbers)) in
    let same : instr_of form row news ≡ unmarked j =
    plain-made form row news
    ∙ same-instr (instr_of form row news) j
    (form_of form row news ∙ sym same_form)
    (made-wide form row olds news ∙ (ap (λ (k : Instr). k.wide) made ∙ ap (λ (k : Instr). k.wide) renaming.same))
    (made-numbers form row olds news numbers ∙ (ap (λ (k : Instr). k.imms) made ∙ sym same_imms))
    (made-ins form row news ∙ (ap (padded 4) again.reads ∙ sym v.ins_shape))
    (made-outs form row news ∙ (ap (padded 3) again.writes ∙ sym v.outs_shape)) in
    subst (HasWords table []) same found
