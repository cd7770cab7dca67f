-- The instruction set of a lawful table is lawful.
use Rattle.std.proofs.Common.{◌≡◌, ◌∙◌, sym, ap, subst, refl, ℕ, ℤ, pos, zero, suc, ◌+◌, ◌*◌, ◌^◌, ◌==◌, ◌<◌, ◌≤◌, ◌+ℤ◌, ◌≤ℤ◌, Bool, true, false, cond, List, [], ◌∷◌, length, arith}
use Rattle.std.specs.Prelude.{nat_le, nat_lt, int_le, unsigned_abs, slice_get, Option, None, Some}
use Rattle.std.specs.List.{list_all, list_any, zip}
use Rattle.std.proofs.lemmas.Bool.{leb-true, eqb-true, false≢true}
use Rattle.std.proofs.lemmas.Int.{ints}
use Rattle.std.proofs.lemmas.Option.{slice_get_within, same_Some}
use Rattle.sl_model.specs.declared.register.Reg.{Reg}
use Rattle.sl_model.specs.declared.instruction.ArchName.{ArchName}
use Rattle.sl_model.specs.declared.instruction.Instr.{Instr}
use Rattle.sl_model.specs.Source.{outputs}
use Rattle.sl_model.specs.Isa.{Op, op_of}
use Rattle.sl_model.specs.Exec.{has_access, is_store}
use Rattle.sl_model.specs.RegSets.{set_has, set_count}
use Rattle.sl_model.specs.Lawful.{IsValid, IsLawful, IsBelow, are_bytes, fit, suits_set, zero_register}
use Rattle.sl_isa.specs.declared.meaning.Width.{Width}
use Rattle.sl_isa.specs.declared.meaning.Width.TheVariants as width
use Rattle.sl_isa.specs.declared.meaning.Addressing.{Addressing}
use Rattle.sl_isa.specs.declared.meaning.Addressing.TheVariants.{Kept, Before, After}
use Rattle.sl_isa.specs.declared.meaning.Meaning.{Meaning}
use Rattle.sl_isa.specs.declared.meaning.Meaning.TheVariants as meaning
use Rattle.sl_isa.specs.Arch.{stored_by}
use Rattle.form_table.specs.Rows.{row_operands}
use Rattle.form_table.specs.Reads.{in_range, is_multiple}
use Rattle.form_table.specs.declared.rows.Range.{Range}
use Rattle.form_table.specs.declared.rows.Row.{Row}
use Rattle.form_table.specs.declared.reader.Pick.TheVariants as pick
use Rattle.form_table.proofs.ForCallers.{between}
use Rattle.form_isa.specs.Access.{width_bytes, register_count, first_number, offset_by, stored_bytes, transfer_bytes}
use Rattle.form_isa.specs.Info.{input_classes, output_classes, padded_classes, places_of, size_of, stores, info_of, info_at}
use Rattle.form_isa.specs.LawfulTable.{banks_of, are_only_of, is_near, suits_meaning, is_lawful_row, is_lawful_table}
use Rattle.form_isa.specs.TableIsa.{ranges, numbers_fit, takes, is_valid, meaning_values, meaning_bytes, meaning_offset, row_values, row_bytes, row_offset, table_isa}
use Rattle.form_isa.proofs.Outputs.{banks, outputs-banks, outputs-lack_zero, padding-lacks_zero, FitBanks, fitting}
use Rattle.form_isa.proofs.Tests.{SuitsTransfer, suits-transfer, lawful-row}
use Rattle.form_isa.proofs.Values.{AreBounded, values-count, values-fit, bytes-count, bytes-fit, banks-few}
use Rattle.sl_laws.proofs.Tests.{then_parts}

-- each row of a lawful table is lawful
pub lawful-at : (name : ArchName) (table : List Row) (k : ℕ) (row : Row) → is_lawful_table name table ≡ true → slice_get table k ≡ Some row →
    is_lawful_row name row ≡ true
unfolding is_lawful_table
lawful-at name [] k row e at = absurd cc
lawful-at name (r ∷ rows) zero row e at =
    subst (λ v. is_lawful_row name v ≡ true) (same_Some r row at) (then_parts (is_lawful_row name r) (is_lawful_table name rows) e).0
lawful-at name (r ∷ rows) (suc k) row e at = lawful-at name rows k row (then_parts (is_lawful_row name r) (is_lawful_table name rows) e).1 at

lawful-outputs : (name : ArchName) (row : Row) → is_lawful_row name row ≡ true → are_only_of (banks_of row.meaning) (output_classes row) ≡ true
lawful-outputs name row e = (lawful-row name row e).outputs

-- the form of an instruction is one of the table
known-form : (o : Option Row) (op : Op) → is_valid o op ≡ true → (row : Row) × (o ≡ Some row)
known-form None op e = absurd (false≢true e)
known-form (Some row) op e = (row, refl)

-- An instruction of a form writes registers of the banks of the form's meaning.
writes-banks : (name : ArchName) (table : List Row) (row : Row) (i : Instr) → is_lawful_row name row ≡ true → slice_get table i.form ≡ Some row →
    IsValid (table_isa name table) i → banks (outputs i) ≡ banks_of row.meaning
unfolding table_isa info_of
writes-banks name table row i lawful at v =
    outputs-banks 3 (banks_of row.meaning) (output_classes row) (outputs i) (lawful-outputs name row lawful) (banks-few row.meaning)
    (v.output_count ∙ ap (λ o. set_count (info_at o).out_sets) at)
    (subst (λ o. list_all suits_set (zip (outputs i) (info_at o).out_sets) ≡ true) at v.output_classes)

-- the values of an instruction of a row
pub values-of : (name : ArchName) (table : List Row) (i : Instr) (row : Row) (ins loaded : List ℕ) →
    slice_get table i.form ≡ Some row →
    (table_isa name table).values (op_of i) ins loaded ≡ meaning_values name row.meaning i.imms ins loaded
unfolding table_isa
values-of name table i row ins loaded at = ap (λ o. row_values name o i.imms ins loaded) at

length-banks : (regs : List Reg) → length (banks regs) ≡ length regs
length-banks [] = refl
length-banks (r ∷ regs) = ap suc (length-banks regs)

count-values : (name : ArchName) (table : List Row) (row : Row) (i : Instr) (ins loaded : List ℕ) → AreBounded → is_lawful_row name row ≡ true →
    slice_get table i.form ≡ Some row →
    IsValid (table_isa name table) i → length ((table_isa name table).values (op_of i) ins loaded) ≡ length (outputs i)
count-values name table row i ins loaded known lawful at v =
    ap length (values-of name table i row ins loaded at) ∙ (values-count name row.meaning i.imms ins loaded known
    ∙ (ap length (sym (writes-banks name table row i lawful at v)) ∙ length-banks (outputs i)))

fit-values : (name : ArchName) (table : List Row) (row : Row) (i : Instr) (ins loaded : List ℕ) → AreBounded → is_lawful_row name row ≡ true →
    slice_get table i.form ≡ Some row →
    IsValid (table_isa name table) i →
    fit (table_isa name table) (outputs i) ((table_isa name table).values (op_of i) ins loaded) ≡ true
unfolding table_isa
fit-values name table row i ins loaded known lawful at v =
    fitting name (outputs i) (row_values name (slice_get table i.form) i.imms ins loaded)
    (subst (λ bs. FitBanks name bs (row_values name (slice_get table i.form) i.imms ins loaded))
    (sym (writes-banks name table row i lawful at v))
    (subst (λ o. FitBanks name (banks_of row.meaning) (row_values name o i.imms ins loaded)) (sym at)
    (values-fit name row.meaning row i.imms ins loaded known (lawful-row name row lawful).suits)))

-- No form writes the zero register.
lacks_zero-at : (name : ArchName) (table : List Row) (form : ℕ) → is_lawful_table name table ≡ true → (o : Option Row) → slice_get table form ≡ o →
    list_any (λ set. set_has set zero_register) (info_at o).out_sets ≡ false
unfolding info_of
lacks_zero-at name table form e None at = padding-lacks_zero 3
lacks_zero-at name table form e (Some row) at =
    outputs-lack_zero 3 (banks_of row.meaning) (output_classes row) (lawful-outputs name row (lawful-at name table form row e at))

-- An access is small.
size-small : (m : Meaning) → size_of m ≤ 32
size-small (meaning.Scalar op size) = omega arith
size-small (meaning.Vector op) = omega arith
size-small (meaning.Word op) = omega arith
size-small (meaning.Copy b) = omega arith
size-small (meaning.Memory t) = transfer-small t.pair t.width
  where
    transfer-small : (pair : Bool) (w : Width) → register_count pair * width_bytes w ≤ 32
    transfer-small true width.Byte = omega arith
    transfer-small true width.Half = omega arith
    transfer-small true width.Word = omega arith
    transfer-small true width.Double = omega arith
    transfer-small true width.Quad = omega arith
    transfer-small false width.Byte = omega arith
    transfer-small false width.Half = omega arith
    transfer-small false width.Word = omega arith
    transfer-small false width.Double = omega arith
    transfer-small false width.Quad = omega arith

sizes-small : (o : Option Row) → (info_at o).size ≤ 32
unfolding info_of
sizes-small None = omega arith
sizes-small (Some row) = size-small row.meaning

-- Its base is an operand.
none-smaller : nat_lt 0 0 ≡ true → ⊥
none-smaller e = false≢true e

meaning-base : (name : ArchName) (m : Meaning) (row : Row) → suits_meaning name m row ≡ true → nat_lt 0 (size_of m) ≡ true →
    IsBelow (slice_get (places_of pick.Base 0 (row_operands row)) 0) (set_count (padded_classes 4 (input_classes row)))
meaning-base name (meaning.Scalar op size) row e some = absurd (none-smaller some)
meaning-base name (meaning.Vector op) row e some = absurd (none-smaller some)
meaning-base name (meaning.Word op) row e some = absurd (none-smaller some)
meaning-base name (meaning.Copy b) row e some = absurd (none-smaller some)
meaning-base name (meaning.Memory t) row e some =
    let s : SuitsTransfer name t row = suits-transfer name t row e in
    subst (λ places. IsBelow (slice_get places 0) (set_count (padded_classes 4 (input_classes row)))) (sym s.base) s.input

has-base : (name : ArchName) (table : List Row) (form : ℕ) → is_lawful_table name table ≡ true → (o : Option Row) → slice_get table form ≡ o →
    has_access (info_at o) ≡ true → IsBelow (info_at o).base (set_count (info_at o).in_sets)
unfolding info_of
has-base name table form e None at some = absurd (none-smaller some)
has-base name table form e (Some row) at some =
    meaning-base name row.meaning row (lawful-row name row (lawful-at name table form row e at)).suits some

-- Its offset is small.
record IsNear (n : ℤ) : Type 0 where
  low : pos 0 ≤ℤ (n +ℤ pos (2 ^ 20))
  high : n ≤ℤ pos (2 ^ 20)

zero-near : IsNear (pos 0)
zero-near = record { low = omega arith; high = omega arith }

within : (n : ℤ) → unsigned_abs n < 2 ^ 20 + 1 → IsNear n
within n small = record { low = omega (arith, ints, small); high = omega (arith, ints, small) }

above : (n : ℕ) → nat_le n (2 ^ 20) ≡ true → n < 2 ^ 20 + 1
above n e = let few : n ≤ 2 ^ 20 = leb-true n (2 ^ 20) e in omega (arith, few)

range-near : (range : Range) (rest : List Range) (n : ℤ) → is_near (range ∷ rest) ≡ true → in_range range n ≡ true → IsNear n
unfolding in_range
range-near range rest n e f =
    let near = then_parts (nat_le (unsigned_abs range.least) (2 ^ 20)) (nat_le (unsigned_abs range.most) (2 ^ 20)) e in
    let low = then_parts (int_le range.least n) (cond (int_le n range.most) (is_multiple range.step (unsigned_abs n)) false) f in
    let high = then_parts (int_le n range.most) (is_multiple range.step (unsigned_abs n)) low.1 in
    within n (between range.least range.most n (2 ^ 20 + 1) low.0 high.0 (above _ near.0) (above _ near.1))

numbers-near : (ranges : List Range) (imms : List ℤ) → is_near ranges ≡ true → numbers_fit ranges imms ≡ true →
    IsNear (first_number imms)
unfolding numbers_fit
numbers-near ranges [] e f = zero-near
numbers-near [] (n ∷ imms) e f =
    zero-is n (eqb-true (unsigned_abs n) 0 (then_parts (unsigned_abs n == 0) (numbers_fit [] imms) f).0)
  where
    zero-is : (n : ℤ) → unsigned_abs n ≡ 0 → IsNear n
    zero-is n e = record { low = omega (arith, ints, e); high = omega (arith, ints, e) }
numbers-near (range ∷ ranges) (n ∷ imms) e f =
    range-near range ranges n e (then_parts (in_range range n) (numbers_fit ranges imms) f).0

addressed-near : (addressing : Addressing) (imms : List ℤ) → IsNear (first_number imms) → IsNear (offset_by addressing imms)
addressed-near Kept imms near = near
addressed-near Before imms near = near
addressed-near After imms near = zero-near

meaning-near : (name : ArchName) (m : Meaning) (row : Row) (imms : List ℤ) → suits_meaning name m row ≡ true →
    numbers_fit (ranges (row_operands row)) imms ≡ true → IsNear (meaning_offset m imms)
meaning-near name (meaning.Scalar op size) row imms e fits = zero-near
meaning-near name (meaning.Vector op) row imms e fits = zero-near
meaning-near name (meaning.Word op) row imms e fits = zero-near
meaning-near name (meaning.Copy b) row imms e fits = zero-near
meaning-near name (meaning.Memory t) row imms e fits =
    addressed-near t.addressing imms (numbers-near (ranges (row_operands row)) imms (suits-transfer name t row e).near fits)

-- An instruction of a table isn't wide.
taken-narrow : (wide taken : Bool) → cond wide false taken ≡ true → (wide ≡ false) × (taken ≡ true)
taken-narrow true taken e = absurd (false≢true e)
taken-narrow false taken e = (refl, e)

pub not_wide : (o : Option Row) (op : Op) → is_valid o op ≡ true → op.wide ≡ false
not_wide None op e = absurd (false≢true e)
not_wide (Some row) op e = (taken-narrow op.wide _ e).0

numbers-taken : (row : Row) (o : Op) → is_valid (Some row) o ≡ true → numbers_fit (ranges (row_operands row)) o.imms ≡ true
unfolding takes
numbers-taken row o e = (then_parts (numbers_fit (ranges (row_operands row)) o.imms) _ (taken-narrow o.wide _ e).1).0

offset-near : (name : ArchName) (table : List Row) (op : Op) → is_lawful_table name table ≡ true → (o : Option Row) → slice_get table op.form ≡ o →
    is_valid o op ≡ true → IsNear (row_offset o op.imms)
offset-near name table op e None at v = absurd (false≢true v)
offset-near name table op e (Some row) at v =
    meaning-near name row.meaning row op.imms (lawful-row name row (lawful-at name table op.form row e at)).suits (numbers-taken row op v)

-- It stores as many bytes as it has.
row-stores : (o : Option Row) (ins : List ℕ) → is_store (info_at o) ≡ true → length (row_bytes o ins) ≡ (info_at o).size
unfolding info_of
row-stores None ins e = absurd (false≢true e)
row-stores (Some row) ins e =
    bytes-count row.meaning ins (then_parts (nat_lt 0 (size_of row.meaning)) (stores row.meaning) e).1

row-bytes : (o : Option Row) (ins : List ℕ) → are_bytes (row_bytes o ins) ≡ true
row-bytes None ins = refl
row-bytes (Some row) ins = bytes-fit row.meaning ins

pub table-lawful : (name : ArchName) (table : List Row) → AreBounded → is_lawful_table name table ≡ true → IsLawful (table_isa name table)
unfolding table_isa
table-lawful name table known e = record {
  known = λ o v. let form = known-form (slice_get table o.form) o v in slice_get_within table o.form form.0 form.1;
  sizes = λ form. sizes-small (slice_get table form);
  offset_low = λ o v. (offset-near name table o e (slice_get table o.form) refl v).low;
  offset_high = λ o v. (offset-near name table o e (slice_get table o.form) refl v).high;
  writable = λ form. lacks_zero-at name table form e (slice_get table form) refl;
  base = λ form access. has-base name table form e (slice_get table form) refl access;
  value_count = λ i ins loaded v same some.
      let form = known-form (slice_get table i.form) (op_of i) v.op in
      count-values name table form.0 i ins loaded known (lawful-at name table i.form form.0 e form.1) form.1 v;
  values_fit = λ i ins loaded v same some fits bytes.
      let form = known-form (slice_get table i.form) (op_of i) v.op in
      fit-values name table form.0 i ins loaded known (lawful-at name table i.form form.0 e form.1) form.1 v;
  stored_count = λ i ins v store same. row-stores (slice_get table i.form) ins store;
  stored_fit = λ i ins v store same. row-bytes (slice_get table i.form) ins;
}

-- What isn't a store stores no bytes.
some-size : (pair : Bool) (w : Width) → nat_lt 0 (register_count pair * width_bytes w) ≡ true
some-size true width.Byte = refl
some-size true width.Half = refl
some-size true width.Word = refl
some-size true width.Double = refl
some-size true width.Quad = refl
some-size false width.Byte = refl
some-size false width.Half = refl
some-size false width.Word = refl
some-size false width.Double = refl
some-size false width.Quad = refl

twice : (b : Bool) (bytes : List ℕ) → cond b (cond b bytes []) [] ≡ cond b bytes []
twice true bytes = refl
twice false bytes = refl

meaning-stored : (m : Meaning) (ins : List ℕ) →
    cond (cond (nat_lt 0 (size_of m)) (stores m) false) (meaning_bytes m ins) [] ≡ meaning_bytes m ins
unfolding transfer_bytes
meaning-stored (meaning.Scalar op size) ins = refl
meaning-stored (meaning.Vector op) ins = refl
meaning-stored (meaning.Word op) ins = refl
meaning-stored (meaning.Copy b) ins = refl
meaning-stored (meaning.Memory t) ins =
    ap (λ b. cond (cond b t.store false) (transfer_bytes t ins) []) (some-size t.pair t.width)
    ∙ twice t.store (stored_bytes t.pair (width_bytes t.width) ins)

row-stored : (o : Option Row) (ins : List ℕ) → cond (is_store (info_at o)) (row_bytes o ins) [] ≡ row_bytes o ins
unfolding info_of
row-stored None ins = refl
row-stored (Some row) ins = meaning-stored row.meaning ins

pub stored_is : (name : ArchName) (table : List Row) (i : Instr) (ins : List ℕ) →
    stored_by (table_isa name table) i ins ≡ row_bytes (slice_get table i.form) ins
unfolding table_isa stored_by
stored_is name table i ins = row-stored (slice_get table i.form) ins
