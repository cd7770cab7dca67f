-- What the test of a row says.
use Rattle.std.proofs.Common.{◌≡◌, ◌+◌, ◌==◌, ◌<◌, ◌≤◌, Bool, true, false, cond, [], ◌∷◌, length}
use Rattle.std.specs.Prelude.{nat_le}
use Rattle.std.specs.Str.{bytes_eq}
use Rattle.std.proofs.lemmas.Bool.{leb-true, ltb-true, eqb-true}
use Rattle.std.proofs.lemmas.Slice.Eq.{bytes_eq-Decides}
use Rattle.sl_model.specs.declared.instruction.ArchName.{ArchName}
use Rattle.sl_model.specs.RegSets.{set_count}
use Rattle.sl_isa.specs.declared.meaning.Transfer.{Transfer}
use Rattle.form_table.specs.Rows.{row_operands}
use Rattle.form_table.specs.Tables.{spell_classes}
use Rattle.form_table.specs.declared.rows.Row.{Row}
use Rattle.form_table.specs.declared.reader.Pick.TheVariants as pick
use Rattle.form_isa.specs.Access.{base_place}
use Rattle.form_isa.specs.Info.{classes, places_of, input_classes, output_classes, padded_classes}
use Rattle.form_isa.specs.TableIsa.{ranges}
use Rattle.form_isa.specs.LawfulTable.{banks_of, are_only_of, has_its_number, has_room, loaded_bits, is_near, has_input, has_base, back_places, suits_transfer, suits_meaning, is_lawful_row}
use Rattle.sl_laws.proofs.Tests.{then_parts}

-- a row with an access
pub record SuitsTransfer (name : ArchName) (t : Transfer) (row : Row) : Type 0 where
  pub base : places_of pick.Base 0 (row_operands row) ≡ base_place t ∷ []
  pub back : places_of pick.Back 0 (row_operands row) ≡ back_places t
  pub behind : length (classes pick.Data (row_operands row)) ≡ base_place t
  pub all : length (input_classes row) ≡ base_place t + 1
  pub input : base_place t < set_count (padded_classes 4 (input_classes row))
  pub room : has_room name t.bank (loaded_bits t) ≡ true
  pub near : is_near (ranges (row_operands row)) ≡ true

pub suits-transfer : (name : ArchName) (t : Transfer) (row : Row) → suits_transfer name t row ≡ true → SuitsTransfer name t row
suits-transfer name t row e =
    let near : Bool = is_near (ranges (row_operands row)) in
    let room : Bool = cond (has_room name t.bank (loaded_bits t)) near false in
    let one = then_parts (has_base t row) (cond (bytes_eq (places_of pick.Back 0 (row_operands row)) (back_places t)) room false) e in
    let two = then_parts (bytes_eq (places_of pick.Back 0 (row_operands row)) (back_places t)) room one.1 in
    let three = then_parts (has_room name t.bank (loaded_bits t)) near two.1 in
    let counted : Bool = length (classes pick.Data (row_operands row)) == base_place t in
    let whole : Bool = length (input_classes row) == base_place t + 1 in
    let four =
    then_parts (bytes_eq (places_of pick.Base 0 (row_operands row)) (base_place t ∷ []))
    (cond counted (cond whole (has_input row (base_place t)) false) false) one.0 in
    let five = then_parts counted (cond whole (has_input row (base_place t)) false) four.1 in
    let six = then_parts whole (has_input row (base_place t)) five.1 in
    record {
      base = (bytes_eq-Decides (places_of pick.Base 0 (row_operands row)) (base_place t ∷ [])).0 four.0;
      back = (bytes_eq-Decides (places_of pick.Back 0 (row_operands row)) (back_places t)).0 two.0;
      behind = eqb-true (length (classes pick.Data (row_operands row))) (base_place t) five.0;
      all = eqb-true (length (input_classes row)) (base_place t + 1) six.0;
      input = ltb-true (base_place t) (set_count (padded_classes 4 (input_classes row))) six.1;
      room = three.0;
      near = three.1;
    }

-- any row
pub record IsLawfulRow (name : ArchName) (row : Row) : Type 0 where
  pub few : length (input_classes row) ≤ 4
  pub outputs : are_only_of (banks_of row.meaning) (output_classes row) ≡ true
  pub suits : suits_meaning name row.meaning row ≡ true
  pub number : has_its_number row.alias (row_operands row) ≡ true
  pub spells : spell_classes (row_operands row) ≡ true

pub lawful-row : (name : ArchName) (row : Row) → is_lawful_row name row ≡ true → IsLawfulRow name row
lawful-row name row e =
    let spelled : Bool = spell_classes (row_operands row) in
    let numbered : Bool = cond (has_its_number row.alias (row_operands row)) spelled false in
    let suited : Bool = cond (suits_meaning name row.meaning row) numbered false in
    let one =
    then_parts (nat_le (length (input_classes row)) 4)
    (cond (are_only_of (banks_of row.meaning) (output_classes row)) suited false) e in
    let two = then_parts (are_only_of (banks_of row.meaning) (output_classes row)) suited one.1 in
    let three = then_parts (suits_meaning name row.meaning row) numbered two.1 in
    let four = then_parts (has_its_number row.alias (row_operands row)) spelled three.1 in
    record {
      few = leb-true (length (input_classes row)) 4 one.0;
      outputs = two.0;
      suits = three.0;
      number = four.0;
      spells = four.1;
    }
