-- What the note of a statement says is right: its tag, its unit and its marks.
use Rattle.std.proofs.Common.{◌≡◌, ℕ, Bool, true, false, cond, ◌&&◌, List, [], ◌∷◌, codes, Option, None, Some, option_and_then, Ok, refl, subst}
use Rattle.std.specs.List.{list_all}
use Rattle.sl_model.specs.Token.{is_unit_name}
use Rattle.asm_reader.specs.Notes.{Word, Remark, Said, of_item, of_region, is_tag, tag_from, unit_from, value_of, says, remark_of, mask_in, words_in, begins_region, is_region_word, is_item_word, all_named_once, region_said, item_said, words_said, note_said}
use Rattle.asm_reader.specs.Reading.{right_note, said_by}
use Rattle.asm_reader.specs.Regions.{is_right_unit}

-- Is there no tag, or a right one?
abbrev pub is_right_name : Option (List ℕ) → Bool
is_right_name None = true
is_right_name (Some name) = is_tag name

-- What is said of an instruction is right: not both marks, a right tag, and a right unit.
pub record IsRightRemark (remark : Remark) : Type 0 where
  pub marks : (remark.early && remark.late) ≡ false
  pub tag : is_right_name remark.tag ≡ true
  pub unit : is_right_unit remark.told.unit ≡ true

-- The same of what a note says.
abbrev pub IsRightSaid : Option Said → Type 0
IsRightSaid None = Unit {0}
IsRightSaid (Some (of_item remark)) = IsRightRemark remark
IsRightSaid (Some (of_region mask)) = Unit {0}

right_tag_from : (text : List ℕ) (b : Bool) → is_tag text ≡ b → is_right_name (cond b (Some text) None) ≡ true
right_tag_from text true e = e
right_tag_from text false e = refl

right_tag : (o : Option (List ℕ)) → is_right_name (option_and_then tag_from o) ≡ true
right_tag None = refl
right_tag (Some text) = right_tag_from text (is_tag text) refl

right_unit_from : (text : List ℕ) (b : Bool) → is_unit_name text ≡ b → is_right_unit (cond b (Some text) None) ≡ true
right_unit_from text true e = e
right_unit_from text false e = refl

right_unit : (o : Option (List ℕ)) → is_right_unit (option_and_then unit_from o) ≡ true
right_unit None = refl
right_unit (Some text) = right_unit_from text (is_unit_name text) refl

right_remark : (line : ℕ) (words : List Word) → (says (codes "may_early") words && says (codes "may_late") words) ≡ false → IsRightRemark (remark_of line words)
right_remark line words e = record {
  marks = e;
  tag = right_tag (value_of (codes "mem") words);
  unit = right_unit (value_of (codes "u") words);
}

right_item : (line : ℕ) (words : List Word) (said : Said) (fine both : Bool) → (says (codes "may_early") words && says (codes "may_late") words) ≡ both
    → cond fine (cond both None (Some (of_item (remark_of line words)))) None ≡ Some said → IsRightSaid (Some said)
right_item line words said false both is e = cc
right_item line words said true true is e = cc
right_item line words said true false is e =
    let same : Some (of_item (remark_of line words)) ≡ Some said = e in
    subst IsRightSaid same (right_remark line words is)

right_region : (mask : ℕ) (said : Said) (fine : Bool) → cond fine (Some (of_region mask)) None ≡ Some said → IsRightSaid (Some said)
right_region mask said false e = cc
right_region mask said true e =
    let same : Some (of_region mask) ≡ Some said = e in
    subst IsRightSaid same tt

right_begun : (line : ℕ) (word : Word) (words : List Word) (said : Said) (region : Bool)
    → cond region (region_said words) (item_said line (word ∷ words)) ≡ Some said → IsRightSaid (Some said)
right_begun line word words said true e = right_region (mask_in words) said (list_all is_region_word words && all_named_once words) e
right_begun line word words said false e =
    right_item line (word ∷ words) said (list_all is_item_word (word ∷ words) && all_named_once (word ∷ words))
    (says (codes "may_early") (word ∷ words) && says (codes "may_late") (word ∷ words)) refl e

right_words : (line : ℕ) (words : List Word) (said : Said) → words_said line words ≡ Some said → IsRightSaid (Some said)
right_words line [] said e =
    let same : Some (of_item (remark_of line [])) ≡ Some said = e in
    subst IsRightSaid same (right_remark line [] refl)
right_words line (word ∷ words) said e = right_begun line word words said (begins_region word) e

right_text : (line : ℕ) (text : List ℕ) (answer : Option Said) (said : Option Said) → note_said line text ≡ answer → right_note line answer ≡ Ok said → IsRightSaid said
unfolding note_said
right_text line text None said e f = cc
right_text line text (Some found) said e f =
    let same : Some found ≡ said = cc in
    subst IsRightSaid same (right_words line (words_in text) found e)

pub right_by : (line : ℕ) (text : Option (List ℕ)) (said : Option Said) → said_by line text ≡ Ok said → IsRightSaid said
right_by line None said e =
    let same : None ≡ said = cc in
    subst IsRightSaid same tt
right_by line (Some text) said e = right_text line text (note_said line text) said refl e
