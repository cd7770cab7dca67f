-- Tags and marks of items: the names of tags that notes give, and that marks stay right where names
-- are added.
use Rattle.std.proofs.Common.{◌≡◌, ℕ, suc, ◌<◌, ◌≤◌, Bool, true, false, cond, not, ◌&&◌, nat_lt, is_some, List, [], ◌∷◌, ◌++◌, length, length-append, Option, None, Some, option_map, refl, ap, ◌∙◌, arith, ltb-true}
use Rattle.std.specs.List.{list_all}
use Rattle.std.specs.Str.{bytes_eq}
use Rattle.std.proofs.lemmas.Bool.{and_parts, and_from}
use Rattle.std.proofs.lemmas.Bool.Decides.{nat_tests}
use Rattle.std.proofs.lemmas.List.Folds.{list_all-append}
use Rattle.sl_model.specs.declared.instruction.Instr.{Instr}
use Rattle.sl_model.specs.Exec.{has_access}
use Rattle.sl_model.specs.Isa.{Isa}
use Rattle.asm_reader.specs.Notes.{is_tag}
use Rattle.asm_reader.specs.Tags.{place_of, with_name, with_tag}
use Rattle.asm_reader.specs.Regions.{is_right_tag, is_marked_right}
use Rattle.asm_reader.proofs.RightNotes.{is_right_name}

below_true : (a b : ℕ) → a < b → nat_lt a b ≡ true
below_true a b h = grind (arith, nat_tests)

not_below : (a b : ℕ) → nat_lt a b ≡ false → b ≤ a
not_below a b h = grind (arith, nat_tests)

place_most_at : (name first : List ℕ) (names : List (List ℕ)) (b : Bool) → place_of name names ≤ length names → cond b 0 (suc (place_of name names)) ≤ suc (length names)
place_most_at name first names true h = omega arith
place_most_at name first names false h = omega arith

place_most : (name : List ℕ) (names : List (List ℕ)) → place_of name names ≤ length names
unfolding place_of
place_most name [] = omega arith
place_most name (first ∷ names) = place_most_at name first names (bytes_eq first name) (place_most name names)

place_below_at : (name : List ℕ) (names : List (List ℕ)) (b : Bool) → nat_lt (place_of name names) (length names) ≡ b → place_of name names < length (cond b names (names ++ name ∷ []))
place_below_at name names true e = ltb-true (place_of name names) (length names) e
place_below_at name names false e =
    let most = place_most name names in
    omega (arith, length-append names (name ∷ []))

-- the number of a name is below that of the names that it is among
place_below : (name : List ℕ) (names : List (List ℕ)) → place_of name names < length (with_name name names)
place_below name names = place_below_at name names (nat_lt (place_of name names) (length names)) refl

more_names_at : (name : List ℕ) (names : List (List ℕ)) (b : Bool) → length names ≤ length (cond b names (names ++ name ∷ []))
more_names_at name names true = omega arith
more_names_at name names false = omega (arith, length-append names (name ∷ []))

pub more_tags : (tag : Option (List ℕ)) (names : List (List ℕ)) → length names ≤ length (with_tag tag names)
more_tags None names = omega arith
more_tags (Some name) names = more_names_at name names (nat_lt (place_of name names) (length names))

right_names_at : (name : List ℕ) (names : List (List ℕ)) (b : Bool) → is_tag name ≡ true → list_all is_tag names ≡ true → list_all is_tag (cond b names (names ++ name ∷ [])) ≡ true
right_names_at name names true is all = all
right_names_at name names false is all =
    list_all-append is_tag names (name ∷ []) ∙ and_from (list_all is_tag names) (list_all is_tag (name ∷ [])) all (and_from (is_tag name) true is refl)

pub right_names : (tag : Option (List ℕ)) (names : List (List ℕ)) → is_right_name tag ≡ true → list_all is_tag names ≡ true → list_all is_tag (with_tag tag names) ≡ true
right_names None names is all = all
right_names (Some name) names is all = right_names_at name names (nat_lt (place_of name names) (length names)) is all

-- ---- marks

tag_mono : (accesses : Bool) (few many : ℕ) (tag : Option ℕ) → few ≤ many → is_right_tag accesses few tag ≡ true → is_right_tag accesses many tag ≡ true
tag_mono accesses few many None less e = refl
tag_mono accesses few many (Some tag) less e =
    let both = and_parts accesses (nat_lt tag few) e in
    let below : tag < few = ltb-true tag few both.1 in
    and_from accesses (nat_lt tag many) both.0 (below_true tag many (omega arith))

pub marks_mono : (isa : Isa) (few many : ℕ) (items : List Instr) → few ≤ many → list_all (is_marked_right isa few) items ≡ true → list_all (is_marked_right isa many) items ≡ true
marks_mono isa few many [] less e = refl
marks_mono isa few many (i ∷ items) less e =
    let both = and_parts (is_marked_right isa few i) (list_all (is_marked_right isa few) items) e in
    let here = and_parts (is_right_tag (has_access (isa.info i.form)) few i.tag) (not (i.early && i.late)) both.0 in
    and_from (is_marked_right isa many i) (list_all (is_marked_right isa many) items)
    (and_from (is_right_tag (has_access (isa.info i.form)) many i.tag) (not (i.early && i.late)) (tag_mono (has_access (isa.info i.form)) few many i.tag less here.0) here.1)
    (marks_mono isa few many items less both.1)

-- an instruction without tag and marks
pub plain_right : (isa : Isa) (count : ℕ) (i : Instr) → i.tag ≡ None → i.early ≡ false → is_marked_right isa count i ≡ true
plain_right isa count i untagged still =
    ap (λ t. is_right_tag (has_access (isa.info i.form)) count t && not (i.early && i.late)) untagged ∙ ap (λ b. not (b && i.late)) still

-- the tag that a note gives
pub given_tag : (accesses : Bool) (tag : Option (List ℕ)) (names : List (List ℕ)) → cond (is_some tag) accesses true ≡ true
    → is_right_tag accesses (length (with_tag tag names)) (option_map (λ name. place_of name names) tag) ≡ true
given_tag accesses None names e = refl
given_tag accesses (Some name) names e =
    and_from accesses (nat_lt (place_of name names) (length (with_name name names))) e (below_true (place_of name names) (length (with_name name names)) (place_below name names))
