-- No line of a printed region is a marker.
use Rattle.std.proofs.Common.{◌≡◌, ℕ, suc, ◌+◌, Bool, true, false, cond, ◌&&◌, eqb, nat_eq, List, [], ◌∷◌, ◌++◌, length, drop, codes, refl, ap, sym, ◌∙◌, arith, append_assoc}
use Rattle.std.specs.List.{list_all, starts_with, AllByRecursion}
use Rattle.std.proofs.lemmas.Bool.{and_parts}
use Rattle.std.proofs.lemmas.Bool.Decides.{nat_tests}
use Rattle.std.proofs.lemmas.List.Folds.{list_all-append}
use Rattle.sl_model.specs.Text.{is_blank, is_marker, is_quiet, marker_numbers, skip_blanks, whole_lines, without_end}
use Rattle.sl_isa.specs.Language.{Language}
use Rattle.sl_model.specs.declared.text.Comments.{Comments}
use Rattle.asm_printer.proofs.ForCallers.{body_of, body_whole, head_of, head_whole, line_text}
use Rattle.asm_printer.specs.Lines.{IsLineEnd, IsPrinted, Printed, is_inside_line, item_lines, region_lines}
use Rattle.in_place.specs.Clear.{is_no_colon}

-- ---- a line with a colon

other-byte : (a c : ℕ) → is_no_colon c ≡ true → eqb 58 c ≡ false
other-byte a c e = grind (arith, nat_tests)

no-colon : (c : ℕ) → is_no_colon c ≡ true → eqb c 58 ≡ false
no-colon c e = grind (arith, nat_tests)

neither : (x y q : Bool) → (y && q) ≡ false → ((x && y) && q) ≡ false
neither true y q e = e
neither false y q e = refl

-- A label is a marker on such a line only where it stands before the colon, and what stands behind it is quiet.
colon-marker : (front label note : List ℕ) → list_all is_no_colon front ≡ true → list_all is_no_colon label ≡ true → is_quiet (skip_blanks note) ≡ false
    → (starts_with nat_eq (front ++ 58 ∷ note) (label ++ codes ":") && is_quiet (skip_blanks (drop (length label + 1) (front ++ 58 ∷ note)))) ≡ false
colon-marker [] [] note fronts labels loud = loud
colon-marker [] (l ∷ label) note fronts labels loud =
    let both = and_parts (is_no_colon l) (list_all is_no_colon label) labels in
    ap (λ b. (b && starts_with nat_eq note (label ++ codes ":")) && is_quiet (skip_blanks (drop (length (l ∷ label) + 1) (58 ∷ note)))) (no-colon l both.0)
colon-marker (c ∷ front) [] note fronts labels loud =
    let both = and_parts (is_no_colon c) (list_all is_no_colon front) fronts in
    ap (λ b. (b && starts_with nat_eq (front ++ 58 ∷ note) []) && is_quiet (skip_blanks (front ++ 58 ∷ note))) (other-byte c c both.0)
colon-marker (c ∷ front) (l ∷ label) note fronts labels loud =
    let first = and_parts (is_no_colon c) (list_all is_no_colon front) fronts in
    let second = and_parts (is_no_colon l) (list_all is_no_colon label) labels in
    let count : length (l ∷ label) + 1 ≡ suc (length label + 1) = omega arith in
    ap (λ n. (eqb l c && starts_with nat_eq (front ++ 58 ∷ note) (label ++ codes ":")) && is_quiet (skip_blanks (drop n (c ∷ (front ++ 58 ∷ note))))) count
    ∙ neither (eqb l c) (starts_with nat_eq (front ++ 58 ∷ note) (label ++ codes ":")) (is_quiet (skip_blanks (drop (length label + 1) (front ++ 58 ∷ note)))) (colon-marker front label note first.1 second.1 loud)

-- blanks before it are skipped
skip-front : (front note : List ℕ) → skip_blanks (front ++ 58 ∷ note) ≡ skip_blanks front ++ 58 ∷ note
unfolding skip_blanks
skip-front [] note = refl
skip-front (c ∷ front) note = of (is_blank c) (skip_blanks (front ++ 58 ∷ note)) (skip_blanks front) (skip-front front note)
  where
    of : (b : Bool) (all some : List ℕ) → all ≡ some ++ 58 ∷ note → cond b all (c ∷ (front ++ 58 ∷ note)) ≡ cond b some (c ∷ front) ++ 58 ∷ note
    of true all some e = e
    of false all some e = refl

skip-colons : (front : List ℕ) → list_all is_no_colon front ≡ true → list_all is_no_colon (skip_blanks front) ≡ true
unfolding skip_blanks
skip-colons [] e = refl
skip-colons (c ∷ front) e = of (is_blank c) (skip_blanks front) (skip-colons front (and_parts (is_no_colon c) (list_all is_no_colon front) e).1)
  where
    of : (b : Bool) (some : List ℕ) → list_all is_no_colon some ≡ true → list_all is_no_colon (cond b some (c ∷ front)) ≡ true
    of true some more = more
    of false some more = e

line-loud : (label line front note : List ℕ) → line ≡ front ++ 58 ∷ note → list_all is_no_colon front ≡ true → list_all is_no_colon label ≡ true → is_quiet (skip_blanks note) ≡ false → is_marker label line ≡ false
unfolding is_marker
line-loud label line front note is fronts labels loud =
    ap (λ l. starts_with nat_eq l (label ++ codes ":") && is_quiet (skip_blanks (drop (length label + 1) l))) (ap skip_blanks is ∙ skip-front front note)
    ∙ colon-marker (skip_blanks front) label note (skip-colons front fronts) labels loud

-- ---- printed lines

head-seen : (note : List ℕ) → is_quiet (skip_blanks (codes "region" ++ note)) ≡ false
unfolding skip_blanks
head-seen note = refl

head-loud : (label note : List ℕ) → list_all is_no_colon label ≡ true → is_marker label (head_of note) ≡ false
head-loud label note labels = line-loud label (head_of note) (codes "        // @slothy") (codes "region" ++ note) refl refl labels (head-seen note)

-- A note is seen where a marker would be quiet.
abbrev pub IsLoud : Printed → Type 0
IsLoud printed = is_quiet (skip_blanks printed.note) ≡ false

item-loud : (label : List ℕ) (printed : Printed) → list_all is_no_colon label ≡ true → list_all is_no_colon printed.text ≡ true → IsLoud printed → is_marker label (body_of printed) ≡ false
item-loud label printed labels plain loud =
    line-loud label (body_of printed) ((codes "        " ++ printed.text) ++ codes " // @slothy") printed.note
    (ap (λ v. codes "        " ++ v) (sym (append_assoc printed.text (codes " // @slothy") (58 ∷ printed.note))))
    (list_all-append is_no_colon (codes "        " ++ printed.text) (codes " // @slothy") ∙ ap (λ b. b && true) plain) labels loud

-- ---- all lines

one-line : (label : List ℕ) (number : ℕ) (line end rest : List ℕ) → whole_lines ((line ++ end) ++ rest) ≡ (line ++ end) ∷ whole_lines rest → without_end (line ++ end) ≡ line → is_marker label line ≡ false
    → marker_numbers label number (whole_lines ((line ++ end) ++ rest)) ≡ marker_numbers label (number + 1) (whole_lines rest)
unfolding marker_numbers
one-line label number line end rest first before none =
    ap (marker_numbers label number) first
    ∙ ap (λ l. cond (is_marker label l) (number ∷ marker_numbers label (number + 1) (whole_lines rest)) (marker_numbers label (number + 1) (whole_lines rest))) before
    ∙ ap (λ b. cond b (number ∷ marker_numbers label (number + 1) (whole_lines rest)) (marker_numbers label (number + 1) (whole_lines rest))) none

module _ (language : Language) (comments : Comments) where
  items-loud : (label end : List ℕ) (number : ℕ) (printed : List Printed) → list_all is_no_colon label ≡ true → IsLineEnd end → AllByRecursion (IsPrinted language comments) printed
      → AllByRecursion (λ (p : Printed). list_all is_no_colon p.text ≡ true) printed → AllByRecursion IsLoud printed
      → marker_numbers label number (whole_lines (item_lines end printed)) ≡ []
  unfolding item_lines whole_lines marker_numbers
  items-loud label end number [] labels ends are plain loud = refl
  items-loud label end number (first ∷ more) labels ends are plain loud =
      let whole = body_whole language comments first end are.0 ends in
      ap (λ text. marker_numbers label number (whole_lines (text ++ item_lines end more))) (line_text first end)
      ∙ one-line label number (body_of first) end (item_lines end more) (whole.first (item_lines end more)) whole.before (item-loud label first labels plain.0 loud.0)
      ∙ items-loud label end (number + 1) more labels ends are.1 plain.1 loud.1

  pub region-loud : (label note end : List ℕ) (number : ℕ) (printed : List Printed) → list_all is_no_colon label ≡ true → list_all is_inside_line note ≡ true → IsLineEnd end → AllByRecursion (IsPrinted language comments) printed
      → AllByRecursion (λ (p : Printed). list_all is_no_colon p.text ≡ true) printed → AllByRecursion IsLoud printed
      → marker_numbers label number (whole_lines (region_lines note end printed)) ≡ []
  region-loud label note end number printed labels inside ends are plain loud =
      let whole = head_whole note end inside ends in
      one-line label number (head_of note) end (item_lines end printed) (whole.first (item_lines end printed)) whole.before (head-loud label note labels)
      ∙ items-loud label end (number + 1) printed labels ends are plain loud

  -- other lines may stand behind it
  items-behind : (end rest : List ℕ) (printed : List Printed) → IsLineEnd end → AllByRecursion (IsPrinted language comments) printed
      → whole_lines (item_lines end printed ++ rest) ≡ whole_lines (item_lines end printed) ++ whole_lines rest
  unfolding item_lines whole_lines
  items-behind end rest [] ends are = refl
  items-behind end rest (first ∷ more) ends are =
      let whole = body_whole language comments first end are.0 ends in
      let line = body_of first ++ end in
      ap (λ text. whole_lines ((text ++ item_lines end more) ++ rest)) (line_text first end)
      ∙ ap whole_lines (append_assoc line (item_lines end more) rest)
      ∙ whole.first (item_lines end more ++ rest)
      ∙ ap (λ ls. line ∷ ls) (items-behind end rest more ends are.1)
      ∙ ap (λ ls. ls ++ whole_lines rest) (sym (whole.first (item_lines end more)))
      ∙ ap (λ text. whole_lines (text ++ item_lines end more) ++ whole_lines rest) (sym (line_text first end))

  pub region-behind : (note end rest : List ℕ) (printed : List Printed) → list_all is_inside_line note ≡ true → IsLineEnd end → AllByRecursion (IsPrinted language comments) printed
      → whole_lines (region_lines note end printed ++ rest) ≡ whole_lines (region_lines note end printed) ++ whole_lines rest
  region-behind note end rest printed inside ends are =
      let whole = head_whole note end inside ends in
      let line = head_of note ++ end in
      ap whole_lines (append_assoc line (item_lines end printed) rest)
      ∙ whole.first (item_lines end printed ++ rest)
      ∙ ap (λ ls. line ∷ ls) (items-behind end rest printed ends are)
      ∙ ap (λ ls. ls ++ whole_lines rest) (sym (whole.first (item_lines end printed)))
