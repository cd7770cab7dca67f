-- The lines of a printed region: what they say ends no line, and each spells its item.
use Rattle.std.proofs.Common.{◌≡◌, ℕ, zero, suc, ◌+◌, ◌/◌, ◌%◌, ◌<◌, Bool, true, false, not, nat_lt, slice_get, Option, None, Some, eqb, List, [], ◌∷◌, ◌++◌, length, codes, if◌then◌else◌, map, refl, sym, ap, ◌∙◌, subst, arith, lt-ltb}
use Rattle.std.specs.Fmt.{decimal, digits, digits_onto, digit_glyph}
use Rattle.std.specs.List.{list_all, AllByRecursion}
use Rattle.std.proofs.lemmas.Bool.{ne_eqb, and_from, and_parts}
use Rattle.std.proofs.lemmas.List.Folds.{list_all-append}
use Rattle.sl_model.specs.declared.instruction.Instr.{Instr}
use Rattle.sl_model.specs.declared.text.Comments.{Comments}
use Rattle.sl_isa.specs.Language.{Language, IsLanguage, IsSpelledAt, is_no_feed, unmarked, AreSpelled}
use Rattle.sl_isa.specs.Symbols.{Pair}
use Rattle.asm_printer.specs.Lines as reading
use Rattle.asm_printer.specs.declared.plan.Head.{Head}
use Rattle.asm_printer.specs.Printed.{head_note, numbered, named, word_if, tag_name, marks_note, item_note, entries}
use Rattle.asm_reader.specs.Notes.{NoteValue, is_tag}
use Rattle.asm_printer.proofs.Concrete.{spelled-printed}
use Rattle.asm_reader.specs.Regions.{is_right_unit}
use Rattle.std.specs.Char.{is_ascii_alphabetic}
use Rattle.std.proofs.lemmas.Bool.Decides.{nat_tests}
use Rattle.sl_model.specs.Token.{is_word_byte, is_unit_name}

-- notes end no line

all-append : (xs ys : List ℕ) → list_all reading.is_inside_line xs ≡ true → list_all reading.is_inside_line ys ≡ true → list_all reading.is_inside_line (xs ++ ys) ≡ true
all-append xs ys h k = list_all-append reading.is_inside_line xs ys ∙ and_from (list_all reading.is_inside_line xs) (list_all reading.is_inside_line ys) h k

glyph-inside : (d : ℕ) → d < 10 → reading.is_inside_line (digit_glyph false d) ≡ true
glyph-inside d h =
    ap (λ b. reading.is_inside_line (if b then 48 + d else 87 + d)) (lt-ltb d 10 h)
    ∙ ap (λ b. if b then false else not (eqb (48 + d) 13)) (ne_eqb (48 + d) 10 (λ e. omega arith))
    ∙ ap not (ne_eqb (48 + d) 13 (λ e. omega arith))

digits-inside : (k n : ℕ) (after : List ℕ) → list_all reading.is_inside_line after ≡ true → list_all reading.is_inside_line (digits_onto k 10 false n after) ≡ true
digits-inside zero n after h = h
digits-inside (suc k) n after h =
    let more : List ℕ = digit_glyph false (n % 10) ∷ after in
    let good : list_all reading.is_inside_line more ≡ true = and_from (reading.is_inside_line (digit_glyph false (n % 10))) (list_all reading.is_inside_line after) (glyph-inside (n % 10) (omega arith)) h in
    elim (eqb (n / 10) 0) as (λ b. list_all reading.is_inside_line (if b then more else digits_onto k 10 false (n / 10) more) ≡ true) [
      | true ↦ good
      | false ↦ digits-inside k (n / 10) more good
    ]

decimal-inside : (n : ℕ) → list_all reading.is_inside_line (decimal n) ≡ true
unfolding digits
decimal-inside n = digits-inside 64 n [] refl

-- three labels with their numbers
labelled-inside : (a b c : List ℕ) (m n k : ℕ) → list_all reading.is_inside_line a ≡ true → list_all reading.is_inside_line b ≡ true → list_all reading.is_inside_line c ≡ true
    → list_all reading.is_inside_line (a ++ (decimal m ++ (b ++ (decimal n ++ (c ++ decimal k))))) ≡ true
labelled-inside a b c m n k ha hb hc =
    all-append a (decimal m ++ (b ++ (decimal n ++ (c ++ decimal k)))) ha
    (all-append (decimal m) (b ++ (decimal n ++ (c ++ decimal k))) (decimal-inside m)
    (all-append b (decimal n ++ (c ++ decimal k)) hb
    (all-append (decimal n) (c ++ decimal k) (decimal-inside n)
    (all-append c (decimal k) hc (decimal-inside k)))))

pub head-inside : (head : Head) → list_all reading.is_inside_line (head_note head) ≡ true
head-inside head = labelled-inside (codes " v=1 kind=straight n=") (codes " cycles=") (codes " stalls=") head.items head.cycles head.stalls refl refl refl

-- names end no line

word-inside : (c : ℕ) → is_word_byte c ≡ true → reading.is_inside_line c ≡ true
word-inside c h = grind (arith, nat_tests)

letter-inside : (c : ℕ) → is_ascii_alphabetic c ≡ true → reading.is_inside_line c ≡ true
letter-inside c h = grind (arith, nat_tests)

words-inside : (text : List ℕ) → list_all is_word_byte text ≡ true → list_all reading.is_inside_line text ≡ true
words-inside [] h = refl
words-inside (c ∷ text) h =
    let both = and_parts (is_word_byte c) (list_all is_word_byte text) h in
    and_from (reading.is_inside_line c) (list_all reading.is_inside_line text) (word-inside c both.0) (words-inside text both.1)

pub both-pass : (a b : Bool) → (if a then b else false) ≡ true → (a ≡ true) × (b ≡ true)
both-pass true b e = (refl, e)
both-pass false b e = cc

tag-inside : (text : List ℕ) → is_tag text ≡ true → list_all reading.is_inside_line text ≡ true
tag-inside [] h = refl
tag-inside (c ∷ text) h =
    let both = both-pass (is_word_byte c) (list_all is_word_byte text) h in
    and_from (reading.is_inside_line c) (list_all reading.is_inside_line text) (word-inside c both.0) (words-inside text both.1)

unit-inside : (text : List ℕ) → is_unit_name text ≡ true → list_all reading.is_inside_line text ≡ true
unit-inside [] h = refl
unit-inside (c ∷ text) h =
    let first = both-pass (is_ascii_alphabetic c) (if list_all is_word_byte text then nat_lt (length text) 16 else false) h in
    let rest = both-pass (list_all is_word_byte text) (nat_lt (length text) 16) first.1 in
    and_from (reading.is_inside_line c) (list_all reading.is_inside_line text) (letter-inside c first.0) (words-inside text rest.0)

-- the parts of a note end no line

numbered-inside : (label : List ℕ) (number : Option ℕ) → list_all reading.is_inside_line label ≡ true → list_all reading.is_inside_line (numbered label number) ≡ true
numbered-inside label None h = refl
numbered-inside label (Some n) h = all-append label (decimal n) h (decimal-inside n)

unit-told : (unit : Option (List ℕ)) → is_right_unit unit ≡ true → list_all reading.is_inside_line (named (codes " u=") unit) ≡ true
unit-told None h = refl
unit-told (Some text) h = all-append (codes " u=") text refl (unit-inside text h)

tag-told : (tags : List (List ℕ)) (k : ℕ) → list_all is_tag tags ≡ true → list_all reading.is_inside_line (named (codes " mem=") (slice_get tags k)) ≡ true
tag-told [] k h = refl
tag-told (tag ∷ tags) zero h = all-append (codes " mem=") tag refl (tag-inside tag (and_parts (is_tag tag) (list_all is_tag tags) h).0)
tag-told (tag ∷ tags) (suc k) h = tag-told tags k (and_parts (is_tag tag) (list_all is_tag tags) h).1

some-tag-told : (tags : List (List ℕ)) (tag : Option ℕ) → list_all is_tag tags ≡ true → list_all reading.is_inside_line (named (codes " mem=") (tag_name tags tag)) ≡ true
some-tag-told tags None h = refl
some-tag-told tags (Some k) h = tag-told tags k h

word-told : (says : Bool) (word : List ℕ) → list_all reading.is_inside_line word ≡ true → list_all reading.is_inside_line (word_if says word) ≡ true
word-told true word h = h
word-told false word h = refl

note-inside : (tags : List (List ℕ)) (note : NoteValue) (i : Instr) → list_all is_tag tags ≡ true → is_right_unit note.unit ≡ true → list_all reading.is_inside_line (item_note tags note i) ≡ true
note-inside tags note i names unit =
    all-append (numbered (codes "i=") note.item) (named (codes " u=") note.unit ++ (numbered (codes " c=") note.cycle ++ ((codes " line=" ++ decimal note.line) ++ marks_note tags i)))
    (numbered-inside (codes "i=") note.item refl)
    (all-append (named (codes " u=") note.unit) (numbered (codes " c=") note.cycle ++ ((codes " line=" ++ decimal note.line) ++ marks_note tags i)) (unit-told note.unit unit)
    (all-append (numbered (codes " c=") note.cycle) ((codes " line=" ++ decimal note.line) ++ marks_note tags i) (numbered-inside (codes " c=") note.cycle refl)
    (all-append (codes " line=" ++ decimal note.line) (marks_note tags i) (all-append (codes " line=") (decimal note.line) refl (decimal-inside note.line))
    (all-append (named (codes " mem=") (tag_name tags i.tag)) (word_if i.early (codes " may_early") ++ word_if i.late (codes " may_late")) (some-tag-told tags i.tag names)
    (all-append (word_if i.early (codes " may_early")) (word_if i.late (codes " may_late")) (word-told i.early (codes " may_early") refl) (word-told i.late (codes " may_late") refl))))))

-- Each line spells its item, where words spell it without names.
pub all-printed : (language : Language) (comments : Comments) (pairs : List Pair) (tags : List (List ℕ)) (items : List Instr) (notes : List NoteValue)
    → IsLanguage language → AreSpelled language [] items → list_all is_tag tags ≡ true → list_all (λ (note : NoteValue). is_right_unit note.unit) notes ≡ true
    → AllByRecursion (reading.IsPrinted language comments) (entries (language.printed pairs) tags items notes)
unfolding entries
all-printed language comments pairs tags [] notes lawful spelled names units = tt
all-printed language comments pairs tags (i ∷ items) [] lawful spelled names units = tt
all-printed language comments pairs tags (i ∷ items) (note ∷ notes) lawful spelled names units =
    let both = and_parts (is_right_unit note.unit) (list_all (λ (other : NoteValue). is_right_unit other.unit) notes) units in
    let same : language.printed pairs i ≡ language.printed [] (unmarked i) = spelled-printed language pairs i lawful spelled.0 in (
      record {
        text = ap (list_all is_no_feed) same ∙ lawful.one_line [] spelled.0.words (unmarked i) spelled.0.known spelled.0.read;
        note = note-inside tags note i names both.0;
        spelled =
            subst (λ text. IsSpelledAt language [] comments text 8 (codes " // @slothy:" ++ item_note tags note i) (unmarked i)) (sym same)
            (lawful.again [] spelled.0.words (unmarked i) spelled.0.known spelled.0.read comments 8 (codes " // @slothy:" ++ item_note tags note i) refl);
      },
      all-printed language comments pairs tags items notes lawful spelled.1 names both.1,
    )

-- there is a line for each item, which it spells

pub length-entries : (printed : Instr → List ℕ) (tags : List (List ℕ)) (items : List Instr) (notes : List NoteValue) → length notes ≡ length items → length (entries printed tags items notes) ≡ length items
unfolding entries
length-entries printed tags [] notes n = refl
length-entries printed tags (i ∷ items) [] n = absurd (omega arith)
length-entries printed tags (i ∷ items) (note ∷ notes) n = ap suc (length-entries printed tags items notes (omega arith))

pub entries-unmarked : (printed : Instr → List ℕ) (tags : List (List ℕ)) (items : List Instr) (notes : List NoteValue) → length notes ≡ length items
    → map unmarked (reading.printed_items (entries printed tags items notes)) ≡ map unmarked items
unfolding entries
entries-unmarked printed tags [] notes e = refl
entries-unmarked printed tags (i ∷ items) [] e = absurd (omega arith)
entries-unmarked printed tags (i ∷ items) (note ∷ notes) e = ap (λ more. unmarked i ∷ more) (entries-unmarked printed tags items notes (omega arith))
