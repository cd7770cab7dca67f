-- The words of a printed note, and what they say.
use Rattle.std.proofs.Common.{◌≡◌, ℕ, ◌+◌, ◌<◌, ◌^◌, ◌%◌, if◌then◌else◌, Bool, true, false, not, ◌&&◌, cond, nat_lt, Option, None, Some, is_some, List, [], ◌∷◌, ◌++◌, length, map, filter, codes, refl, ap, ◌∙◌, arith, lt-ltb, append-nil}
use Rattle.std.specs.Fmt.{decimal}
use Rattle.std.specs.List.{list_all, slice_split, onto_first}
use Rattle.std.proofs.lemmas.Bool.{and_from, and_parts, not-true}
use Rattle.std.proofs.lemmas.List.Folds.{list_all-append}
use Rattle.sl_model.specs.Digits.{decimal_number}
use Rattle.sl_model.specs.OptionSteps.{◌>>=◌}
use Rattle.sl_model.specs.Text.{is_blank}
use Rattle.sl_laws.proofs.Digits.{decimal-is_read}
use Rattle.asm_reader.specs.Notes.{Word, Remark, of_item, of_region, words_in, word_of, is_some_text, is_number_text, is_tag, is_item_word, all_named_once, says, remark_of, words_said, value_of, note_said, tag_in, mask_in}
use Rattle.sl_model.specs.Digits.{digits_number}
use Rattle.sl_model.specs.Token.{is_word_byte, is_unit_name}
use Rattle.std.specs.Char.{is_ascii_alphabetic}
use Rattle.std.proofs.lemmas.Fmt.{decimal_by_steps}
use Rattle.std.proofs.lemmas.Bool.Decides.{nat_tests}
use Rattle.asm_reader.specs.Drafts.{may_say}
use Rattle.asm_reader.specs.Regions.{is_right_unit}
use Rattle.asm_printer.proofs.Entries.{both-pass}
use Rattle.asm_printer.specs.declared.plan.Head.{Head}
use Rattle.asm_printer.specs.Printed.{head_note, numbered, named, word_if, fits, is_whole_head}

-- ---- a text is cut at its blanks

-- Is a byte no blank?
abbrev pub is_plain : ℕ → Bool
is_plain c = not (is_blank c)

split_last : (a : List ℕ) → list_all is_plain a ≡ true → slice_split is_blank a ≡ a ∷ []
split_last [] h = refl
split_last (c ∷ a) h =
    let both = and_parts (is_plain c) (list_all is_plain a) h in
    ap (λ b. cond b ([] ∷ slice_split is_blank a) (onto_first c (slice_split is_blank a))) (not-true (is_blank c) both.0) ∙ ap (onto_first c) (split_last a both.1)

split_at : (a rest : List ℕ) → list_all is_plain a ≡ true → slice_split is_blank (a ++ 32 ∷ rest) ≡ a ∷ slice_split is_blank rest
split_at [] rest h = refl
split_at (c ∷ a) rest h =
    let both = and_parts (is_plain c) (list_all is_plain a) h in
    let more = slice_split is_blank (a ++ 32 ∷ rest) in
    ap (λ b. cond b ([] ∷ more) (onto_first c more)) (not-true (is_blank c) both.0) ∙ ap (onto_first c) (split_at a rest both.1)

-- a first word, and the others behind a blank
words_at : (c : ℕ) (a rest : List ℕ) → list_all is_plain (c ∷ a) ≡ true → words_in ((c ∷ a) ++ 32 ∷ rest) ≡ word_of (c ∷ a) ∷ words_in rest
words_at c a rest h = ap (λ texts. map word_of (filter is_some_text texts)) (split_at (c ∷ a) rest h)

words_last : (c : ℕ) (a : List ℕ) → list_all is_plain (c ∷ a) ≡ true → words_in (c ∷ a) ≡ word_of (c ∷ a) ∷ []
words_last c a h = ap (λ texts. map word_of (filter is_some_text texts)) (split_last (c ∷ a) h)

-- ---- the words of an instruction

-- a word with a value
abbrev pub valued : List ℕ → List ℕ → Word
valued name value = record { name = name; value = Some value }

-- and one without
abbrev pub flag : List ℕ → Word
flag name = record { name = name; value = None }

-- a word is one with a value, where a byte stands behind the name
value_there : (name value : List ℕ) (n m : ℕ) → n < m → record { name = name; value = cond (nat_lt n m) (Some value) None } ≡ valued name value
value_there name value n m h = ap (λ b. record { name = name; value = cond b (Some value) None }) (lt-ltb n m h)

word_i : (value : List ℕ) → word_of (codes "i=" ++ value) ≡ valued (codes "i") value
word_i value = value_there (codes "i") value 1 (length (codes "i=" ++ value)) (omega arith)

word_u : (value : List ℕ) → word_of (codes "u=" ++ value) ≡ valued (codes "u") value
word_u value = value_there (codes "u") value 1 (length (codes "u=" ++ value)) (omega arith)

word_c : (value : List ℕ) → word_of (codes "c=" ++ value) ≡ valued (codes "c") value
word_c value = value_there (codes "c") value 1 (length (codes "c=" ++ value)) (omega arith)

word_line : (value : List ℕ) → word_of (codes "line=" ++ value) ≡ valued (codes "line") value
word_line value = value_there (codes "line") value 4 (length (codes "line=" ++ value)) (omega arith)

word_mem : (value : List ℕ) → word_of (codes "mem=" ++ value) ≡ valued (codes "mem") value
word_mem value = value_there (codes "mem") value 3 (length (codes "mem=" ++ value)) (omega arith)

-- the words of a tag and of marks
abbrev pub tag_words : Option (List ℕ) → List Word → List Word
tag_words None words = words
tag_words (Some name) words = valued (codes "mem") name ∷ words

abbrev pub flag_words : Bool → Bool → List Word
flag_words true late = flag (codes "may_early") ∷ []
flag_words false true = flag (codes "may_late") ∷ []
flag_words false false = []

abbrev pub all_words : List ℕ → List ℕ → List ℕ → List ℕ → Option (List ℕ) → Bool → Bool → List Word
all_words item unit cycle line tag early late =
    valued (codes "i") item ∷ valued (codes "u") unit ∷ valued (codes "c") cycle ∷ valued (codes "line") line ∷ tag_words tag (flag_words early late)

-- Has no tag a blank?
abbrev pub plain_tag : Option (List ℕ) → Bool
plain_tag None = true
plain_tag (Some name) = list_all is_plain name

words_flags : (c : ℕ) (a : List ℕ) (early late : Bool) → list_all is_plain (c ∷ a) ≡ true → early && late ≡ false
    → words_in ((c ∷ a) ++ (word_if early (codes " may_early") ++ word_if late (codes " may_late"))) ≡ word_of (c ∷ a) ∷ flag_words early late
words_flags c a true true h e = cc
words_flags c a true false h e = words_at c a (codes "may_early") h
words_flags c a false true h e = words_at c a (codes "may_late") h
words_flags c a false false h e = ap words_in (append-nil (c ∷ a)) ∙ words_last c a h

words_marks : (c : ℕ) (a : List ℕ) (tag : Option (List ℕ)) (early late : Bool) → list_all is_plain (c ∷ a) ≡ true → plain_tag tag ≡ true → early && late ≡ false
    → words_in ((c ∷ a) ++ (named (codes " mem=") tag ++ (word_if early (codes " may_early") ++ word_if late (codes " may_late")))) ≡ word_of (c ∷ a) ∷ tag_words tag (flag_words early late)
words_marks c a None early late h k e = words_flags c a early late h e
words_marks c a (Some name) early late h k e =
    words_at c a (codes "mem=" ++ (name ++ (word_if early (codes " may_early") ++ word_if late (codes " may_late")))) h
    ∙ ap (λ words. word_of (c ∷ a) ∷ words) (words_flags 109 (codes "em=" ++ name) early late k e)
    ∙ ap (λ word. word_of (c ∷ a) ∷ word ∷ flag_words early late) (word_mem name)

-- the words of the text of a note
pub note_words : (item unit cycle line : List ℕ) (tag : Option (List ℕ)) (early late : Bool) → list_all is_plain item ≡ true → list_all is_plain unit ≡ true → list_all is_plain cycle ≡ true
    → list_all is_plain line ≡ true → plain_tag tag ≡ true → early && late ≡ false
    → words_in ((codes "i=" ++ item) ++ ((codes " u=" ++ unit) ++ ((codes " c=" ++ cycle) ++ ((codes " line=" ++ line) ++ (named (codes " mem=") tag ++ (word_if early (codes " may_early") ++ word_if late (codes " may_late")))))))
    ≡ all_words item unit cycle line tag early late
note_words item unit cycle line tag early late plain_item plain_unit plain_cycle plain_line plain e =
    let marks : List ℕ = named (codes " mem=") tag ++ (word_if early (codes " may_early") ++ word_if late (codes " may_late")) in
    words_at 105 (61 ∷ item) ((codes "u=" ++ unit) ++ ((codes " c=" ++ cycle) ++ ((codes " line=" ++ line) ++ marks))) plain_item
    ∙ ap (λ words. word_of (codes "i=" ++ item) ∷ words) (
    words_at 117 (61 ∷ unit) ((codes "c=" ++ cycle) ++ ((codes " line=" ++ line) ++ marks)) plain_unit
    ∙ ap (λ words. word_of (codes "u=" ++ unit) ∷ words) (
    words_at 99 (61 ∷ cycle) ((codes "line=" ++ line) ++ marks) plain_cycle
    ∙ ap (λ words. word_of (codes "c=" ++ cycle) ∷ words) (words_marks 108 (codes "ine=" ++ line) tag early late plain_line plain e)))
    ∙ (λ k. word_i item k ∷ word_u unit k ∷ word_c cycle k ∷ word_line line k ∷ tag_words tag (flag_words early late))

-- Is a tag one, where there is one?
abbrev pub right_tag : Option (List ℕ) → Bool
right_tag None = true
right_tag (Some name) = is_tag name

-- What they say of an instruction.
pub words_say : (number : ℕ) (item unit cycle line : List ℕ) (tag : Option (List ℕ)) (early late : Bool) → is_number_text item ≡ true → is_unit_name unit ≡ true → is_number_text cycle ≡ true
    → is_number_text line ≡ true → right_tag tag ≡ true → early && late ≡ false
    → words_said number (all_words item unit cycle line tag early late) ≡ Some (of_item (remark_of number (all_words item unit cycle line tag early late)))
unfolding all_named_once
words_say number item unit cycle line tag early late hi hu hc hl ht e =
    let marks = tag_words tag (flag_words early late) in
    let words = all_words item unit cycle line tag early late in
    ap (λ b. cond (b && all_named_once words) (cond (says (codes "may_early") words && says (codes "may_late") words) None (Some (of_item (remark_of number words)))) None)
    (ap (λ b. b && (is_unit_name unit && (is_number_text cycle && (is_number_text line && list_all is_item_word marks)))) hi
    ∙ ap (λ b. b && (is_number_text cycle && (is_number_text line && list_all is_item_word marks))) hu
    ∙ ap (λ b. b && (is_number_text line && list_all is_item_word marks)) hc
    ∙ ap (λ b. b && list_all is_item_word marks) hl
    ∙ marks_right tag early late ht)
    ∙ once tag early late e
  where
    marks_right : (tag : Option (List ℕ)) (early late : Bool) → right_tag tag ≡ true → list_all is_item_word (tag_words tag (flag_words early late)) ≡ true
    marks_right None true late h = refl
    marks_right None false true h = refl
    marks_right None false false h = refl
    marks_right (Some name) true late h = ap (λ b. b && true) h
    marks_right (Some name) false true h = ap (λ b. b && true) h
    marks_right (Some name) false false h = ap (λ b. b && true) h

    once : (tag : Option (List ℕ)) (early late : Bool) → early && late ≡ false
        → (let words = all_words item unit cycle line tag early late in
        cond (all_named_once words) (cond (says (codes "may_early") words && says (codes "may_late") words) None (Some (of_item (remark_of number words)))) None ≡ Some (of_item (remark_of number words)))
    once None true late e = refl
    once None false true e = refl
    once None false false e = refl
    once (Some name) true late e = refl
    once (Some name) false true e = refl
    once (Some name) false false e = refl

-- ---- what is plain

plain-append : (xs ys : List ℕ) → list_all is_plain xs ≡ true → list_all is_plain ys ≡ true → list_all is_plain (xs ++ ys) ≡ true
plain-append xs ys h k = list_all-append is_plain xs ys ∙ and_from (list_all is_plain xs) (list_all is_plain ys) h k

digit_plain : (d : ℕ) → d < 10 → is_plain (48 + d) ≡ true
digit_plain d h = grind (arith, nat_tests)

one_plain : (d : ℕ) → d < 10 → list_all is_plain ((48 + d) ∷ []) ≡ true
one_plain d h = ap (λ b. b && true) (digit_plain d h)

decimal_plain : (n : ℕ) → n < 2 ^ 64 → list_all is_plain (decimal n) ≡ true
decimal_plain n h = decimal_by_steps (λ n ds. list_all is_plain ds ≡ true) one_plain (λ n ds big p. plain-append ds ((48 + n % 10) ∷ []) p (one_plain (n % 10) (omega arith))) n h

word_plain : (c : ℕ) → is_word_byte c ≡ true → is_plain c ≡ true
word_plain c h = grind (arith, nat_tests)

letter_plain : (c : ℕ) → is_ascii_alphabetic c ≡ true → is_plain c ≡ true
letter_plain c h = grind (arith, nat_tests)

all_plain : (text : List ℕ) → list_all is_word_byte text ≡ true → list_all is_plain text ≡ true
all_plain [] h = refl
all_plain (c ∷ text) h =
    let both = and_parts (is_word_byte c) (list_all is_word_byte text) h in
    and_from (is_plain c) (list_all is_plain text) (word_plain c both.0) (all_plain text both.1)

tag_plain : (tag : Option (List ℕ)) → right_tag tag ≡ true → plain_tag tag ≡ true
tag_plain None h = refl
tag_plain (Some []) h = cc
tag_plain (Some (c ∷ text)) h =
    let both = both-pass (is_word_byte c) (list_all is_word_byte text) h in
    and_from (is_plain c) (list_all is_plain text) (word_plain c both.0) (all_plain text both.1)

unit_plain : (text : List ℕ) → is_unit_name text ≡ true → list_all is_plain text ≡ true
unit_plain [] h = refl
unit_plain (c ∷ text) h =
    let both = both-pass (is_ascii_alphabetic c) (if list_all is_word_byte text then nat_lt (length text) 16 else false) h in
    and_from (is_plain c) (list_all is_plain text) (letter_plain c both.0) (all_plain text (both-pass (list_all is_word_byte text) (nat_lt (length text) 16) both.1).0)

number_text : (n : ℕ) → n < 2 ^ 64 → is_number_text (decimal n) ≡ true
number_text n h =
    let wide : n < 2 ^ 128 = omega arith in
    ap (λ o. is_some (o >>= λ n. if nat_lt n (2 ^ 128) then Some n else None)) (decimal-is_read n h)
    ∙ ap (λ b. is_some (if b then Some n else None)) (lt-ltb n (2 ^ 128) wide)

-- ---- the notes

pub lt_from : (n most : ℕ) → nat_lt n most ≡ true → n < most
lt_from n most h = grind (arith, nat_tests)

-- What a note says of an instruction, on each line, and that it may say it.
pub record IsSaid (accesses : Bool) (note : List ℕ) : Type 0 where
  pub remark : ℕ → Remark
  pub said : (line : ℕ) → note_said line note ≡ Some (of_item (remark line))
  pub allowed : (line : ℕ) → may_say accesses (Some (of_item (remark line))) ≡ true
  pub same : (line n : ℕ) → remark (line + n) ≡ record (remark line) { told = record (remark line).told { line = (remark line).told.line + n } }

tag_allowed : (accesses : Bool) (number : ℕ) (item unit cycle line : List ℕ) (tag : Option (List ℕ)) (early late : Bool) → (is_some tag ≡ true → accesses ≡ true)
    → may_say accesses (Some (of_item (remark_of number (all_words item unit cycle line tag early late)))) ≡ true
unfolding value_of
tag_allowed accesses number item unit cycle line None true late h = refl
tag_allowed accesses number item unit cycle line None false true h = refl
tag_allowed accesses number item unit cycle line None false false h = refl
tag_allowed accesses number item unit cycle line (Some name) early late h =
    ap (λ b. if is_some (tag_in (all_words item unit cycle line (Some name) early late)) then b else true) (h refl)
    ∙ either (is_some (tag_in (all_words item unit cycle line (Some name) early late)))
  where
    either : (b : Bool) → (if b then true else true) ≡ true
    either true = refl
    either false = refl

-- The note of an instruction says something of it.
pub note-said : (accesses : Bool) (item : Option ℕ) (unit : Option (List ℕ)) (cycle : Option ℕ) (line : ℕ) (tag : Option (List ℕ)) (early late : Bool) → fits item ≡ true → is_some unit ≡ true
    → is_right_unit unit ≡ true → fits cycle ≡ true → line < 2 ^ 64 → right_tag tag ≡ true → early && late ≡ false → (is_some tag ≡ true → accesses ≡ true)
    → IsSaid accesses (numbered (codes "i=") item ++ (named (codes " u=") unit ++ (numbered (codes " c=") cycle ++ ((codes " line=" ++ decimal line) ++ (named (codes " mem=") tag ++ (word_if early (codes " may_early") ++ word_if late (codes " may_late")))))))
unfolding note_said
note-said accesses None unit cycle line tag early late hi some hu hc hl ht e may = cc
note-said accesses (Some item) None cycle line tag early late hi some hu hc hl ht e may = cc
note-said accesses (Some item) (Some unit) None line tag early late hi some hu hc hl ht e may = cc
note-said accesses (Some item) (Some unit) (Some cycle) line tag early late hi some hu hc hl ht e may =
    let small_item : item < 2 ^ 64 = lt_from item (2 ^ 64) hi in
    let small_cycle : cycle < 2 ^ 64 = lt_from cycle (2 ^ 64) hc in
    record {
      remark = λ number. remark_of number (all_words (decimal item) unit (decimal cycle) (decimal line) tag early late);
      said = λ number.
          ap (words_said number)
          (note_words (decimal item) unit (decimal cycle) (decimal line) tag early late (decimal_plain item small_item) (unit_plain unit hu) (decimal_plain cycle small_cycle)
          (decimal_plain line hl) (tag_plain tag ht) e)
          ∙ words_say number (decimal item) unit (decimal cycle) (decimal line) tag early late (number_text item small_item) hu (number_text cycle small_cycle) (number_text line hl) ht e;
      allowed = λ number. tag_allowed accesses number (decimal item) unit (decimal cycle) (decimal line) tag early late may;
      same = λ number n. refl;
    }

-- ---- the note of the region

word_n : (value : List ℕ) → word_of (codes "n=" ++ value) ≡ valued (codes "n") value
word_n value = value_there (codes "n") value 1 (length (codes "n=" ++ value)) (omega arith)

word_cycles : (value : List ℕ) → word_of (codes "cycles=" ++ value) ≡ valued (codes "cycles") value
word_cycles value = value_there (codes "cycles") value 6 (length (codes "cycles=" ++ value)) (omega arith)

word_stalls : (value : List ℕ) → word_of (codes "stalls=" ++ value) ≡ valued (codes "stalls") value
word_stalls value = value_there (codes "stalls") value 6 (length (codes "stalls=" ++ value)) (omega arith)

one_text : is_number_text (codes "1") ≡ true
unfolding decimal_number digits_number
one_text = refl

abbrev pub region_words : List ℕ → List ℕ → List ℕ → List Word
region_words n cycles stalls =
    valued (codes "v") (codes "1") ∷ valued (codes "kind") (codes "straight") ∷ valued (codes "n") n ∷ valued (codes "cycles") cycles ∷ valued (codes "stalls") stalls ∷ []

head_words : (n cycles stalls : List ℕ) → list_all is_plain n ≡ true → list_all is_plain cycles ≡ true → list_all is_plain stalls ≡ true
    → words_in (codes "region v=1 kind=straight n=" ++ (n ++ (codes " cycles=" ++ (cycles ++ (codes " stalls=" ++ stalls))))) ≡ flag (codes "region") ∷ region_words n cycles stalls
head_words n cycles stalls hn hc hs =
    ap (λ words. flag (codes "region") ∷ valued (codes "v") (codes "1") ∷ valued (codes "kind") (codes "straight") ∷ words)
    (words_at 110 (61 ∷ n) (codes "cycles=" ++ (cycles ++ (codes " stalls=" ++ stalls))) hn
    ∙ ap (λ words. word_of (codes "n=" ++ n) ∷ words)
    (words_at 99 (codes "ycles=" ++ cycles) (codes "stalls=" ++ stalls) hc
    ∙ ap (λ words. word_of (codes "cycles=" ++ cycles) ∷ words) (words_last 115 (codes "talls=" ++ stalls) hs))
    ∙ (λ k. word_n n k ∷ word_cycles cycles k ∷ word_stalls stalls k ∷ []))

region_say : (number : ℕ) (n cycles stalls : List ℕ) → is_number_text n ≡ true → is_number_text cycles ≡ true → is_number_text stalls ≡ true
    → words_said number (flag (codes "region") ∷ region_words n cycles stalls) ≡ Some (of_region (mask_in (region_words n cycles stalls)))
unfolding all_named_once
region_say number n cycles stalls hn hc hs =
    ap (λ b. cond (b && all_named_once (region_words n cycles stalls)) (Some (of_region (mask_in (region_words n cycles stalls)))) None)
    (ap (λ b. b && (is_number_text n && (is_number_text cycles && (is_number_text stalls && true)))) one_text
    ∙ ap (λ b. b && (is_number_text cycles && (is_number_text stalls && true))) hn
    ∙ ap (λ b. b && (is_number_text stalls && true)) hc
    ∙ ap (λ b. b && true) hs)

-- The first line says something of the region.
pub head-said : (head : Head) → is_whole_head head ≡ true → (mask : ℕ) × ((number : ℕ) → note_said number (codes "region" ++ head_note head) ≡ Some (of_region mask))
unfolding note_said
head-said head h =
    let first = and_parts (nat_lt head.items (2 ^ 64)) (nat_lt head.cycles (2 ^ 64) && nat_lt head.stalls (2 ^ 64)) h in
    let second = and_parts (nat_lt head.cycles (2 ^ 64)) (nat_lt head.stalls (2 ^ 64)) first.1 in
    let n : head.items < 2 ^ 64 = lt_from head.items (2 ^ 64) first.0 in
    let cycles : head.cycles < 2 ^ 64 = lt_from head.cycles (2 ^ 64) second.0 in
    let stalls : head.stalls < 2 ^ 64 = lt_from head.stalls (2 ^ 64) second.1 in (
      mask_in (region_words (decimal head.items) (decimal head.cycles) (decimal head.stalls)),
      λ number. ap (words_said number) (head_words (decimal head.items) (decimal head.cycles) (decimal head.stalls) (decimal_plain head.items n) (decimal_plain head.cycles cycles) (decimal_plain head.stalls stalls))
          ∙ region_say number (decimal head.items) (decimal head.cycles) (decimal head.stalls) (number_text head.items n) (number_text head.cycles cycles) (number_text head.stalls stalls),
    )
