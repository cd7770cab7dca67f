-- What a note says, which is a comment that begins with `// @slothy:`. Source: this project's own
-- format.
use Rattle.std.specs.Prelude.{ℕ, ◌+◌, ◌^◌, ◌==◌, ◌&&◌, Bool, true, false, not, nat_lt, nat_le, List, [], ◌∷◌, length, take, drop, map, filter, codes, is_some, Option, None, Some, if◌then◌else◌}
use Rattle.std.specs.List.{list_any, list_all, prefix_len, slice_split}
use Rattle.std.specs.Str.{str_eq_ignore_ascii_case}
use Rattle.sl_model.specs.Digits.{decimal_number}
use Rattle.sl_model.specs.OptionSteps.{◌>>=◌}
use Rattle.sl_model.specs.Text.{is_blank}
use Rattle.sl_model.specs.Token.{is_word_byte, is_unit_name}
use Rattle.asm_reader.specs.declared.words.Shape.{Shape}
use Rattle.asm_reader.specs.declared.words.Shape.TheVariants as shapes
use Rattle.asm_reader.specs.declared.words.Part.{Part}
use Rattle.asm_reader.specs.declared.words.Part.TheVariants as parts

-- ---- the words of a note

-- A word: its name, and what stands behind its first `=`, where one does.
pub record Word : Type 0 where
  pub name : List ℕ
  pub value : Option (List ℕ)

-- how many bytes stand before the first `=`
abbrev pub name_length : List ℕ → ℕ
name_length text = prefix_len (λ c. not (c == 61)) text

-- a text as a word
abbrev pub word_of : List ℕ → Word
word_of text = record {
  name = take (name_length text) text;
  value =
      if nat_lt (name_length text) (length text) then Some (drop (name_length text + 1) text)
      else None;
}

-- Does something stand in a text?
abbrev pub is_some_text : List ℕ → Bool
is_some_text [] = false
is_some_text (c ∷ text) = true

-- the words of a text, which blanks separate
abbrev pub words_in : List ℕ → List Word
words_in text = map word_of (filter is_some_text (slice_split is_blank text))

-- Is a text another one, in letters of either case?
abbrev pub is_same : List ℕ → List ℕ → Bool
is_same other text = str_eq_ignore_ascii_case text other

-- Is a text one of some, in letters of either case?
abbrev pub is_among : List (List ℕ) → List ℕ → Bool
is_among texts text = list_any (str_eq_ignore_ascii_case text) texts

-- Has a word this name, in letters of either case?
abbrev pub is_named : List ℕ → Word → Bool
is_named name word = is_same name word.name

-- ---- which words there are

-- a tag: letters, digits or `_`
abbrev pub is_tag : List ℕ → Bool
is_tag [] = false
is_tag (c ∷ text) = if is_word_byte c then list_all is_word_byte text else false

-- a decimal number of at most 128 bits
abbrev pub is_number_text : List ℕ → Bool
is_number_text text = is_some (decimal_number text >>= λ n. if nat_lt n (2 ^ 128) then Some n else None)

-- the parts of a printed region that have words of their own
abbrev pub part_names : List (List ℕ)
part_names = codes "pre" ∷ codes "dec" ∷ codes "post" ∷ []

-- the kinds of a region
abbrev pub kind_names : List (List ℕ)
kind_names = codes "straight" ∷ codes "loop" ∷ []

-- Is a text what stands behind a word's `=`, where it has this shape?
abbrev pub suits : Shape → List ℕ → Bool
suits shapes.Flag text = false
suits shapes.Number text = is_number_text text
suits shapes.Tag text = is_tag text
suits shapes.Unit text = is_unit_name text
suits shapes.Part text = is_among part_names text
suits shapes.Kind text = is_among kind_names text

-- Is a word without `=` one of this shape?
abbrev pub is_flag : Shape → Bool
is_flag shapes.Flag = true
is_flag shapes.Number = false
is_flag shapes.Tag = false
is_flag shapes.Unit = false
is_flag shapes.Part = false
is_flag shapes.Kind = false

-- Has a word the shape of its name, if there is one?
abbrev pub has_shape : Option Shape → Option (List ℕ) → Bool
has_shape None value = false
has_shape (Some shape) None = is_flag shape
has_shape (Some shape) (Some text) = suits shape text

-- the numbers of an instruction
abbrev pub item_numbers : List (List ℕ)
item_numbers = codes "i" ∷ codes "c" ∷ codes "line" ∷ []

-- the marks of an instruction
abbrev pub item_marks : List (List ℕ)
item_marks = codes "may_early" ∷ codes "may_late" ∷ []

-- the shape of a word that says something of an instruction, by its name
abbrev pub item_shape : List ℕ → Option Shape
item_shape name =
    if is_among item_numbers name then Some shapes.Number
    else (if is_among item_marks name then Some shapes.Flag
    else (if is_same (codes "mem") name then Some shapes.Tag
    else (if is_same (codes "u") name then Some shapes.Unit
    else (if is_same (codes "part") name then Some shapes.Part else None))))

-- the numbers of a region
abbrev pub region_numbers : List (List ℕ)
region_numbers =
    codes "v" ∷ codes "n" ∷ codes "cycles" ∷ codes "stalls" ∷ codes "least" ∷ codes "early" ∷ []

-- the shape of a word that says something of a region, by its name
abbrev pub region_shape : List ℕ → Option Shape
region_shape name =
    if is_among region_numbers name then Some shapes.Number
    else (if is_same (codes "kind") name then Some shapes.Kind else None)

-- Is a word one that says something of an instruction?
abbrev pub is_item_word : Word → Bool
is_item_word word = has_shape (item_shape word.name) word.value

-- Is it one that says something of a region?
abbrev pub is_region_word : Word → Bool
is_region_word word = has_shape (region_shape word.name) word.value

-- Have some words names that differ, in letters of either case?
unfoldable pub all_named_once : List Word → Bool
all_named_once [] = true
all_named_once (word ∷ words) =
    if list_any (is_named word.name) words then false else all_named_once words

-- ---- what words say

-- the value of the first word of a name
unfoldable pub value_of : List ℕ → List Word → Option (List ℕ)
value_of name [] = None
value_of name (word ∷ words) = if is_named name word then word.value else value_of name words

-- Does a word of a name stand among some?
abbrev pub says : List ℕ → List Word → Bool
says name words = list_any (is_named name) words

-- a text as a tag, where it is one
abbrev pub tag_from : List ℕ → Option (List ℕ)
tag_from text = if is_tag text then Some text else None

-- a text as the name of a unit, where it is one
abbrev pub unit_from : List ℕ → Option (List ℕ)
unit_from text = if is_unit_name text then Some text else None

-- a number, and the greatest where it is above that
abbrev pub at_most : ℕ → ℕ → ℕ
at_most most n = if nat_le n most then n else most

-- the number of the word of a name, of which a field holds so much at most
abbrev pub number_in : ℕ → List ℕ → List Word → Option ℕ
number_in most name words = do
  text ← value_of name words
  n ← decimal_number text
  Some (at_most most n)

-- the part that a text names, and the plain one where none is named
abbrev pub part_of : Option (List ℕ) → Part
part_of None = parts.Plain
part_of (Some text) =
    if is_same (codes "pre") text then parts.Pre
    else (if is_same (codes "dec") text then parts.Dec else parts.Post)

-- What a printed region tells of an instruction: the old index, the unit, the
-- cycle, the part of the region, and the line that it stands on.
pub record NoteValue : Type 0 where
  pub item : Option ℕ
  pub unit : Option (List ℕ)
  pub cycle : Option ℕ
  pub part : Part
  pub line : ℕ

-- What is said of an instruction: its tag, whether it may run a turn
-- early or late, and the rest.
pub record Remark : Type 0 where
  pub tag : Option (List ℕ)
  pub early : Bool
  pub late : Bool
  pub told : NoteValue

-- the tag that words say
abbrev pub tag_in : List Word → Option (List ℕ)
tag_in words = value_of (codes "mem") words >>= tag_from

-- the unit that they say
abbrev pub unit_in : List Word → Option (List ℕ)
unit_in words = value_of (codes "u") words >>= unit_from

-- the old index, of 16 bits
abbrev pub item_in : List Word → Option ℕ
item_in words = number_in 65535 (codes "i") words

-- the cycle, of 32 bits
abbrev pub cycle_in : List Word → Option ℕ
cycle_in words = number_in 4294967295 (codes "c") words

-- what words say of an instruction on a line
abbrev pub remark_of : ℕ → List Word → Remark
remark_of line words = record {
  tag = tag_in words;
  early = says (codes "may_early") words;
  late = says (codes "may_late") words;
  told = record {
    item = item_in words;
    unit = unit_in words;
    cycle = cycle_in words;
    part = part_of (value_of (codes "part") words);
    line = line;
  };
}

-- the mask of early items that is said, and none where it isn't
abbrev pub mask_or : Option ℕ → ℕ
mask_or None = 0
mask_or (Some mask) = mask

-- the mask of early items, of 64 bits
abbrev pub mask_in : List Word → ℕ
mask_in words = mask_or (number_in 18446744073709551615 (codes "early") words)

-- What a note says: of an instruction, or of the region its mask of early items.
pub data Said : Type 0 where
  of_item : Remark → Said
  of_region : ℕ → Said

-- Is a word `region`?
abbrev pub begins_region : Word → Bool
begins_region word = is_named (codes "region") word && not (is_some word.value)

-- what words behind `region` say, where they are of a region, and none stands twice
abbrev pub region_said : List Word → Option Said
region_said words =
    if list_all is_region_word words && all_named_once words then
    Some (of_region (mask_in words))
    else None

-- what words say of an instruction on a line, where they are of one, none stands
-- twice, and it isn't both early and late
abbrev pub item_said : ℕ → List Word → Option Said
item_said line words =
    if list_all is_item_word words && all_named_once words then
    (if says (codes "may_early") words && says (codes "may_late") words then None
    else Some (of_item (remark_of line words)))
    else None

-- what the words of a note on a line say, where it is a right one
abbrev pub words_said : ℕ → List Word → Option Said
words_said line [] = Some (of_item (remark_of line []))
words_said line (word ∷ words) =
    if begins_region word then region_said words else item_said line (word ∷ words)

-- what a note on a line says, by the text behind `// @slothy:`
unfoldable pub note_said : ℕ → List ℕ → Option Said
note_said line text = words_said line (words_in text)
