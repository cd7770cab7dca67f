-- The rows of a printed region, as an expansion reads them.
use Rattle.std.proofs.Common.{◌≡◌, ℕ, suc, ◌+◌, ◌-◌, ◌≤◌, Bool, true, false, cond, not, List, [], ◌∷◌, ◌++◌, length, map, take, drop, codes, slice_range, Ok, refl, ap, sym, ◌∙◌, subst, arith, append_assoc}
use Rattle.std.specs.List.{list_all, enumerate_from, AllByRecursion}
use Rattle.std.specs.Str.{chars}
use Rattle.std.proofs.lemmas.Bool.{and_parts, and_from}
use Rattle.sl_model.specs.declared.instruction.Instr.{Instr}
use Rattle.sl_model.specs.declared.text.Comments.{Comments}
use Rattle.sl_model.specs.declared.text.TokenKind.{TokenKind}
use Rattle.sl_model.specs.declared.text.TokenKind.TheVariants.{Word, Number, Mark, Comment}
use Rattle.sl_model.specs.Text.{is_blank, numbered_lines, whole_lines, without_end}
use Rattle.sl_model.specs.Token.{Lexeme, first_token, lexeme, tokens, tokens_at, tokens_from}
use Rattle.sl_model.specs.TokenTests.{is_comment}
use Rattle.sl_isa.specs.Arch.{comments_of}
use Rattle.sl_isa.specs.Language.{Language, IsSpelledAt, is_instruction_token, is_of_instruction}
use Rattle.macro_expand.specs.Words.{divided, gap, words, without_gaps}
use Rattle.macro_expand.specs.Source.{What, Row, Statement, Note, Piece, bare, bared, each_parted, notes_in, on_line, parted, row, rows}
use Rattle.asm_printer.proofs.ForCallers.{IsLine, body_of, body_whole, head_of, head_tokens, head_whole, item_tokens, line_closed, line_comment, line_statements, line_text}
use Rattle.asm_printer.specs.Lines.{IsLineEnd, IsPrinted, Printed, is_inside_line, item_lines, region_lines}
use Rattle.in_place.specs.Clear.{IsStatement, begins_plain}
use Rattle.in_place.proofs.Tiled.{AreTiled, bared-line, no_comment, tiled-from}

-- ---- the words of a line

word-kind : (kind : TokenKind) (text : List ℕ) → is_of_instruction kind text ≡ true → not (is_comment kind) ≡ true
word-kind Word text e = refl
word-kind Number text e = refl
word-kind Mark text e = refl
word-kind Comment text e = cc

pub plain-words : (words : List Lexeme) → list_all is_instruction_token words ≡ true → list_all no_comment words ≡ true
plain-words [] plain = refl
plain-words (word ∷ words) plain =
    let both = and_parts (is_instruction_token word) (list_all is_instruction_token words) plain in
    and_from (no_comment word) (list_all no_comment words) (word-kind word.kind word.text both.0) (plain-words words both.1)

note-passed : (b : Bool) (found : Bool) (text : List ℕ) (rest : List (List ℕ)) → not b ≡ true → cond (cond b found false) (text ∷ rest) rest ≡ rest
note-passed true found text rest e = absurd cc
note-passed false found text rest e = refl

-- the note is the only one
last-note : (words : List Lexeme) (place : ℕ) (note : List ℕ) → list_all no_comment words ≡ true → notes_in (words ++ line_comment place (codes " @slothy:" ++ note) ∷ []) ≡ note ∷ []
unfolding notes_in
last-note [] place note plain = refl
last-note (word ∷ words) place note plain =
    let both = and_parts (no_comment word) (list_all no_comment words) plain in
    note-passed (is_comment word.kind) _ (drop 11 word.text) (notes_in (words ++ line_comment place (codes " @slothy:" ++ note) ∷ [])) both.0
    ∙ last-note words place note both.1

-- ---- where the words begin

-- where the first token begins
head_start : List Lexeme → ℕ
head_start [] = 0
head_start (token ∷ tokens) = token.start

pub first-start : (comments : Comments) (place : ℕ) (text behind : List ℕ) → begins_plain text ≡ true → (first : Lexeme) (more : List Lexeme) → tokens_at comments false place (text ++ behind) ≡ first ∷ more → first.start ≡ place
unfolding tokens_at tokens_from head_start
first-start comments place [] behind e first more is = absurd cc
first-start comments place (c ∷ text) behind e first more is =
    let whole = c ∷ (text ++ behind) in
    let rest = tokens_from comments (place + 1) ((first_token comments whole).1 - 1) (text ++ behind) in
    let blank : is_blank c ≡ false = plain-byte (is_blank c) e in
    sym (ap head_start is)
    ∙ ap (λ b. head_start (cond b (tokens_from comments (place + 1) 0 (text ++ behind)) (lexeme (first_token comments whole) place whole ∷ rest))) blank
  where
    plain-byte : (b : Bool) → not b ≡ true → b ≡ false
    plain-byte true e = absurd cc
    plain-byte false e = refl

-- ---- an instruction's line

tokens-tiled : (comments : Comments) (line : List ℕ) → AreTiled line 0 (tokens comments false line)
unfolding tokens_at
tokens-tiled comments line = tiled-from comments line [] line 0 0 refl refl

take-front : (text behind : List ℕ) → take (length text + 1) (text ++ 32 ∷ behind) ≡ text ++ 32 ∷ []
take-front [] behind = refl
take-front (c ∷ text) behind =
    let count : length (c ∷ text) + 1 ≡ suc (length text + 1) = omega arith in
    ap (λ n. take n (c ∷ (text ++ 32 ∷ behind))) count ∙ ap (λ l. c ∷ l) (take-front text behind)

-- the text and the blank behind it
text-cut : (text behind : List ℕ) → slice_range (codes "        " ++ (text ++ 32 ∷ behind)) 8 (8 + length text + 1) ≡ text ++ 32 ∷ []
text-cut text behind =
    let count : 8 + length text + 1 - 8 ≡ length text + 1 = omega arith in
    ap (λ n. take n (text ++ 32 ∷ behind)) count ∙ take-front text behind

-- what is left of the line is its text, a blank and a gap
line-bare : (line text behind : List ℕ) (words : List Lexeme) (last : Lexeme) → line ≡ codes "        " ++ (text ++ 32 ∷ behind) → AreTiled line 0 (words ++ last ∷ [])
    → list_all no_comment words ≡ true → is_comment last.kind ≡ true → last.start ≡ 8 + length text + 1
    → ((words ≡ []) → ⊥) → ((first : Lexeme) (more : List Lexeme) → words ≡ first ∷ more → first.start ≡ 8)
    → bare line (words ++ last ∷ []) ≡ text ++ 32 ∷ gap ∷ []
line-bare line text behind [] last is tiled plain comment place some begins = absurd (some refl)
line-bare line text behind (word ∷ words) last is tiled plain comment place some begins =
    let here : word.start ≤ word.start = omega arith in
    bared-line line word.start (word ∷ words) last (here, tiled.1, tiled.2) plain comment
    ∙ ap (λ n. slice_range line n last.start ++ gap ∷ []) (begins word words refl)
    ∙ ap (λ n. slice_range line 8 n ++ gap ∷ []) place
    ∙ ap (λ l. slice_range l 8 (8 + length text + 1) ++ gap ∷ []) is
    ∙ ap (λ l. l ++ gap ∷ []) (text-cut text behind)
    ∙ append_assoc text (32 ∷ []) (gap ∷ [])

-- what stands on the lines of instructions, of which the first has a number
unfoldable pub item_pieces : ℕ → List Printed → List Piece
item_pieces number [] = []
item_pieces number (first ∷ more) =
    on_line number Row ∷ on_line number (Statement first.text) ∷ on_line number (Note first.note) ∷ item_pieces (number + 1) more

-- what stands on the lines of a printed region
abbrev pub region_pieces : ℕ → List ℕ → List Printed → List Piece
region_pieces number note printed =
    on_line number Row ∷ on_line number (Statement []) ∷ on_line number (Note (codes "region" ++ note)) ∷ item_pieces (number + 1) printed

module _ (language : Language) (some : (i : Instr) → language.reads [] [] ≡ Ok i → ⊥) where
  abbrev comments : Comments
  comments = comments_of language.isa.name

  -- the words that spell an instruction are some
  spelled-some : (text note : List ℕ) (i : Instr) (spelled : IsSpelledAt language [] comments text 8 note i) → spelled.words ≡ [] → ⊥
  spelled-some text note i spelled none = some i (sym (ap (language.reads []) none) ∙ spelled.read)

  pub item-row : (printed : Printed) → IsPrinted language comments printed → IsStatement printed.text
      → row false (body_of printed) (tokens comments false (body_of printed)) ≡ Row ∷ Statement printed.text ∷ Note printed.note ∷ []
  unfolding each_parted item_tokens
  item-row printed are is =
      let line = body_of printed in
      let spelled = are.spelled in
      let found = item_tokens language language.isa.name printed.text printed.note printed.item spelled in
      let last = line_comment found.place (codes " @slothy:" ++ printed.note) in
      let plain = plain-words spelled.words spelled.plain in
      let tiled : AreTiled line 0 (spelled.words ++ last ∷ []) = subst (AreTiled line 0) found.tokens_are (tokens-tiled comments line) in
      let left : bare line (spelled.words ++ last ∷ []) ≡ printed.text ++ 32 ∷ gap ∷ [] =
      line-bare line printed.text (codes "// @slothy:" ++ printed.note) spelled.words last refl tiled plain refl refl
      (spelled-some printed.text (codes " // @slothy:" ++ printed.note) printed.item spelled)
      (λ first more e. first-start comments 8 printed.text (codes " // @slothy:" ++ printed.note) is.begins first
      (more ++ tokens_at comments false (8 + length printed.text) (codes " // @slothy:" ++ printed.note))
      (spelled.tokens ∙ ap (λ ws. ws ++ tokens_at comments false (8 + length printed.text) (codes " // @slothy:" ++ printed.note)) e)) in
      ap (λ each. Row ∷ (each_parted line each ++ map Note (notes_in (tokens comments false line)))) (line_statements comments line spelled.words printed.note found)
      ∙ ap (λ ts. Row ∷ (each_parted line ((spelled.words ++ last ∷ []) ∷ []) ++ map Note (notes_in ts))) found.tokens_are
      ∙ ap (λ ns. Row ∷ (each_parted line ((spelled.words ++ last ∷ []) ∷ []) ++ map Note ns)) (last-note spelled.words found.place printed.note plain)
      ∙ ap (λ t. Row ∷ ((map Statement (parted t) ++ []) ++ Note printed.note ∷ [])) left
      ∙ ap (λ ts. Row ∷ ((map Statement ts ++ []) ++ Note printed.note ∷ [])) is.alone

  -- the first line of the region has an empty statement
  empty-parted : parted (gap ∷ []) ≡ [] ∷ []
  unfolding divided without_gaps tokens_at tokens_from first_token chars
  empty-parted = refl

  pub head-row : (note : List ℕ) → row false (head_of note) (tokens comments false (head_of note)) ≡ Row ∷ Statement [] ∷ Note (codes "region" ++ note) ∷ []
  unfolding each_parted bared notes_in head_tokens
  head-row note =
      let line = head_of note in
      let found = head_tokens language.isa.name note in
      let last = line_comment found.place (codes " @slothy:" ++ (codes "region" ++ note)) in
      ap (λ each. Row ∷ (each_parted line each ++ map Note (notes_in (tokens comments false line)))) (line_statements comments line [] (codes "region" ++ note) found)
      ∙ ap (λ ts. Row ∷ (each_parted line ((last ∷ []) ∷ []) ++ map Note (notes_in ts))) found.tokens_are
      ∙ ap (λ ts. Row ∷ ((map Statement ts ++ []) ++ Note (codes "region" ++ note) ∷ [])) empty-parted

  -- ---- all lines

  -- the first line of some, and those behind it
  first-numbered : (number : ℕ) (text line rest : List ℕ) → whole_lines text ≡ line ∷ whole_lines rest → numbered_lines number text ≡ (number, without_end line) ∷ numbered_lines (number + 1) rest
  unfolding numbered_lines
  first-numbered number text line rest first = ap (λ lines. enumerate_from number (map without_end lines)) first

  none-numbered : (number : ℕ) → numbered_lines number [] ≡ []
  unfolding numbered_lines whole_lines
  none-numbered number = refl

  -- one line and those behind it
  line-rows : (number : ℕ) (line end rest note : List ℕ) (words : List Lexeme) (whats : List What) → without_end (line ++ end) ≡ line
      → whole_lines ((line ++ end) ++ rest) ≡ (line ++ end) ∷ whole_lines rest
      → IsLine comments line words note → row false line (tokens comments false line) ≡ whats
      → rows comments false (numbered_lines number ((line ++ end) ++ rest)) ≡ map (on_line number) whats ++ rows comments false (numbered_lines (number + 1) rest)
  unfolding rows
  line-rows number line end rest note words whats before first found are =
      ap (rows comments false) (first-numbered number ((line ++ end) ++ rest) (line ++ end) rest first)
      ∙ ap (λ l. rows comments false ((number, l) ∷ numbered_lines (number + 1) rest)) before
      ∙ ap (λ b. map (on_line number) (row false line (tokens comments false line)) ++ rows comments b (numbered_lines (number + 1) rest)) (line_closed comments line words note found)
      ∙ ap (λ ws. map (on_line number) ws ++ rows comments false (numbered_lines (number + 1) rest)) are

  item-rows : (end : List ℕ) (number : ℕ) (printed : List Printed) → IsLineEnd end → AllByRecursion (IsPrinted language comments) printed → AllByRecursion (λ (p : Printed). IsStatement p.text) printed
      → rows comments false (numbered_lines number (item_lines end printed)) ≡ item_pieces number printed
  unfolding item_lines item_pieces rows
  item-rows end number [] ends are each = ap (rows comments false) (none-numbered number)
  item-rows end number (first ∷ more) ends are each =
      let whole = body_whole language comments first end are.0 ends in
      let found = item_tokens language language.isa.name first.text first.note first.item are.0.spelled in
      ap (λ text. rows comments false (numbered_lines number (text ++ item_lines end more))) (line_text first end)
      ∙ line-rows number (body_of first) end (item_lines end more) first.note are.0.spelled.words (Row ∷ Statement first.text ∷ Note first.note ∷ []) whole.before (whole.first (item_lines end more)) found (item-row first are.0 each.0)
      ∙ ap (λ ps. on_line number Row ∷ on_line number (Statement first.text) ∷ on_line number (Note first.note) ∷ ps) (item-rows end (number + 1) more ends are.1 each.1)

  pub region-rows : (note end : List ℕ) (number : ℕ) (printed : List Printed) → list_all is_inside_line note ≡ true → IsLineEnd end → AllByRecursion (IsPrinted language comments) printed → AllByRecursion (λ (p : Printed). IsStatement p.text) printed
      → rows comments false (numbered_lines number (region_lines note end printed)) ≡ region_pieces number note printed
  region-rows note end number printed inside ends are each =
      let whole = head_whole note end inside ends in
      line-rows number (head_of note) end (item_lines end printed) (codes "region" ++ note) [] (Row ∷ Statement [] ∷ Note (codes "region" ++ note) ∷ []) whole.before (whole.first (item_lines end printed)) (head_tokens language.isa.name note) (head-row note)
      ∙ ap (λ ps. on_line number Row ∷ on_line number (Statement []) ∷ on_line number (Note (codes "region" ++ note)) ∷ ps) (item-rows end (number + 1) printed ends are each)
