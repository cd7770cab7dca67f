-- The tokens of a printed line.
use Rattle.std.proofs.Common.{◌≡◌, ℕ, zero, suc, ◌+◌, ◌-◌, Bool, true, false, cond, not, ◌&&◌, ◌||◌, nat_eq, eqb, slice_index, List, [], ◌∷◌, ◌++◌, length, take, drop, codes, refl, ap, sym, ◌∙◌, subst, arith, append-nil, take_all}
use Rattle.std.specs.List.{list_all, list_any, starts_with, AllByRecursion}
use Rattle.sl_model.specs.declared.text.Comments.{Comments}
use Rattle.sl_model.specs.declared.text.Comments.TheVariants.{Slash, SlashAt, Taken}
use Rattle.sl_model.specs.declared.instruction.ArchName.{ArchName}
use Rattle.sl_model.specs.declared.instruction.ArchName.TheVariants.{Arm64, M4}
use Rattle.sl_model.specs.declared.text.TokenKind.{TokenKind}
use Rattle.sl_model.specs.declared.text.TokenKind.TheVariants.{Word, Number, Mark, Comment}
use Rattle.sl_model.specs.Text.{is_blank, holds}
use Rattle.sl_model.specs.Token.{Lexeme, tokens, begins_block_comment, first_token, lexeme, tokens_from, tokens_at, leaves_open, open_behind}
use Rattle.sl_laws.proofs.Texts.{starts_take, first_token-block, taken_begins}
use Rattle.sl_model.specs.declared.instruction.Instr.{Instr}
use Rattle.sl_isa.specs.Arch.{comments_of}
use Rattle.sl_isa.specs.Language.{Language, IsSpelledAt, is_of_instruction, is_instruction_token}
use Rattle.sl_model.specs.TokenTests.{is_comment, is_mark, marks}
use Rattle.macro_expand.specs.Source.{statements}
use Rattle.asm_reader.specs.Lines.{words_of}
use Rattle.asm_reader.proofs.ForCallers.{statements_whole}
use Rattle.std.proofs.lemmas.Bool.{and_parts}

-- ---- a comment to the line's end

comment_first : (name : ArchName) (rest : List ℕ) → first_token (comments_of name) (47 ∷ 47 ∷ rest) ≡ (Comment, length (47 ∷ 47 ∷ rest))
unfolding first_token
comment_first Arm64 rest = refl
comment_first M4 rest = refl

taken_whole : (comments : Comments) (place : ℕ) (text : List ℕ) → tokens_from comments place (length text) text ≡ []
unfolding tokens_from
taken_whole comments place [] = refl
taken_whole comments place (c ∷ text) = taken_whole comments (place + 1) text

-- the token of such a comment
abbrev pub line_comment : ℕ → List ℕ → Lexeme
line_comment place rest = record { kind = Comment; text = 47 ∷ 47 ∷ rest; start = place }

pub comment_tokens : (name : ArchName) (place : ℕ) (rest : List ℕ) → tokens_from (comments_of name) place 0 (47 ∷ 47 ∷ rest) ≡ line_comment place rest ∷ []
unfolding tokens_from
comment_tokens name place rest =
    let comments = comments_of name in
    let text = 47 ∷ 47 ∷ rest in
    let left : length text - 1 ≡ length (47 ∷ rest) = omega arith in
    ap (λ found. lexeme found place text ∷ tokens_from comments (place + 1) (found.1 - 1) (47 ∷ rest)) (comment_first name rest)
    ∙ ap (λ whole. record { kind = Comment; text = whole; start = place } ∷ tokens_from comments (place + 1) (length text - 1) (47 ∷ rest)) (take_all (length text) text (omega arith))
    ∙ ap (λ n. line_comment place rest ∷ tokens_from comments (place + 1) n (47 ∷ rest)) left
    ∙ ap (λ more. line_comment place rest ∷ more) (taken_whole comments (place + 1) (47 ∷ rest))

-- ---- no token but a comment leaves one open

abbrev pub IsClosed : Lexeme → Type 0
IsClosed token = is_comment token.kind ≡ false → leaves_open false token.text ≡ false

closed_by : (text : List ℕ) (n : ℕ) (b : Bool) → starts_with nat_eq (take n text) (codes "/*") ≡ b → starts_with nat_eq text (codes "/*") ≡ false → leaves_open false (take n text) ≡ false
closed_by text n true is e = cc (starts_take (codes "/*") text n is, e)
closed_by text n false is e = ap (λ b. b && not (holds (codes "*/") (drop 2 (take n text)))) is

closed_first_with : (comments : Comments) (text : List ℕ) (b : Bool) → (starts_with nat_eq text (codes "/*") ≡ true → begins_block_comment comments text ≡ true) → starts_with nat_eq text (codes "/*") ≡ b
    → is_comment (first_token comments text).0 ≡ false → leaves_open false (take (first_token comments text).1 text) ≡ false
closed_first_with comments text true block is e = cc (ap (λ found. is_comment found.0) (first_token-block comments text (block is)), e)
closed_first_with comments text false block is e = closed_by text (first_token comments text).1 (starts_with nat_eq (take (first_token comments text).1 text) (codes "/*")) refl is

closed_first : (comments : Comments) (text : List ℕ)
    → is_comment (first_token comments text).0 ≡ false → leaves_open false (take (first_token comments text).1 text) ≡ false
closed_first Slash text e = closed_first_with Slash text (starts_with nat_eq text (codes "/*")) (λ begins. begins) refl e
closed_first SlashAt text e = closed_first_with SlashAt text (starts_with nat_eq text (codes "/*")) (λ begins. begins) refl e
closed_first Taken text e = ap (λ b. b && not (holds (codes "*/") (drop 2 (take (first_token Taken text).1 text)))) (taken_begins text)

closed_step : (blank : Bool) (token : Lexeme) (behind rest : List Lexeme) → IsClosed token → AllByRecursion IsClosed behind → AllByRecursion IsClosed rest
    → AllByRecursion IsClosed (cond blank behind (token ∷ rest))
closed_step true token behind rest here more all = more
closed_step false token behind rest here more all = (here, all)

closed_from : (comments : Comments) (place taken : ℕ) (text : List ℕ) → AllByRecursion IsClosed (tokens_from comments place taken text)
unfolding tokens_from
closed_from comments place taken [] = tt
closed_from comments place (suc taken) (c ∷ text) = closed_from comments (place + 1) taken text
closed_from comments place zero (c ∷ text) =
    closed_step (is_blank c) (lexeme (first_token comments (c ∷ text)) place (c ∷ text)) (tokens_from comments (place + 1) 0 text)
    (tokens_from comments (place + 1) ((first_token comments (c ∷ text)).1 - 1) text)
    (closed_first comments (c ∷ text))
    (closed_from comments (place + 1) 0 text) (closed_from comments (place + 1) ((first_token comments (c ∷ text)).1 - 1) text)

-- ---- the words of an instruction, and a comment behind them

pub word_kind : (kind : TokenKind) (text : List ℕ) → is_of_instruction kind text ≡ true → is_comment kind ≡ false
word_kind Word text e = refl
word_kind Number text e = refl
word_kind Mark text e = refl
word_kind Comment text e = cc

-- behind these no comment is open
words_closed : (words rest : List Lexeme) → list_all is_instruction_token words ≡ true → AllByRecursion IsClosed (words ++ rest) → open_behind false (words ++ rest) ≡ open_behind false rest
unfolding open_behind
words_closed [] rest plain closed = refl
words_closed (token ∷ words) rest plain closed =
    let both = and_parts (is_instruction_token token) (list_all is_instruction_token words) plain in
    ap (λ b. open_behind b (words ++ rest)) (closed.0 (word_kind token.kind token.text both.0)) ∙ words_closed words rest both.1 closed.1

-- they are the words
words_first : (words rest : List Lexeme) → list_all is_instruction_token words ≡ true → words_of (words ++ rest) ≡ words ++ words_of rest
unfolding words_of
words_first [] rest plain = refl
words_first (token ∷ words) rest plain =
    let both = and_parts (is_instruction_token token) (list_all is_instruction_token words) plain in
    ap (λ b. cond b (words_of (words ++ rest)) (token ∷ words_of (words ++ rest))) (word_kind token.kind token.text both.0)
    ∙ ap (λ more. token ∷ more) (words_first words rest both.1)

mark_at : (b rest : Bool) → cond b false rest ≡ true → b ≡ false
mark_at true rest e = sym e
mark_at false rest e = refl

no_semicolon : (kind : TokenKind) (text : List ℕ) → is_of_instruction kind text ≡ true → cond (is_mark kind) (eqb (slice_index text 0) 59) false ≡ false
no_semicolon Word text e = refl
no_semicolon Number text e = refl
no_semicolon Mark text e = mark_at (eqb (slice_index text 0) 59) (cond (eqb (slice_index text 0) 58) false true) e
no_semicolon Comment text e = refl

no_semicolons : (words rest : List Lexeme) → list_all is_instruction_token words ≡ true → list_any (marks 59) (words ++ rest) ≡ list_any (marks 59) rest
no_semicolons [] rest plain = refl
no_semicolons (token ∷ words) rest plain =
    let both = and_parts (is_instruction_token token) (list_all is_instruction_token words) plain in
    ap (λ b. b || list_any (marks 59) (words ++ rest)) (no_semicolon token.kind token.text both.0) ∙ no_semicolons words rest both.1

-- ---- the line of an instruction, whose text gives these words

-- The tokens of a line are words and a comment with a note.
pub record IsLine (comments : Comments) (line : List ℕ) (words : List Lexeme) (note : List ℕ) : Type 0 where
  pub place : ℕ
  pub tokens_are : tokens comments false line ≡ words ++ line_comment place (codes " @slothy:" ++ note) ∷ []
  pub plain : list_all is_instruction_token words ≡ true

-- the words and the comment are the only statement, and the words are its words
pub line_statements : (comments : Comments) (line : List ℕ) (words : List Lexeme) (note : List ℕ) (is : IsLine comments line words note)
    → statements (tokens comments false line) ≡ (words ++ line_comment is.place (codes " @slothy:" ++ note) ∷ []) ∷ []
line_statements comments line words note is =
    ap statements is.tokens_are
    ∙ statements_whole (words ++ line_comment is.place (codes " @slothy:" ++ note) ∷ []) (no_semicolons words (line_comment is.place (codes " @slothy:" ++ note) ∷ []) is.plain)

pub line_words : (comments : Comments) (line : List ℕ) (words : List Lexeme) (note : List ℕ) (is : IsLine comments line words note)
    → words_of (words ++ line_comment is.place (codes " @slothy:" ++ note) ∷ []) ≡ words
unfolding words_of
line_words comments line words note is = words_first words (line_comment is.place (codes " @slothy:" ++ note) ∷ []) is.plain ∙ append-nil words

-- behind the line no comment is open
pub line_closed : (comments : Comments) (line : List ℕ) (words : List Lexeme) (note : List ℕ) → IsLine comments line words note → open_behind false (tokens comments false line) ≡ false
unfolding open_behind tokens_at
line_closed comments line words note is =
    ap (open_behind false) is.tokens_are
    ∙ words_closed words (line_comment is.place (codes " @slothy:" ++ note) ∷ []) is.plain (subst (AllByRecursion IsClosed) is.tokens_are (closed_from comments 0 0 line))

-- the line of an instruction
unfoldable pub item_tokens : (language : Language) (name : ArchName) (text note : List ℕ) (i : Instr) (spelled : IsSpelledAt language [] (comments_of name) text 8 (codes " // @slothy:" ++ note) i)
    → IsLine (comments_of name) (codes "        " ++ (text ++ (codes " // @slothy:" ++ note))) spelled.words note
unfolding tokens_at tokens_from
item_tokens language name text note i spelled = record {
  place = 8 + length text + 1;
  tokens_are = spelled.tokens ∙ ap (λ more. spelled.words ++ more) (comment_tokens name (8 + length text + 1) (codes " @slothy:" ++ note));
  plain = spelled.plain;
}

-- the first line of a region
unfoldable pub head_tokens : (name : ArchName) (note : List ℕ) → IsLine (comments_of name) (codes "        // @slothy:region" ++ note) [] (codes "region" ++ note)
unfolding tokens_at tokens_from
head_tokens name note = record {
  place = 8;
  tokens_are = comment_tokens name 8 (codes " @slothy:region" ++ note);
  plain = refl;
}
