-- Lines read into pieces.
use Rattle.std.proofs.Common.{◌≡◌, ℕ, ◌+◌, ◌<◌, ◌≤◌, Bool, true, false, cond, Some, List, [], ◌∷◌, ◌++◌, length, map, drop, get_or, refl, ap, sym, ◌∙◌, arith, append_assoc, append-nil}
use Rattle.std.proofs.Math.ListN.{drop_of_length-le}
use Rattle.std.proofs.lemmas.List.{drop_more, map-append}
use Rattle.sl_model.specs.declared.text.Comments.{Comments}
use Rattle.sl_model.specs.Token.{Lexeme, tokens, open_behind}
use Rattle.sl_text.specs.Tokens.{token_value, GivesToken, tokens_left}
use Rattle.sl_text.specs.declared.token.Token.{Token}
use Rattle.sl_text.specs.declared.token.Tokens.{Tokens}
use Rattle.macro_expand.specs.Words.{between}
use Rattle.macro_expand.specs.Source.{What, Row, Statement, Note, on_line, bare, bared, notes, notes_in, is_note, parted, each_parted, row, rows}
use Rattle.macro_expand.specs.Source as source
use Rattle.macro_expand.specs.Region.{open_after}
use Rattle.macro_expand.specs.Spelled.{lexemes}
use Rattle.macro_expand.specs.Views.{piece_of}
use Rattle.macro_expand.specs.declared.expansion.Piece.{Piece}

-- something more stands before the rest
pub some-more : {X : Type 0} (before mid after rest whole : List X) → after ≡ before ++ mid → before ++ (mid ++ rest) ≡ whole → after ++ rest ≡ whole
some-more before mid after rest whole added so_far = ap (λ v. v ++ rest) added ∙ append_assoc before mid rest ∙ so_far

-- a piece more
pub piece-added : (xs ys : List Piece) (x : Piece) → ys ≡ xs ++ x ∷ [] → map piece_of ys ≡ map piece_of xs ++ piece_of x ∷ []
piece-added xs ys x e = ap (map piece_of) e ∙ map-append piece_of xs (x ∷ [])

-- a token that was given stands behind those before it, and is left no more
pub token_added : (old new : Tokens) (token : Token) (list longer : List Token) (all : List Lexeme) → longer ≡ list ++ token ∷ []
    → GivesToken old (Some token) new → lexemes list ++ tokens_left old ≡ all → lexemes longer ++ tokens_left new ≡ all
token_added old new token list longer all is gives e =
    ap (λ l. lexemes l ++ tokens_left new) is
    ∙ ap (λ l. l ++ tokens_left new) (map-append token_value list (token ∷ []))
    ∙ append_assoc (lexemes list) (token_value token ∷ []) (tokens_left new)
    ∙ ap (λ l. lexemes list ++ l) (sym gives.tokens) ∙ e

-- ---- a statement

pub bare-none : (line : List ℕ) (tokens : List Token) → length tokens < 1 → [] ≡ bare line (lexemes tokens)
bare-none line [] few = refl
bare-none line (token ∷ tokens) few = absurd (omega arith)

pub bare-some : (line : List ℕ) (tokens : List Token) (d : Token) → 1 ≤ length tokens → bared line false (get_or tokens 0 d).start (lexemes tokens) ≡ bare line (lexemes tokens)
bare-some line [] d some = absurd (omega arith)
bare-some line (token ∷ tokens) d some = refl

-- a statement more, divided
pub statement-more : (number : ℕ) (line stripped : List ℕ) (before after whole : List source.Piece) (left first : List Lexeme) (behind rest : List (List Lexeme)) (lists : List (List ℕ))
    → rest ≡ between 59 left → between 59 left ≡ first ∷ behind
    → stripped ≡ bare line first → lists ≡ parted stripped
    → after ≡ before ++ map (on_line number) (map Statement lists)
    → before ++ map (on_line number) (each_parted line rest) ≡ whole
    → after ++ map (on_line number) (each_parted line behind) ≡ whole
unfolding each_parted
statement-more number line stripped before after whole left first behind rest lists rest_is first_is bare_is lists_are added so_far =
    let here = map Statement (parted (bare line first)) in
    some-more before (map (on_line number) here) after (map (on_line number) (each_parted line behind)) whole
    (added ∙ ap (λ ls. before ++ map (on_line number) (map Statement ls)) (lists_are ∙ ap parted bare_is))
    (ap (λ v. before ++ v) (sym (map-append (on_line number) here (each_parted line behind)))
    ∙ ap (λ fs. before ++ map (on_line number) (each_parted line fs)) (sym (rest_is ∙ first_is)) ∙ so_far)

pub statements-done : (number : ℕ) (line : List ℕ) (before whole : List source.Piece) (rest : List (List Lexeme)) → rest ≡ []
    → before ++ map (on_line number) (each_parted line rest) ≡ whole → before ≡ whole
unfolding each_parted
statements-done number line before whole rest none so_far =
    sym (append-nil before) ∙ ap (λ fs. before ++ map (on_line number) (each_parted line fs)) (sym none) ∙ so_far

-- ---- notes

note-here : (tokens : List Token) (i : ℕ) (d : Token) → i < length tokens
    → notes_in (lexemes (drop i tokens)) ≡ cond (is_note (token_value (get_or tokens i d))) (drop 11 (get_or tokens i d).text.now ∷ notes_in (lexemes (drop (i + 1) tokens))) (notes_in (lexemes (drop (i + 1) tokens)))
unfolding notes_in
note-here tokens i d within = ap (λ ts. notes_in (lexemes ts)) (drop_more tokens i d within)

-- a token that is no note is passed over
pub notes-pass : (number : ℕ) (tokens : List Token) (i : ℕ) (d : Token) (before whole : List source.Piece) → i < length tokens → is_note (token_value (get_or tokens i d)) ≡ false
    → before ++ map (on_line number) (map Note (notes_in (lexemes (drop i tokens)))) ≡ whole → before ++ map (on_line number) (map Note (notes_in (lexemes (drop (i + 1) tokens)))) ≡ whole
notes-pass number tokens i d before whole within other so_far =
    let rest = notes_in (lexemes (drop (i + 1) tokens)) in
    ap (λ ns. before ++ map (on_line number) (map Note ns)) (sym (note-here tokens i d within ∙ ap (λ b. cond b (drop 11 (get_or tokens i d).text.now ∷ rest) rest) other)) ∙ so_far

-- a note more
pub notes-more : (number : ℕ) (tokens : List Token) (i : ℕ) (d : Token) (words : List ℕ) (before after whole : List source.Piece) → i < length tokens → is_note (token_value (get_or tokens i d)) ≡ true
    → words ≡ drop 11 (get_or tokens i d).text.now → after ≡ before ++ on_line number (Note words) ∷ []
    → before ++ map (on_line number) (map Note (notes_in (lexemes (drop i tokens)))) ≡ whole → after ++ map (on_line number) (map Note (notes_in (lexemes (drop (i + 1) tokens)))) ≡ whole
notes-more number tokens i d words before after whole within is words_are added so_far =
    let rest = notes_in (lexemes (drop (i + 1) tokens)) in
    let text = drop 11 (get_or tokens i d).text.now in
    some-more before (on_line number (Note text) ∷ []) after (map (on_line number) (map Note rest)) whole
    (added ∙ ap (λ w. before ++ on_line number (Note w) ∷ []) words_are)
    (ap (λ ns. before ++ map (on_line number) (map Note ns)) (sym (note-here tokens i d within ∙ ap (λ b. cond b (text ∷ rest) rest) is)) ∙ so_far)

pub notes-done : (number : ℕ) (tokens : List Token) (i : ℕ) (before whole : List source.Piece) → length tokens ≤ i
    → before ++ map (on_line number) (map Note (notes_in (lexemes (drop i tokens)))) ≡ whole → before ≡ whole
unfolding notes_in
notes-done number tokens i before whole all so_far =
    sym (append-nil before) ∙ ap (λ ts. before ++ map (on_line number) (map Note (notes_in (lexemes ts)))) (sym (drop_of_length-le tokens {i = i} all)) ∙ so_far

pub notes-none : (inside : Bool) (tokens : List Token) → length tokens < 1 → notes inside (lexemes tokens) ≡ notes_in (lexemes tokens)
unfolding notes_in
notes-none true [] few = refl
notes-none false [] few = refl
notes-none inside (token ∷ tokens) few = absurd (omega arith)

-- ---- lines

-- a line more
pub rows-more : (comments : Comments) (inside unclosed : Bool) (before after whole : List source.Piece) (lines below : List (ℕ × List ℕ)) (number : ℕ) (text : List ℕ) (found : List Lexeme)
    → lines ≡ (number, text) ∷ below → found ≡ tokens comments inside text
    → after ≡ before ++ map (on_line number) (row inside text found) → unclosed ≡ open_behind inside (tokens comments inside text)
    → before ++ rows comments inside lines ≡ whole → after ++ rows comments unclosed below ≡ whole
unfolding rows
rows-more comments inside unclosed before after whole lines below number text found lines_are found_are added unclosed_is so_far =
    some-more before (map (on_line number) (row inside text (tokens comments inside text))) after (rows comments unclosed below) whole
    (added ∙ ap (λ ts. before ++ map (on_line number) (row inside text ts)) found_are)
    (ap (λ b. before ++ (map (on_line number) (row inside text (tokens comments inside text)) ++ rows comments b below)) unclosed_is
    ∙ ap (λ ls. before ++ rows comments inside ls) (sym lines_are) ∙ so_far)

pub rows-done : (comments : Comments) (inside : Bool) (before whole : List source.Piece) (lines : List (ℕ × List ℕ)) → lines ≡ []
    → before ++ rows comments inside lines ≡ whole → before ≡ whole
unfolding rows
rows-done comments inside before whole lines none so_far = sym (append-nil before) ∙ ap (λ ls. before ++ rows comments inside ls) (sym none) ∙ so_far

-- block comments over lines

pub open-below : (comments : Comments) (inside unclosed : Bool) (lines below : List (ℕ × List ℕ)) (number : ℕ) (text : List ℕ) (whole : Bool) → lines ≡ (number, text) ∷ below
    → unclosed ≡ open_behind inside (tokens comments inside text) → open_after comments inside lines ≡ whole → open_after comments unclosed below ≡ whole
unfolding open_after
open-below comments inside unclosed lines below number text whole e f so_far =
    sym (ap (open_after comments inside) e ∙ ap (λ b. open_after comments b below) (sym f)) ∙ so_far

pub open-done : (comments : Comments) (inside whole : Bool) (lines : List (ℕ × List ℕ)) → lines ≡ [] → open_after comments inside lines ≡ whole → inside ≡ whole
unfolding open_after
open-done comments inside whole lines none so_far = sym (ap (open_after comments inside) none) ∙ so_far
