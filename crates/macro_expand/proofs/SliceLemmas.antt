-- Slices of slices, and what is made of slices.
use Rattle.std.proofs.Common.{◌≡◌, ℕ, zero, suc, ◌+◌, ◌-◌, ◌<◌, inl, inr, Bool, true, false, cond, List, [], ◌∷◌, ◌++◌, map, length, take, drop, get_or, slice_range, refl, ap, sym, ◌∙◌, subst, arith, append_assoc, append-nil, take-append-drop, Option, Some, None, IfSome, All, eqb, option_map, Bor, Result, Ok, Err, OnOk}
use Rattle.std.proofs.lemmas.List.Elements.{All-nil, All-cons, All-head, All-tail, All-push}
use Rattle.std.specs.HashMap.{UpdatesBy, get_by_text}
use Rattle.std.specs.List.{enumerate_from}
use Rattle.std.specs.Str.{bytes_eq}
use Rattle.std.specs.String.{string_bytes, string_eq}
use Rattle.std.specs.declared.string.String.{String}
use Rattle.std.proofs.lemmas.Map.Text.{hash_map_updates_text}
use Rattle.indexmap.specs.IndexMap.{IndexMap}
use Rattle.std.specs.declared.vec.Vec.{Vec}
use Rattle.sl_model.specs.declared.text.Comments.{Comments}
use Rattle.sl_model.specs.declared.text.TokenKind.TheVariants.{Comment}
use Rattle.sl_model.specs.Text.{Parts, is_blank, is_line_end, joined, numbered_lines, prepend, whole_lines, without_end}
use Rattle.sl_model.specs.Token.{Lexeme, comment_length, first_token, lexeme, tokens_at, tokens_from}
use Rattle.macro_expand.specs.Words.{before_first, between}
use Rattle.sl_model.specs.TokenTests.{marks}
use Rattle.sl_text.specs.Tokens.{token_value}
use Rattle.sl_text.specs.declared.token.Token.{Token}
use Rattle.macro_expand.specs.Spelled.{lexemes}
use Rattle.macro_expand.specs.declared.parts.Part.{Part}
use Rattle.macro_expand.specs.declared.expansion.What.{What}
use Rattle.macro_expand.specs.declared.expansion.Piece.{Piece}
use Rattle.macro_expand.specs.declared.expansion.Macro.{Macro}
use Rattle.macro_expand.specs.Slices.{IsSliceOf, IsSliceIn, IsSlice, AreAliases, AreCutOf, AreMacros, AreSlices, AreBody, AreLists, HasSlices, HaveSlices}

-- ---- slices

-- the whole text
pub whole-slice : (whole : List ℕ) → IsSliceOf whole whole
whole-slice whole = record { front = []; back = []; joined = sym (append-nil whole) }

-- a slice of a slice
pub slice-slice : (whole text piece : List ℕ) → IsSliceOf whole text → IsSliceOf text piece → IsSliceOf whole piece
slice-slice whole text piece outer inner = record {
  front = outer.front ++ inner.front;
  back = inner.back ++ outer.back;
  joined =
      outer.joined ∙ ap (λ t. outer.front ++ (t ++ outer.back)) inner.joined
      ∙ ap (λ t. outer.front ++ t) (append_assoc inner.front (piece ++ inner.back) outer.back ∙ ap (λ t. inner.front ++ t) (append_assoc piece inner.back outer.back))
      ∙ sym (append_assoc outer.front inner.front (piece ++ (inner.back ++ outer.back)));
}

-- what stands between two places
pub range-slice : (text : List ℕ) (from to : ℕ) → IsSliceOf text (slice_range text from to)
range-slice text from to = record {
  front = take from text;
  back = drop (to - from) (drop from text);
  joined = sym (take-append-drop from text) ∙ ap (λ t. take from text ++ t) (sym (take-append-drop (to - from) (drop from text)));
}

pub slice-in : (texts : Parts) (text piece : List ℕ) → IsSliceIn texts text → IsSliceOf text piece → IsSliceIn texts piece
slice-in texts text piece (inl before) inner = inl (slice-slice texts.before text piece before inner)
slice-in texts text piece (inr body) inner = inr (slice-slice texts.body text piece body inner)

-- ---- what is made of slices

-- a part more
pub one-more : (texts : Parts) (parts new : List Part) (p : Part) → new ≡ parts ++ p ∷ [] → IsSlice texts p → AreSlices texts parts → AreSlices texts new
one-more texts parts new p is slice slices = record { each = subst (All (IsSlice texts)) (sym is) (All-push (IsSlice texts) parts p slices.each slice) }

-- no part
pub no-parts : (texts : Parts) (parts : List Part) → parts ≡ [] → AreSlices texts parts
no-parts texts parts none = record { each = subst (All (IsSlice texts)) (sym none) (All-nil (IsSlice texts)) }

module _ {A : Type 0} where
  -- a statement more
  pub one-list : (texts : Parts) (lists new : List (Vec Part A)) (list : Vec Part A) → new ≡ lists ++ list ∷ [] → AreSlices texts list.items → AreLists texts lists → AreLists texts new
  one-list texts lists new list is slices all = subst (AreLists texts) (sym is) (All-push (λ (l : Vec Part A). AreSlices texts l.items) lists list all slices)

  -- no statement
  pub no-lists : (texts : Parts) (lists : List (Vec Part A)) → lists ≡ [] → AreLists texts lists
  no-lists texts lists none = subst (AreLists texts) (sym none) (All-nil (λ (l : Vec Part A). AreSlices texts l.items))

-- a piece more
pub one-piece : (texts : Parts) (pieces new : List Piece) (p : Piece) → new ≡ pieces ++ p ∷ [] → HasSlices texts p.what → HaveSlices texts pieces → HaveSlices texts new
one-piece texts pieces new p is slices all =
    record { each = subst (All (λ piece. HasSlices texts piece.what)) (sym is) (All-push (λ (piece : Piece). HasSlices texts piece.what) pieces p all.each slices) }

-- no piece
pub no-pieces : (texts : Parts) (pieces : List Piece) → pieces ≡ [] → HaveSlices texts pieces
no-pieces texts pieces none = record { each = subst (All (λ piece. HasSlices texts piece.what)) (sym none) (All-nil (λ (piece : Piece). HasSlices texts piece.what)) }

-- the first of some pieces, and the others
pub first-piece : (texts : Parts) (p : Piece) (pieces : List Piece) → HaveSlices texts (p ∷ pieces) → HasSlices texts p.what
first-piece texts p pieces all = All-head (λ (piece : Piece). HasSlices texts piece.what) p pieces all.each

pub other-pieces : (texts : Parts) (p : Piece) (pieces : List Piece) → HaveSlices texts (p ∷ pieces) → HaveSlices texts pieces
other-pieces texts p pieces all = record { each = All-tail (λ (piece : Piece). HasSlices texts piece.what) p pieces all.each }

-- something more in a body
pub more-body : (texts : Parts) (body new : List What) (w : What) → new ≡ body ++ w ∷ [] → HasSlices texts w → AreBody texts body → AreBody texts new
more-body texts body new w is slices all = record { each = subst (All (HasSlices texts)) (sym is) (All-push (HasSlices texts) body w all.each slices) }

-- what follows where all went well
pub on-ok : {A E X Z : Type 0} (result : Result A E) → (X → Z) → OnOk result X → OnOk result Z
on-ok (Ok a) f x = f x
on-ok (Err e) f x = tt

-- ---- what names stand for

either-some : {X : Type 0} (P : X → Type 0) (b : Bool) (w v : Option X) → IfSome w P → IfSome v P → IfSome (cond b w v) P
either-some P true w v here there = here
either-some P false w v here there = there

module _ {Y Z S : Type 0} where
  -- what aliases stand for after a change at a name
  pub aliases-after : (texts : Parts) (name : List ℕ) (old new : IndexMap (String Y) (Vec Part Z) S) (w : Option (Vec Part Z)) → UpdatesBy string_eq (λ k. bytes_eq name (string_bytes k)) old new w
      → IfSome w (λ value. AreSlices texts value.items) → AreAliases texts old → AreAliases texts new
  aliases-after texts name old new w updates here all other =
      subst (λ value. IfSome value (λ (v : Vec Part Z). AreSlices texts v.items)) (sym (hash_map_updates_text name old new w updates other))
      (either-some (λ (v : Vec Part Z). AreSlices texts v.items) (bytes_eq name other) w (get_by_text old other) here (all other))

  pub alias-at : (texts : Parts) (aliases : IndexMap (String Y) (Vec Part Z) S) (name : List ℕ) (value : Bor (Vec Part Z)) → Some value.now ≡ get_by_text aliases name → AreAliases texts aliases
      → AreSlices texts value.now.items
  alias-at texts aliases name value is all = subst (λ held. IfSome held (λ (v : Vec Part Z). AreSlices texts v.items)) (sym is) (all name)

module _ {Y S : Type 0} where
  pub body-at : (texts : Parts) (macros : IndexMap (String Y) Macro S) (name : List ℕ) (found : Option (Bor Macro)) → option_map (λ x. x.now) found ≡ get_by_text macros name → AreMacros texts macros
      → IfSome found (λ m. AreBody texts m.now.body.items)
  body-at texts macros name None is all = tt
  body-at texts macros name (Some m) is all = subst (λ held. IfSome held (λ (x : Macro). AreBody texts x.body.items)) (sym is) (all name)

  -- macros after a change at a name
  pub bodies-after : (texts : Parts) (name : List ℕ) (old new : IndexMap (String Y) Macro S) (w : Option Macro) → UpdatesBy string_eq (λ k. bytes_eq name (string_bytes k)) old new w
      → IfSome w (λ found. AreBody texts found.body.items) → AreMacros texts old → AreMacros texts new
  bodies-after texts name old new w updates here all other =
      subst (λ value. IfSome value (λ (m : Macro). AreBody texts m.body.items)) (sym (hash_map_updates_text name old new w updates other))
      (either-some (λ (m : Macro). AreBody texts m.body.items) (bytes_eq name other) w (get_by_text old other) here (all other))

-- ---- the tokens of a line

-- one of two lists
either-cut : (b : Bool) (line : List ℕ) (xs ys : List Lexeme) → AreCutOf line xs → AreCutOf line ys → AreCutOf line (cond b xs ys)
either-cut true line xs ys first second = first
either-cut false line xs ys first second = second

-- the first bytes of what stands behind a front
first-slice : (whole front text : List ℕ) (n : ℕ) → whole ≡ front ++ text → IsSliceOf whole (take n text)
first-slice whole front text n is = record { front = front; back = drop n text; joined = is ∙ ap (λ t. front ++ t) (sym (take-append-drop n text)) }

one-behind : (whole front : List ℕ) (c : ℕ) (text : List ℕ) → whole ≡ front ++ c ∷ text → whole ≡ (front ++ c ∷ []) ++ text
one-behind whole front c text is = is ∙ sym (append_assoc front (c ∷ []) text)

from-cut : (comments : Comments) (place taken : ℕ) (whole front text : List ℕ) → whole ≡ front ++ text → AreCutOf whole (tokens_from comments place taken text)
unfolding tokens_from
from-cut comments place taken whole front [] is = All-nil (λ token. IsSliceOf whole token.text)
from-cut comments place (suc taken) whole front (c ∷ text) is = from-cut comments (place + 1) taken whole (front ++ c ∷ []) text (one-behind whole front c text is)
from-cut comments place zero whole front (c ∷ text) is =
    let found = first_token comments (c ∷ text) in
    let here = lexeme found place (c ∷ text) in
    let behind = tokens_from comments (place + 1) (found.1 - 1) text in
    either-cut (is_blank c) whole (tokens_from comments (place + 1) 0 text) (here ∷ behind)
    (from-cut comments (place + 1) 0 whole (front ++ c ∷ []) text (one-behind whole front c text is))
    (All-cons (λ token. IsSliceOf whole token.text) here behind (first-slice whole front (c ∷ text) found.1 is)
    (from-cut comments (place + 1) (found.1 - 1) whole (front ++ c ∷ []) text (one-behind whole front c text is)))

pub tokens-cut : (comments : Comments) (inside : Bool) (line : List ℕ) → AreCutOf line (tokens_at comments inside 0 line)
unfolding tokens_at
tokens-cut comments false line = from-cut comments 0 0 line [] line refl
tokens-cut comments true [] = All-nil (λ token. IsSliceOf [] token.text)
tokens-cut comments true (c ∷ text) =
    let here = lexeme (Comment, comment_length (c ∷ text)) 0 (c ∷ text) in
    All-cons (λ token. IsSliceOf (c ∷ text) token.text) here (tokens_from comments 0 (comment_length (c ∷ text)) (c ∷ text))
    (first-slice (c ∷ text) [] (c ∷ text) (comment_length (c ∷ text)) refl)
    (from-cut comments 0 (comment_length (c ∷ text)) (c ∷ text) [] (c ∷ text) refl)

-- ---- the lines of a text

joined-prepend : (c : ℕ) (lines : List (List ℕ)) → joined (prepend c lines) ≡ c ∷ joined lines
unfolding joined
joined-prepend c [] = refl
joined-prepend c (line ∷ lines) = refl

joined-lines-step : (ends : Bool) (c : ℕ) (text : List ℕ) → joined (whole_lines text) ≡ text → joined (cond ends ((c ∷ []) ∷ whole_lines text) (prepend c (whole_lines text))) ≡ c ∷ text
unfolding joined
joined-lines-step true c text e = ap (λ v. c ∷ v) e
joined-lines-step false c text e = joined-prepend c (whole_lines text) ∙ ap (λ v. c ∷ v) e

joined-lines : (text : List ℕ) → joined (whole_lines text) ≡ text
unfolding whole_lines joined
joined-lines [] = refl
joined-lines (c ∷ text) = joined-lines-step (eqb c 10) c text (joined-lines text)

ended-step : (b : Bool) (x : ℕ) (xs ys : List ℕ) → ((rest : List ℕ) × (xs ≡ ys ++ rest)) → (rest : List ℕ) × (x ∷ xs ≡ cond b [] (x ∷ ys) ++ rest)
ended-step true x xs ys e = (x ∷ xs, refl)
ended-step false x xs ys e = (e.0, ap (λ v. x ∷ v) e.1)

-- a line without its end is the front of the line
ended-front : (line : List ℕ) → (rest : List ℕ) × (line ≡ without_end line ++ rest)
unfolding without_end
ended-front [] = ([], refl)
ended-front (x ∷ xs) = ended-step (is_line_end (x ∷ xs)) x xs (without_end xs) (ended-front xs)

each-line : (first : ℕ) (whole front : List ℕ) (lines : List (List ℕ)) → whole ≡ front ++ joined lines → All (λ line. IsSliceOf whole line.1) (enumerate_from first (map without_end lines))
unfolding joined
each-line first whole front [] is = All-nil (λ (line : ℕ × List ℕ). IsSliceOf whole line.1)
each-line first whole front (line ∷ lines) is =
    let end = ended-front line in
    let here : IsSliceOf whole (without_end line) = record {
      front = front;
      back = end.0 ++ joined lines;
      joined = is ∙ ap (λ t. front ++ t) (ap (λ t. t ++ joined lines) end.1 ∙ append_assoc (without_end line) end.0 (joined lines));
    } in
    All-cons (λ (l : ℕ × List ℕ). IsSliceOf whole l.1) (first, without_end line) (enumerate_from (first + 1) (map without_end lines)) here
    (each-line (first + 1) whole (front ++ line) lines (is ∙ sym (append_assoc front line (joined lines))))

-- each line of a text is a slice of it
pub lines-cut : (first : ℕ) (text : List ℕ) → All (λ line. IsSliceOf text line.1) (numbered_lines first text)
unfolding numbered_lines
lines-cut first text = each-line first text [] (whole_lines text) (sym (joined-lines text))

-- ---- the statements of a line

either-lists : (b : Bool) (line : List ℕ) (xs ys : List (List Lexeme)) → All (AreCutOf line) xs → All (AreCutOf line) ys → All (AreCutOf line) (cond b xs ys)
either-lists true line xs ys first second = first
either-lists false line xs ys first second = second

none-cut : (line : List ℕ) → AreCutOf line []
none-cut line = All-nil (λ token. IsSliceOf line token.text)

before-cut : (line : List ℕ) (token : Lexeme) (lists : List (List Lexeme)) → IsSliceOf line token.text → All (AreCutOf line) lists → All (AreCutOf line) (before_first token lists)
before-cut line token [] here all = All-cons (AreCutOf line) (token ∷ []) [] (All-cons (λ t. IsSliceOf line t.text) token [] here (none-cut line)) (All-nil (AreCutOf line))
before-cut line token (list ∷ lists) here all =
    All-cons (AreCutOf line) (token ∷ list) lists (All-cons (λ t. IsSliceOf line t.text) token list here (All-head (AreCutOf line) list lists all)) (All-tail (AreCutOf line) list lists all)

pub between-cut : (line : List ℕ) (code : ℕ) (tokens : List Lexeme) → AreCutOf line tokens → All (AreCutOf line) (between code tokens)
unfolding between
between-cut line code [] cut = All-cons (AreCutOf line) [] [] (none-cut line) (All-nil (AreCutOf line))
between-cut line code (token ∷ tokens) cut =
    let P = λ (t : Lexeme). IsSliceOf line t.text in
    let rest = between-cut line code tokens (All-tail P token tokens cut) in
    either-lists (marks code token) line ([] ∷ between code tokens) (before_first token (between code tokens))
    (All-cons (AreCutOf line) [] (between code tokens) (none-cut line) rest)
    (before-cut line token (between code tokens) (All-head P token tokens cut) rest)

-- the first of some lists of tokens, and the others
pub first-cut : (line : List ℕ) (lists : List (List Lexeme)) (first : List Lexeme) (more : List (List Lexeme)) → lists ≡ first ∷ more → All (AreCutOf line) lists → AreCutOf line first
first-cut line lists first more is all = All-head (AreCutOf line) first more (subst (All (AreCutOf line)) is all)

pub others-cut : (line : List ℕ) (lists : List (List Lexeme)) (first : List Lexeme) (more : List (List Lexeme)) → lists ≡ first ∷ more → All (AreCutOf line) lists → All (AreCutOf line) more
others-cut line lists first more is all = All-tail (AreCutOf line) first more (subst (All (AreCutOf line)) is all)

pub token-cut : (line : List ℕ) (tokens : List Token) (i : ℕ) (d : Token) → i < length tokens → AreCutOf line (lexemes tokens) → IsSliceOf line (get_or tokens i d).text.now
token-cut line [] i d within cut = absurd (omega arith)
token-cut line (t ∷ ts) zero d within cut = All-head (λ (x : Lexeme). IsSliceOf line x.text) (token_value t) (lexemes ts) cut
token-cut line (t ∷ ts) (suc i) d within cut = token-cut line ts i d (omega arith) (All-tail (λ (x : Lexeme). IsSliceOf line x.text) (token_value t) (lexemes ts) cut)
