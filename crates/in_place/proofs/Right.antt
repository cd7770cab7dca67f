-- Printed instructions, as an expansion and a reader want them.
use Rattle.std.proofs.Common.{◌≡◌, ℕ, zero, suc, ◌+◌, ◌-◌, ◌^◌, nat_lt, Bool, true, false, cond, not, ◌&&◌, is_some, eqb, slice_index, List, [], ◌∷◌, ◌++◌, length, map, take, drop, codes, Option, None, Some, refl, ap, sym, ◌∙◌, subst, arith, append-nil}
use Rattle.std.specs.Fmt.{decimal}
use Rattle.std.specs.List.{list_all, AllByRecursion}
use Rattle.std.proofs.lemmas.Bool.{and_parts, and_from}
use Rattle.sl_model.specs.declared.instruction.Instr.{Instr}
use Rattle.sl_model.specs.declared.text.Comments.TheVariants.{Taken}
use Rattle.sl_model.specs.Text.{is_quiet, skip_blanks}
use Rattle.sl_model.specs.Token.{Lexeme, tokens, tokens_at, tokens_from}
use Rattle.sl_model.specs.TokenTests.{code_of, is_mark, marks}
use Rattle.sl_isa.specs.Language.{AreSpelled, IsLanguage, IsSpelledAt, Language, is_no_feed, knows_words, unmarked}
use Rattle.sl_isa.specs.Symbols.{Pair}
use Rattle.asm_reader.specs.Notes.{NoteValue}
use Rattle.macro_expand.specs.Words.{end_of, gap, without_gaps, words}
use Rattle.asm_printer.proofs.ForCallers.{spelled-printed}
use Rattle.asm_printer.specs.Lines.{Printed}
use Rattle.asm_printer.specs.Printed.{entries, fits, is_whole, item_note, marks_note, named, numbered}
use Rattle.in_place.specs.Clear.{IsStatement, is_unnamed_text}
use Rattle.in_place.specs.InPlace.{texts_of}
use Rattle.macro_expand.specs.Region.{Reading}
use Rattle.in_place.proofs.Entered.{IsReadAgain}
use Rattle.in_place.proofs.Expanded.{IsReady}
use Rattle.in_place.proofs.Markers.{IsLoud}
use Rattle.in_place.proofs.Rows.{first-start}
use Rattle.in_place.proofs.Tiled.{AreTiled, tiled-from}

-- ---- no token of a line is a gap

no-feed-drop : (n : ℕ) (text : List ℕ) → list_all is_no_feed text ≡ true → list_all is_no_feed (drop n text) ≡ true
no-feed-drop zero text e = e
no-feed-drop (suc n) [] e = refl
no-feed-drop (suc n) (c ∷ text) e = no-feed-drop n text (and_parts (is_no_feed c) (list_all is_no_feed text) e).1

no-feed-take : (n : ℕ) (text : List ℕ) → list_all is_no_feed text ≡ true → list_all is_no_feed (take n text) ≡ true
no-feed-take zero text e = refl
no-feed-take (suc n) [] e = refl
no-feed-take (suc n) (c ∷ text) e =
    let both = and_parts (is_no_feed c) (list_all is_no_feed text) e in
    and_from (is_no_feed c) (list_all is_no_feed (take n text)) both.0 (no-feed-take n text both.1)

first-feed : (text : List ℕ) → list_all is_no_feed text ≡ true → eqb (slice_index text 0) 10 ≡ false
first-feed [] e = refl
first-feed (c ∷ text) e = of (eqb c 10) (and_parts (is_no_feed c) (list_all is_no_feed text) e).0
  where
    of : (b : Bool) → not b ≡ true → b ≡ false
    of true e = absurd cc
    of false e = refl

no-gap : (token : Lexeme) → list_all is_no_feed token.text ≡ true → marks gap token ≡ false
no-gap token e = of (is_mark token.kind)
  where
    of : (b : Bool) → cond b (eqb (code_of token) 10) false ≡ false
    of true = first-feed token.text e
    of false = refl

no-gaps : (text : List ℕ) (place : ℕ) (tokens : List Lexeme) → list_all is_no_feed text ≡ true → AreTiled text place tokens → without_gaps tokens ≡ tokens
unfolding without_gaps
no-gaps text place [] e tiled = refl
no-gaps text place (token ∷ tokens) e tiled =
    let stands : list_all is_no_feed token.text ≡ true =
    ap (list_all is_no_feed) (sym tiled.1) ∙ no-feed-take (end_of token - token.start) (drop token.start text) (no-feed-drop token.start text e) in
    ap (λ b. cond b (without_gaps tokens) (token ∷ without_gaps tokens)) (no-gap token stands) ∙ ap (λ ts. token ∷ ts) (no-gaps text (end_of token) tokens e tiled.2)

tokens-tiled : (text : List ℕ) → AreTiled text 0 (tokens Taken false text)
unfolding tokens_at
tokens-tiled text = tiled-from Taken text [] text 0 0 refl refl

words-are : (text : List ℕ) → list_all is_no_feed text ≡ true → words text ≡ tokens Taken false text
words-are text e = no-gaps text 0 (tokens Taken false text) e (tokens-tiled text)

-- ---- what is asked of each printed instruction

pub record IsRight (language : Language) (reading : Reading) (printed : Printed) : Type 0 where
  pub statement : IsStatement printed.text
  pub line : list_all is_no_feed printed.text ≡ true
  pub taken : IsSpelledAt language [] Taken printed.text 0 [] printed.item
  pub free : is_unnamed_text reading printed.text ≡ true
  pub loud : IsLoud printed

module _ (language : Language) (reading : Reading) (printed : Printed) (is : IsRight language reading printed) where
  nothing-behind : (place : ℕ) → tokens_at Taken false place [] ≡ []
  unfolding tokens_at tokens_from
  nothing-behind place = refl

  -- its words are those that spell it
  spelled-words : words printed.text ≡ is.taken.words
  spelled-words =
      words-are printed.text is.line
      ∙ ap (tokens_at Taken false 0) (sym (append-nil printed.text))
      ∙ is.taken.tokens
      ∙ ap (λ ts. is.taken.words ++ ts) (nothing-behind (0 + length printed.text))
      ∙ append-nil is.taken.words

  pub read-again : IsReadAgain language printed
  read-again = record {
    known = ap (knows_words language []) spelled-words ∙ is.taken.known;
    read = ap (language.reads []) spelled-words ∙ is.taken.read;
  }

  pub ready : IsReady reading.macros reading.known.aliases printed
  ready = record {
    statement = is.statement;
    tiled = subst (AreTiled printed.text 0) (sym (words-are printed.text is.line)) (tokens-tiled printed.text);
    begins = λ first more e.
        first-start Taken 0 printed.text [] is.statement.begins first more (ap (tokens_at Taken false 0) (append-nil printed.text) ∙ sym (words-are printed.text is.line) ∙ e);
    free = is.free;
  }

-- ---- all of them

module _ {X : Type 0} (P Q : X → Type 0) where
  pub all-map : (xs : List X) → ((x : X) → P x → Q x) → AllByRecursion P xs → AllByRecursion Q xs
  all-map [] each all = tt
  all-map (x ∷ xs) each all = (each x all.0, all-map xs each all.1)

loud-note : (tags : List (List ℕ)) (note : NoteValue) (i : Instr) → is_whole note ≡ true → is_quiet (skip_blanks (item_note tags note i)) ≡ false
unfolding skip_blanks
loud-note tags note i whole =
    of note.item (named (codes " u=") note.unit ++ (numbered (codes " c=") note.cycle ++ ((codes " line=" ++ decimal note.line) ++ marks_note tags i)))
    (and_parts (fits note.item) (is_some note.unit && (fits note.cycle && nat_lt note.line (2 ^ 64))) whole).0
  where
    of : (item : Option ℕ) (more : List ℕ) → fits item ≡ true → is_quiet (skip_blanks (numbered (codes "i=") item ++ more)) ≡ false
    of None more e = absurd cc
    of (Some n) more e = refl

pub all-right : (language : Language) (reading : Reading) (pairs : List Pair) (tags : List (List ℕ)) (items : List Instr) (notes : List NoteValue) → IsLanguage language → AreSpelled language [] items
    → AllByRecursion IsStatement (texts_of language items) → list_all (is_unnamed_text reading) (texts_of language items) ≡ true → list_all is_whole notes ≡ true
    → AllByRecursion (IsRight language reading) (entries (language.printed pairs) tags items notes)
unfolding entries
all-right language reading pairs tags [] notes lawful spelled statements free whole = tt
all-right language reading pairs tags (i ∷ items) [] lawful spelled statements free whole = tt
all-right language reading pairs tags (i ∷ items) (note ∷ notes) lawful spelled statements free whole =
    let text = language.printed [] (unmarked i) in
    let same : language.printed pairs i ≡ text = spelled-printed language pairs i lawful spelled.0 in
    let one = and_parts (is_unnamed_text reading text) (list_all (is_unnamed_text reading) (texts_of language items)) free in
    let noted = and_parts (is_whole note) (list_all is_whole notes) whole in (
      record {
        statement = subst IsStatement (sym same) statements.0;
        line = ap (list_all is_no_feed) same ∙ lawful.one_line [] spelled.0.words (unmarked i) spelled.0.known spelled.0.read;
        taken = subst (λ t. IsSpelledAt language [] Taken t 0 [] (unmarked i)) (sym same) (lawful.again [] spelled.0.words (unmarked i) spelled.0.known spelled.0.read Taken 0 [] refl);
        free = ap (is_unnamed_text reading) same ∙ one.0;
        loud = loud-note tags note i noted.0;
      },
      all-right language reading pairs tags items notes lawful spelled.1 statements.1 one.1 noted.1,
    )

-- their texts
pub entries-texts : (language : Language) (pairs : List Pair) (tags : List (List ℕ)) (items : List Instr) (notes : List NoteValue) → IsLanguage language → AreSpelled language [] items → length notes ≡ length items
    → map (λ (p : Printed). p.text) (entries (language.printed pairs) tags items notes) ≡ texts_of language items
unfolding entries
entries-texts language pairs tags [] notes lawful spelled each = refl
entries-texts language pairs tags (i ∷ items) [] lawful spelled each = absurd (omega arith)
entries-texts language pairs tags (i ∷ items) (note ∷ notes) lawful spelled each =
    ap (λ t. t ∷ map (λ (p : Printed). p.text) (entries (language.printed pairs) tags items notes)) (spelled-printed language pairs i lawful spelled.0)
    ∙ ap (λ ts. language.printed [] (unmarked i) ∷ ts) (entries-texts language pairs tags items notes lawful spelled.1 (omega arith))
