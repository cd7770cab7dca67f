-- Lemmas on words in a text.
use Rattle.std.proofs.Common.{◌≡◌, ℕ, ◌+◌, Bool, true, false, ◌&&◌, ◌||◌, ◌↔◌, List, [], ◌∷◌, ◌++◌, length, drop, nat_eq, eqb, refl, sym, ap, ◌∙◌, subst, codes, drop-drop}
use Rattle.std.specs.List.{starts_with}
use Rattle.std.specs.Str.Iter.{HasSubslice}
use Rattle.sl_model.specs.Text.{holds, is_quiet, skip_blanks, is_marker}
use Rattle.std.proofs.lemmas.Bool.{or_right}
use Rattle.sl_laws.proofs.Texts.{front_starts, starts_front}

-- ---- a word at a text's start

-- a text starts with two words where it starts with one and goes on with the other
pub starts-append : (text word more : List ℕ) → starts_with nat_eq text (word ++ more) ≡ (starts_with nat_eq text word && starts_with nat_eq (drop (length word) text) more)
starts-append text [] more = refl
starts-append [] (x ∷ word) more = refl
starts-append (c ∷ text) (x ∷ word) more = elim (eqb x c) as (λ b. (b && starts_with nat_eq text (word ++ more)) ≡ ((b && starts_with nat_eq text word) && starts_with nat_eq (drop (length word) text) more)) [ true ↦ starts-append text word more | false ↦ refl ]

-- ---- a word somewhere in a text

one_of : (P : Type 0) (a b : Bool) → (a ≡ true → P) → (b ≡ true → P) → (a || b) ≡ true → P
one_of P true b left right e = left refl
one_of P false b left right e = right e

holds_found : (word text : List ℕ) → holds word text ≡ true → HasSubslice text word
unfolding holds
holds_found word [] e = let rest = starts_front word [] e in ([], rest.0, rest.1)
holds_found word (c ∷ text) e = one_of (HasSubslice (c ∷ text) word) (starts_with nat_eq (c ∷ text) word) (holds word text)
    (λ here. let rest = starts_front word (c ∷ text) here in ([], rest.0, rest.1))
    (λ below. let found = holds_found word text below in (c ∷ found.0, found.1, ap (λ v. c ∷ v) found.2)) e

holds_here : (word text : List ℕ) → starts_with nat_eq text word ≡ true → holds word text ≡ true
unfolding holds
holds_here word [] e = e
holds_here word (c ∷ text) e = ap (λ b. b || holds word text) e

found_holds : (word front rest : List ℕ) → holds word (front ++ (word ++ rest)) ≡ true
unfolding holds
found_holds word [] rest = holds_here word (word ++ rest) (front_starts word rest)
found_holds word (c ∷ front) rest = or_right (starts_with nat_eq (c ∷ (front ++ (word ++ rest))) word) (holds word (front ++ (word ++ rest))) (found_holds word front rest)

same_test : (a b : Bool) → (a ≡ true → b ≡ true) → (b ≡ true → a ≡ true) → a ≡ b
same_test true b to from = sym (to refl)
same_test false true to from = from refl
same_test false false to from = refl

-- a word is held where the text is something, the word and something
pub holds_is : (found : Bool) (word text : List ℕ) → (found ≡ true) ↔ HasSubslice text word → found ≡ holds word text
holds_is found word text means = same_test found (holds word text)
    (λ e. let at = means.0 e in subst (λ t. holds word t ≡ true) (sym at.2) (found_holds word at.0 at.1))
    (λ e. means.1 (holds_found word text e))

-- ---- a marker

-- what makes a marker, step by step
pub marker_steps : (label line : List ℕ) → is_marker label line ≡ (starts_with nat_eq (skip_blanks line) label && (starts_with nat_eq (drop (length label) (skip_blanks line)) (codes ":") && is_quiet (skip_blanks (drop 1 (drop (length label) (skip_blanks line))))))
unfolding is_marker
marker_steps label line =
    ap (λ b. b && is_quiet (skip_blanks (drop (length label + 1) (skip_blanks line)))) (starts-append (skip_blanks line) label (codes ":"))
    ∙ ap (λ t. (starts_with nat_eq (skip_blanks line) label && starts_with nat_eq (drop (length label) (skip_blanks line)) (codes ":")) && is_quiet (skip_blanks t)) (sym (drop-drop 1 (length label) (skip_blanks line)))
    ∙ and_assoc (starts_with nat_eq (skip_blanks line) label) (starts_with nat_eq (drop (length label) (skip_blanks line)) (codes ":")) (is_quiet (skip_blanks (drop 1 (drop (length label) (skip_blanks line)))))
  where
    and_assoc : (a b c : Bool) → ((a && b) && c) ≡ (a && (b && c))
    and_assoc true b c = refl
    and_assoc false b c = refl

-- a line that does not begin with the label
pub marker_no_label : (label line spelled : List ℕ) → spelled ≡ skip_blanks line → starts_with nat_eq spelled label ≡ false → is_marker label line ≡ false
marker_no_label label line spelled e absent =
    let absent' : starts_with nat_eq (skip_blanks line) label ≡ false = subst (λ t. starts_with nat_eq t label ≡ false) e absent in
    marker_steps label line ∙ ap (λ b. b && (starts_with nat_eq (drop (length label) (skip_blanks line)) (codes ":") && is_quiet (skip_blanks (drop 1 (drop (length label) (skip_blanks line)))))) absent'

-- a line with no colon behind the label
pub marker_no_colon : (label line spelled : List ℕ) → spelled ≡ skip_blanks line → starts_with nat_eq spelled label ≡ true → starts_with nat_eq (drop (length label) spelled) (codes ":") ≡ false → is_marker label line ≡ false
marker_no_colon label line spelled e starts absent =
    let starts' : starts_with nat_eq (skip_blanks line) label ≡ true = subst (λ t. starts_with nat_eq t label ≡ true) e starts in
    let absent' : starts_with nat_eq (drop (length label) (skip_blanks line)) (codes ":") ≡ false = subst (λ t. starts_with nat_eq (drop (length label) t) (codes ":") ≡ false) e absent in
    marker_steps label line
    ∙ ap (λ b. b && (starts_with nat_eq (drop (length label) (skip_blanks line)) (codes ":") && is_quiet (skip_blanks (drop 1 (drop (length label) (skip_blanks line)))))) starts'
    ∙ ap (λ b. b && is_quiet (skip_blanks (drop 1 (drop (length label) (skip_blanks line))))) absent'

-- a line that begins with the label and a colon
pub marker_quiet : (label line spelled : List ℕ) → spelled ≡ skip_blanks line → starts_with nat_eq spelled label ≡ true → starts_with nat_eq (drop (length label) spelled) (codes ":") ≡ true → is_marker label line ≡ is_quiet (skip_blanks (drop 1 (drop (length label) spelled)))
marker_quiet label line spelled e starts colon =
    let starts' : starts_with nat_eq (skip_blanks line) label ≡ true = subst (λ t. starts_with nat_eq t label ≡ true) e starts in
    let colon' : starts_with nat_eq (drop (length label) (skip_blanks line)) (codes ":") ≡ true = subst (λ t. starts_with nat_eq (drop (length label) t) (codes ":") ≡ true) e colon in
    marker_steps label line
    ∙ ap (λ b. b && (starts_with nat_eq (drop (length label) (skip_blanks line)) (codes ":") && is_quiet (skip_blanks (drop 1 (drop (length label) (skip_blanks line)))))) starts'
    ∙ ap (λ b. b && is_quiet (skip_blanks (drop 1 (drop (length label) (skip_blanks line))))) colon'
    ∙ ap (λ t. is_quiet (skip_blanks (drop 1 (drop (length label) t)))) (sym e)
