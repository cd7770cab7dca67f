-- Arguments put into a body's text, step by step.
use Rattle.std.proofs.Common.{◌≡◌, ℕ, zero, suc, ◌+◌, ◌-◌, ◌<◌, ◌≤◌, Bool, true, false, not, cond, eqb, nat_eq, List, [], ◌∷◌, ◌++◌, length, map, take, drop, slice_range, get_or, codes, refl, ap, sym, ◌∙◌, arith, append_assoc, append-nil, drop-cons, ne_eqb, Option, Some, None, option_map, is_some, slice_get, position}
use Rattle.std.proofs.Math.ListN.{drop_of_length-le}
use Rattle.std.specs.List.{starts_with, prefix_len, position_from}
use Rattle.std.proofs.lemmas.Iterator.Adapters.{position_from-zero}
use Rattle.std.proofs.lemmas.List.{length-map}
use Rattle.std.proofs.lemmas.Option.{slice_get_past, slice_get-map, slice_get-get_or}
use Rattle.std.specs.Str.{bytes_eq}
use Rattle.std.specs.declared.vec.Vec.{Vec}
use Rattle.macro_expand.specs.declared.parts.Part.{Part}
use Rattle.macro_expand.specs.Spelled.{spelled, spelled_lists}
use Rattle.sl_model.specs.Token.{is_word_byte}
use Rattle.macro_expand.specs.Filled.{Names, value_of, filled, has_unknown, put_for, taken_behind, is_unknown, is_plain, name_at, or_else}

drop-nil : {X : Type 0} (n : ℕ) → drop {A = X} n [] ≡ []
drop-nil zero = refl
drop-nil (suc n) = refl

pub drop-more : {X : Type 0} (a b : ℕ) (xs : List X) → drop a (drop b xs) ≡ drop (b + a) xs
drop-more a zero xs = let e : 0 + a ≡ a = omega arith in ap (λ n. drop n xs) (sym e)
drop-more {X = X} a (suc b) [] = drop-nil {X = X} a ∙ sym (drop-nil {X = X} (suc b + a))
drop-more a (suc b) (x ∷ xs) = let e : suc b + a ≡ suc (b + a) = omega arith in drop-more a b xs ∙ sym (ap (λ n. drop n (x ∷ xs)) e)

filled-skip : (values : Names (List ℕ)) (taken : ℕ) (text : List ℕ) → filled values taken text ≡ filled values 0 (drop taken text)
unfolding filled
filled-skip values zero text = refl
filled-skip values (suc taken) [] = refl
filled-skip values (suc taken) (c ∷ text) = filled-skip values taken text

unknown-skip : (values : Names (List ℕ)) (taken : ℕ) (text : List ℕ) → has_unknown values taken text ≡ has_unknown values 0 (drop taken text)
unfolding has_unknown
unknown-skip values zero text = refl
unknown-skip values (suc taken) [] = refl
unknown-skip values (suc taken) (c ∷ text) = unknown-skip values taken text

-- a byte of a text, and the text behind what it takes
filled-here : (values : Names (List ℕ)) (text : List ℕ) (place d : ℕ) → place < length text
    → filled values 0 (drop place text) ≡ put_for values (get_or text place d) (drop (suc place) text) ++ filled values 0 (drop (suc place + taken_behind (get_or text place d) (drop (suc place) text)) text)
unfolding filled
filled-here values text place d within =
    let c = get_or text place d in
    let rest = drop (suc place) text in
    ap (filled values 0) (drop-cons text place d within)
    ∙ ap (λ v. put_for values c rest ++ v) (filled-skip values (taken_behind c rest) rest ∙ ap (filled values 0) (drop-more (taken_behind c rest) (suc place) text))

unknown-here : (values : Names (List ℕ)) (text : List ℕ) (place d : ℕ) → place < length text
    → has_unknown values 0 (drop place text) ≡ cond (is_unknown values (get_or text place d) (drop (suc place) text)) true (has_unknown values 0 (drop (suc place + taken_behind (get_or text place d) (drop (suc place) text)) text))
unfolding has_unknown
unknown-here values text place d within =
    let c = get_or text place d in
    let rest = drop (suc place) text in
    ap (has_unknown values 0) (drop-cons text place d within)
    ∙ ap (λ v. cond (is_unknown values c rest) true v) (unknown-skip values (taken_behind c rest) rest ∙ ap (has_unknown values 0) (drop-more (taken_behind c rest) (suc place) text))

-- one `\` more is filled
pub filled-backslash : (values : Names (List ℕ)) (text before after whole behind : List ℕ) (place d size : ℕ) → place < length text → get_or text place d ≡ 92
    → behind ≡ drop (place + 1) text → size ≡ taken_behind 92 behind → after ≡ before ++ put_for values 92 behind
    → before ++ filled values 0 (drop place text) ≡ whole → after ++ filled values 0 (drop (place + (1 + size)) text) ≡ whole
filled-backslash values text before after whole behind place d size within is behind_is size_is added so_far =
    let next : suc place ≡ place + 1 = omega arith in
    let behind_is' : drop (suc place) text ≡ behind = ap (λ n. drop n text) next ∙ sym behind_is in
    let further : suc place + size ≡ place + (1 + size) = omega arith in
    ap (λ v. v ++ filled values 0 (drop (place + (1 + size)) text)) added
    ∙ append_assoc before (put_for values 92 behind) (filled values 0 (drop (place + (1 + size)) text))
    ∙ ap (λ v. before ++ v)
    (sym (filled-here values text place d within
    ∙ ap (λ c. put_for values c (drop (suc place) text) ++ filled values 0 (drop (suc place + taken_behind c (drop (suc place) text)) text)) is
    ∙ ap (λ t. put_for values 92 t ++ filled values 0 (drop (suc place + taken_behind 92 t) text)) behind_is'
    ∙ ap (λ n. put_for values 92 behind ++ filled values 0 (drop (suc place + n) text)) (sym size_is)
    ∙ ap (λ n. put_for values 92 behind ++ filled values 0 (drop n text)) further))
    ∙ so_far

plain-false : (b : Bool) → not b ≡ true → b ≡ false
plain-false true e = sym e
plain-false false e = refl

plain-put : (values : Names (List ℕ)) (c : ℕ) (text : List ℕ) → is_plain c ≡ true → filled values 0 (c ∷ text) ≡ c ∷ filled values 0 text
unfolding filled
plain-put values c text is =
    let other : eqb c 92 ≡ false = plain-false (eqb c 92) is in
    ap (λ b. cond b (cond (starts_with nat_eq text (codes "()")) [] (or_else [] (values (name_at text)))) (c ∷ []) ++ filled values (cond b (cond (starts_with nat_eq text (codes "()")) 2 (prefix_len is_word_byte text)) 0) text) other

plain-step : (values : Names (List ℕ)) (c : ℕ) (text : List ℕ) (b : Bool) → is_plain c ≡ b → filled values 0 text ≡ take (prefix_len is_plain text) text ++ filled values 0 (drop (prefix_len is_plain text) text)
    → filled values 0 (c ∷ text) ≡ take (cond b (1 + prefix_len is_plain text) 0) (c ∷ text) ++ filled values 0 (drop (cond b (1 + prefix_len is_plain text) 0) (c ∷ text))
plain-step values c text false is rest = refl
plain-step values c text true is rest =
    let n = prefix_len is_plain text in
    let more : 1 + n ≡ suc n = omega arith in
    plain-put values c text is ∙ ap (λ v. c ∷ v) rest
    ∙ sym (ap (λ k. take k (c ∷ text) ++ filled values 0 (drop k (c ∷ text))) more)

-- bytes that are no `\` stay
pub filled-plain : (values : Names (List ℕ)) (text : List ℕ) → filled values 0 text ≡ take (prefix_len is_plain text) text ++ filled values 0 (drop (prefix_len is_plain text) text)
filled-plain values [] = refl
filled-plain values (c ∷ text) = plain-step values c text (is_plain c) refl (filled-plain values text)

-- a run of bytes more is filled
pub filled-run : (values : Names (List ℕ)) (text before after whole : List ℕ) (place size end : ℕ) → size ≡ prefix_len is_plain (drop place text) → end ≡ place + size
    → after ≡ before ++ slice_range text place end
    → before ++ filled values 0 (drop place text) ≡ whole → after ++ filled values 0 (drop end text) ≡ whole
filled-run values text before after whole place size end size_is end_is added so_far =
    let long : end - place ≡ size = omega arith in
    let left = filled values 0 (drop end text) in
    ap (λ v. v ++ left) added ∙ append_assoc before (slice_range text place end) left
    ∙ ap (λ n. before ++ (take n (drop place text) ++ left)) (long ∙ size_is)
    ∙ ap (λ n. before ++ (take (prefix_len is_plain (drop place text)) (drop place text) ++ filled values 0 (drop n text))) end_is
    ∙ ap (λ n. before ++ (take (prefix_len is_plain (drop place text)) (drop place text) ++ filled values 0 (drop (place + n) text))) size_is
    ∙ ap (λ t. before ++ (take (prefix_len is_plain (drop place text)) (drop place text) ++ filled values 0 t)) (sym (drop-more (prefix_len is_plain (drop place text)) place text))
    ∙ ap (λ v. before ++ v) (sym (filled-plain values (drop place text))) ∙ so_far

pub filled-done : (values : Names (List ℕ)) (text out whole : List ℕ) (place : ℕ) → length text ≤ place → out ++ filled values 0 (drop place text) ≡ whole → out ≡ whole
unfolding filled
filled-done values text out whole place all so_far =
    sym (append-nil out) ∙ ap (λ t. out ++ filled values 0 t) (sym (drop_of_length-le text {i = place} all)) ∙ so_far

some-step : (c : ℕ) (text : List ℕ) (b : Bool) → b ≡ true → 0 < cond b (1 + prefix_len is_plain text) 0
some-step c text true e = omega arith
some-step c text false e = cc

-- such a run is not empty
pub plain-some : (text : List ℕ) (place d size : ℕ) → place < length text → (get_or text place d ≡ 92 → ⊥) → size ≡ prefix_len is_plain (drop place text) → 0 < size
plain-some text place d size within other is =
    let c = get_or text place d in
    let rest = drop (suc place) text in
    let yes_plain : is_plain c ≡ true = ap not (ne_eqb c 92 other) in
    let some : 0 < prefix_len is_plain (c ∷ rest) = some-step c rest (is_plain c) yes_plain in
    let all : prefix_len is_plain (drop place text) ≡ prefix_len is_plain (c ∷ rest) = ap (prefix_len is_plain) (drop-cons text place d within) in
    omega arith

-- ---- whether a `\` names no parameter

pub unknown-backslash : (values : Names (List ℕ)) (text behind : List ℕ) (place d size : ℕ) (whole : Bool) → place < length text → get_or text place d ≡ 92
    → behind ≡ drop (place + 1) text → size ≡ taken_behind 92 behind
    → has_unknown values 0 (drop place text) ≡ whole → cond (is_unknown values 92 behind) true (has_unknown values 0 (drop (place + (1 + size)) text)) ≡ whole
unknown-backslash values text behind place d size whole within is behind_is size_is so_far =
    let next : suc place ≡ place + 1 = omega arith in
    let behind_is' : drop (suc place) text ≡ behind = ap (λ n. drop n text) next ∙ sym behind_is in
    let further : suc place + size ≡ place + (1 + size) = omega arith in
    sym (unknown-here values text place d within
    ∙ ap (λ c. cond (is_unknown values c (drop (suc place) text)) true (has_unknown values 0 (drop (suc place + taken_behind c (drop (suc place) text)) text))) is
    ∙ ap (λ t. cond (is_unknown values 92 t) true (has_unknown values 0 (drop (suc place + taken_behind 92 t) text))) behind_is'
    ∙ ap (λ n. cond (is_unknown values 92 behind) true (has_unknown values 0 (drop (suc place + n) text))) (sym size_is)
    ∙ ap (λ n. cond (is_unknown values 92 behind) true (has_unknown values 0 (drop n text))) further)
    ∙ so_far

pub unknown-plain : (values : Names (List ℕ)) (text : List ℕ) (place d : ℕ) (whole : Bool) → place < length text → (get_or text place d ≡ 92 → ⊥)
    → has_unknown values 0 (drop place text) ≡ whole → has_unknown values 0 (drop (place + 1) text) ≡ whole
unknown-plain values text place d whole within other so_far =
    let c = get_or text place d in
    let rest = drop (suc place) text in
    let no_slash : eqb c 92 ≡ false = ne_eqb c 92 other in
    let next : suc place + 0 ≡ place + 1 = omega arith in
    sym (unknown-here values text place d within
    ∙ ap (λ b. cond (cond b (cond (starts_with nat_eq rest (codes "()")) false (not (is_some (values (name_at rest))))) false) true (has_unknown values 0 (drop (suc place + cond b (cond (starts_with nat_eq rest (codes "()")) 2 (prefix_len is_word_byte rest)) 0) text))) no_slash
    ∙ ap (λ n. has_unknown values 0 (drop n text)) next)
    ∙ so_far

pub unknown-done : (values : Names (List ℕ)) (text : List ℕ) (whole : Bool) (place : ℕ) → length text ≤ place → has_unknown values 0 (drop place text) ≡ whole → false ≡ whole
unfolding has_unknown
unknown-done values text whole place all so_far = ap (has_unknown values 0) (sym (drop_of_length-le text {i = place} all)) ∙ so_far

-- ---- what the name of a parameter stands for

-- what stands at a place that may be there
abbrev pub at_found : {X : Type 0} → List X → Option ℕ → Option X
at_found xs None = None
at_found xs (Some place) = slice_get xs place

-- no place of nothing holds anything
at-nil : {X : Type 0} (found : Option ℕ) → None ≡ at_found {X = X} [] found
at-nil None = refl
at-nil (Some place) = refl

place-step : (found : Bool) (v : List ℕ) (vs : List (List ℕ)) (i j : ℕ) (later more : Option ℕ) → j ≡ suc i → at_found vs later ≡ at_found (v ∷ vs) more
    → at_found vs (cond found (Some i) later) ≡ at_found (v ∷ vs) (cond found (Some j) more)
place-step true v vs i j later more next e = ap (slice_get (v ∷ vs)) (sym next)
place-step false v vs i j later more next e = e

-- one value more before the others moves each place by one
place-later : (test : List ℕ → Bool) (v : List ℕ) (vs names : List (List ℕ)) (i j : ℕ) → j ≡ suc i → at_found vs (position_from test i names) ≡ at_found (v ∷ vs) (position_from test j names)
place-later test v vs [] i j next = refl
place-later test v vs (name ∷ names) i j next =
    place-step (test name) v vs i j (position_from test (i + 1) names) (position_from test (j + 1) names) next (place-later test v vs names (i + 1) (j + 1) (omega arith))

value-step : (found : Bool) (v : List ℕ) (vs : List (List ℕ)) (more : Option (List ℕ)) (later : Option ℕ) → more ≡ at_found (v ∷ vs) later → cond found (Some v) more ≡ at_found (v ∷ vs) (cond found (Some 0) later)
value-step true v vs more later e = refl
value-step false v vs more later e = e

-- what a name stands for is the value at its place
value-found : (name : List ℕ) (names values : List (List ℕ)) → value_of names values name ≡ at_found values (position_from (bytes_eq name) 0 names)
unfolding value_of
value-found name [] values = refl
value-found name (other ∷ names) [] = at-nil (position_from (bytes_eq name) 0 (other ∷ names))
value-found name (other ∷ names) (v ∷ vs) =
    value-step (bytes_eq name other) v vs (value_of names vs name) (position_from (bytes_eq name) (0 + 1) names)
    (value-found name names vs ∙ place-later (bytes_eq name) v vs names 0 (0 + 1) (omega arith))

module _ {A : Type 0} where
  position-mapped : (name : List ℕ) (i : ℕ) (keys : List (Vec ℕ A)) → position_from (bytes_eq name) i (map (λ k. k.items) keys) ≡ position_from (λ (k : Vec ℕ A). bytes_eq name k.items) i keys
  position-mapped name i [] = refl
  position-mapped name i (key ∷ keys) = ap (cond (bytes_eq name key.items) (Some i)) (position-mapped name (i + 1) keys)

module _ {A Z : Type 0} where
  -- the same of the values and names of the code
  pub value-at : (name : List ℕ) (keys : List (Vec ℕ A)) (values : List (Vec Part Z))
      → value_of (map (λ k. k.items) keys) (spelled_lists values) name ≡ at_found (spelled_lists values) (position (λ (k : Vec ℕ A). bytes_eq name k.items) keys)
  value-at name keys values =
      value-found name (map (λ k. k.items) keys) (spelled_lists values)
      ∙ ap (at_found (spelled_lists values)) (position-mapped name 0 keys ∙ sym (position_from-zero (λ (k : Vec ℕ A). bytes_eq name k.items) keys))

  -- a name that is none stands for nothing
  pub value-absent : (name : List ℕ) (keys : List (Vec ℕ A)) (values : List (Vec Part Z)) (found : Option ℕ) → found ≡ position (λ (k : Vec ℕ A). bytes_eq name k.items) keys → found ≡ None
      → None ≡ value_of (map (λ k. k.items) keys) (spelled_lists values) name
  value-absent name keys values found is none = sym (value-at name keys values ∙ ap (at_found (spelled_lists values)) (sym is ∙ none))

  -- nor does one behind the last value
  pub value-past : (name : List ℕ) (keys : List (Vec ℕ A)) (values : List (Vec Part Z)) (found : Option ℕ) (place : ℕ) → found ≡ position (λ (k : Vec ℕ A). bytes_eq name k.items) keys → found ≡ Some place
      → length values ≤ place → None ≡ value_of (map (λ k. k.items) keys) (spelled_lists values) name
  value-past name keys values found place is here past =
      let count = length-map values (λ (v : Vec Part Z). spelled v.items) in
      sym (value-at name keys values ∙ ap (at_found (spelled_lists values)) (sym is ∙ here) ∙ slice_get_past (spelled_lists values) place (omega arith))

  pub value-here : (name : List ℕ) (keys : List (Vec ℕ A)) (values : List (Vec Part Z)) (found : Option ℕ) (place : ℕ) (d : Vec Part Z) → found ≡ position (λ (k : Vec ℕ A). bytes_eq name k.items) keys → found ≡ Some place
      → place < length values → Some (spelled (get_or values place d).items) ≡ value_of (map (λ k. k.items) keys) (spelled_lists values) name
  value-here name keys values found place d is here within =
      sym (value-at name keys values ∙ ap (at_found (spelled_lists values)) (sym is ∙ here)
      ∙ slice_get-map (λ (v : Vec Part Z). spelled v.items) values place ∙ ap (option_map (λ (v : Vec Part Z). spelled v.items)) (slice_get-get_or values place d within))
