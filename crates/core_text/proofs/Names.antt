-- Names of the code, beside the texts that they are.
use Rattle.std.proofs.Common.{◌≡◌, ◌∙◌, ◌+◌, ℕ, Bool, true, false, ◌||◌, cond, List, [], ◌∷◌, map, Option, None, Some, String, Global, Bor, string_bytes, refl, sym, ap}
use Rattle.std.specs.List.{list_any, find, position, position_from}
use Rattle.std.specs.Option.{option_map}
use Rattle.std.specs.Str.{bytes_eq}
use Rattle.std.proofs.lemmas.Iterator.Adapters.{position_from-zero}
use Rattle.toml.specs.View.{view, items_view, members_view}
use Rattle.toml.specs.declared.value.Value.{Value}
use Rattle.core_text.specs.Refusal.{Text}
use Rattle.core_text.specs.ClassNames.{is_among, place_of}
use Rattle.core_text.specs.Reading.{values_of, members_of}

pub among-is : (name : Text) (names : List (Bor Text)) → list_any (λ other. bytes_eq other.now name) names ≡ is_among name (map (λ other. other.now) names)
among-is name [] = refl
among-is name (n ∷ names) = ap (λ b. bytes_eq n.now name || b) (among-is name names)

from-is : (name : Text) (names : List (Bor Text)) (i : ℕ) → position_from (λ other. bytes_eq other.now name) i names ≡ position_from (λ other. bytes_eq other name) i (map (λ other. other.now) names)
from-is name [] i = refl
from-is name (n ∷ names) i = ap (λ o. cond (bytes_eq n.now name) (Some i) o) (from-is name names (i + 1))

pub place-is : (name : Text) (names : List (Bor Text)) → position (λ other. bytes_eq other.now name) names ≡ place_of name (map (λ other. other.now) names)
place-is name names =
    position_from-zero (λ other. bytes_eq other.now name) names ∙ from-is name names 0 ∙ sym (position_from-zero (λ other. bytes_eq other name) (map (λ other. other.now) names))

pub values-are : (vs : List Value) → values_of (items_view vs) ≡ map view vs
values-are [] = refl
values-are (v ∷ vs) = ap (λ ds. view v ∷ ds) (values-are vs)

keys-are : (es : List (String Global × Value)) → map (λ k. string_bytes k) (map (λ e. e.0) es) ≡ map (λ entry. entry.0) (members_of (members_view es))
keys-are [] = refl
keys-are (e ∷ es) = ap (λ ks. string_bytes e.0 ∷ ks) (keys-are es)

found-is : (test : Text → Bool) (ks : List (String Global)) → option_map string_bytes (find (λ k. test (string_bytes k)) ks) ≡ find test (map (λ k. string_bytes k) ks)
found-is test [] = refl
found-is test (k ∷ ks) = go (test (string_bytes k)) (found-is test ks)
  where
    go : (b : Bool) → option_map string_bytes (find (λ k. test (string_bytes k)) ks) ≡ find test (map (λ k. string_bytes k) ks)
        → option_map string_bytes (cond b (Some k) (find (λ k. test (string_bytes k)) ks)) ≡ cond b (Some (string_bytes k)) (find test (map (λ k. string_bytes k) ks))
    go true e = refl
    go false e = e

text-of : (r : Option (Bor (String Global))) → option_map (λ k. string_bytes k.now) r ≡ option_map string_bytes (option_map (λ k. k.now) r)
text-of None = refl
text-of (Some k) = refl

-- the first key of a map that fails a test
pub unknown-is : (test : Text → Bool) (es : List (String Global × Value)) (r : Option (Bor (String Global)))
    → option_map (λ k. k.now) r ≡ find (λ k. test (string_bytes k)) (map (λ e. e.0) es)
    → option_map (λ k. string_bytes k.now) r ≡ find test (map (λ entry. entry.0) (members_of (members_view es)))
unknown-is test es r e = text-of r ∙ ap (option_map string_bytes) e ∙ found-is test (map (λ e. e.0) es) ∙ ap (find test) (keys-are es)
