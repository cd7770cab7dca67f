-- The names of units.
use Rattle.std.proofs.Common.{◌≡◌, ◌∙◌, ◌<◌, ℕ, true, List, [], ◌∷◌, map, length, get_or, String, Global, string_bytes, refl, ap}
use Rattle.std.specs.List.{list_all}
use Rattle.std.proofs.lemmas.Bool.{and_from, and_parts}
use Rattle.std.proofs.lemmas.List.Sums.{AllPass-from_list_all}
use Rattle.core_text.specs.Refusal.{Text}
use Rattle.sl_model.specs.Token.{is_unit_name}

-- what all names have, each of the code's has
all-strings : (units : List (String Global)) → list_all is_unit_name (map string_bytes units) ≡ true → list_all (λ unit. is_unit_name (string_bytes unit)) units ≡ true
all-strings [] all = refl
all-strings (unit ∷ units) all =
    let parts = and_parts (is_unit_name (string_bytes unit)) (list_all is_unit_name (map string_bytes units)) all in
    and_from (is_unit_name (string_bytes unit)) (list_all (λ unit. is_unit_name (string_bytes unit)) units) parts.0 (all-strings units parts.1)

pub name-shaped : (units : List (String Global)) (i : ℕ) (unit : String Global) (text : Text) → i < length units → unit ≡ get_or units i unit → text ≡ string_bytes unit
    → list_all is_unit_name (map string_bytes units) ≡ true → is_unit_name text ≡ true
name-shaped units i unit text within at is all =
    ap is_unit_name (is ∙ ap string_bytes at) ∙ AllPass-from_list_all (λ unit. is_unit_name (string_bytes unit)) units (all-strings units all) i unit within
