-- The names of tags. A tag is numbered by the place of its name, in the order in
-- which the names come.
use Rattle.std.specs.Prelude.{ℕ, suc, nat_lt, List, [], ◌∷◌, ◌++◌, length, Option, None, Some, if◌then◌else◌}
use Rattle.std.specs.Str.{bytes_eq}

-- the place of a name among names, and the number behind the last where it is none of them
unfoldable pub place_of : List ℕ → List (List ℕ) → ℕ
place_of name [] = 0
place_of name (first ∷ names) = if bytes_eq first name then 0 else suc (place_of name names)

-- names with one more, if it isn't among them
abbrev pub with_name : List ℕ → List (List ℕ) → List (List ℕ)
with_name name names =
    if nat_lt (place_of name names) (length names) then names else names ++ name ∷ []

-- names with that of a tag, where one is said
abbrev pub with_tag : Option (List ℕ) → List (List ℕ) → List (List ℕ)
with_tag None names = names
with_tag (Some name) names = with_name name names
