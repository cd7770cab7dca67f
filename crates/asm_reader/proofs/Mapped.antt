-- Tests of lists whose elements were changed, and the last of such a list.
use Rattle.std.proofs.Common.{◌≡◌, ℕ, slice_get, option_map, Bool, ◌&&◌, ◌||◌, List, [], ◌∷◌, map, refl, ap}
use Rattle.std.specs.List.{list_any, list_all}
use Rattle.std.proofs.lemmas.Option.{slice_get-map}
use Rattle.asm_reader.specs.Drafts.{with_last}

pub any_map : {X Y : Type 0} (p : Y → Bool) (f : X → Y) (xs : List X) → list_any p (map f xs) ≡ list_any (λ x. p (f x)) xs
any_map p f [] = refl
any_map p f (x ∷ xs) = ap (λ b. p (f x) || b) (any_map p f xs)

pub all_map : {X Y : Type 0} (p : Y → Bool) (f : X → Y) (xs : List X) → list_all p (map f xs) ≡ list_all (λ x. p (f x)) xs
all_map p f [] = refl
all_map p f (x ∷ xs) = ap (λ b. p (f x) && b) (all_map p f xs)

-- an element at a place, where there is one
pub get_map : {X Y : Type 0} (f : X → Y) (xs : List X) (k : ℕ) → slice_get (map f xs) k ≡ option_map f (slice_get xs k)
get_map f xs k = slice_get-map f xs k

-- a last element that is put in the place of another
pub last_map : {X Y : Type 0} (f : X → Y) (x : X) (xs : List X) → map f (with_last (λ old. x) xs) ≡ with_last (λ old. f x) (map f xs)
unfolding with_last
last_map f x [] = refl
last_map f x (y ∷ []) = refl
last_map f x (y ∷ z ∷ xs) = ap (λ rest. f y ∷ rest) (last_map f x (z ∷ xs))
