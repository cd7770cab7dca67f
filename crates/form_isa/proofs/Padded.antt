-- Classes, ties and values in so many places.
use Rattle.std.proofs.Common.{◌≡◌, ◌∙◌, ap, refl, ℕ, List, [], ◌∷◌, slice_index, slice_index_or}
use Rattle.std.specs.Prelude.{Option, None}
use Rattle.sl_model.specs.declared.register.RegSet.{RegSet}
use Rattle.sl_isa.specs.Arch.{padded_values}
use Rattle.form_isa.specs.Info.{no_register, padded_classes, padded_ties}

-- a place of four, and none behind the last one
abbrev at : List RegSet → ℕ → RegSet
at sets place = slice_index_or sets place no_register

-- the first three of four places
first_three : (sets : List RegSet) →
    at (padded_classes 4 sets) 0 ∷ at (padded_classes 4 sets) 1 ∷ at (padded_classes 4 sets) 2 ∷ [] ≡ padded_classes 3 sets
unfolding padded_classes
first_three [] = refl
first_three (a ∷ []) = refl
first_three (a ∷ b ∷ []) = refl
first_three (a ∷ b ∷ c ∷ sets) = refl

pub padded_three : (sets four : List RegSet) → four ≡ padded_classes 4 sets →
    at four 0 ∷ at four 1 ∷ at four 2 ∷ [] ≡ padded_classes 3 sets
padded_three sets four e = ap (λ v. at v 0 ∷ at v 1 ∷ at v 2 ∷ []) e ∙ first_three sets

-- another class before them
put_before : (set : RegSet) (sets : List RegSet) → set ∷ padded_classes 3 sets ≡ padded_classes 4 (set ∷ sets)
unfolding padded_classes
put_before set sets = refl

pub padded_cons : (set : RegSet) (sets four : List RegSet) → four ≡ padded_classes 4 sets →
    set ∷ at four 0 ∷ at four 1 ∷ at four 2 ∷ [] ≡ padded_classes 4 (set ∷ sets)
padded_cons set sets four e = ap (λ v. set ∷ v) (padded_three sets four e) ∙ put_before set sets

-- the same of ties
first_two : (places : List (Option ℕ)) →
    slice_index_or (padded_ties 3 places) 0 None ∷ slice_index_or (padded_ties 3 places) 1 None ∷ [] ≡ padded_ties 2 places
unfolding padded_ties
first_two [] = refl
first_two (a ∷ []) = refl
first_two (a ∷ b ∷ places) = refl

behind_tie : (tie : Option ℕ) (places : List (Option ℕ)) → tie ∷ padded_ties 2 places ≡ padded_ties 3 (tie ∷ places)
unfolding padded_ties
behind_tie tie places = refl

pub tied_cons : (tie : Option ℕ) (places three : List (Option ℕ)) → three ≡ padded_ties 3 places →
    tie ∷ slice_index_or three 0 None ∷ slice_index_or three 1 None ∷ [] ≡ padded_ties 3 (tie ∷ places)
tied_cons tie places three e =
    ap (λ v. tie ∷ slice_index_or v 0 None ∷ slice_index_or v 1 None ∷ []) e
    ∙ (ap (λ v. tie ∷ v) (first_two places) ∙ behind_tie tie places)

-- and of values
two_values : (values : List ℕ) →
    slice_index (padded_values 3 values) 0 ∷ slice_index (padded_values 3 values) 1 ∷ [] ≡ padded_values 2 values
unfolding padded_values
two_values [] = refl
two_values (a ∷ []) = refl
two_values (a ∷ b ∷ values) = refl

behind_value : (value : ℕ) (values : List ℕ) → value ∷ padded_values 2 values ≡ padded_values 3 (value ∷ values)
unfolding padded_values
behind_value value values = refl

pub value_cons : (value : ℕ) (values three : List ℕ) → three ≡ padded_values 3 values →
    value ∷ slice_index three 0 ∷ slice_index three 1 ∷ [] ≡ padded_values 3 (value ∷ values)
value_cons value values three e =
    ap (λ v. value ∷ slice_index v 0 ∷ slice_index v 1 ∷ []) e
    ∙ (ap (λ v. value ∷ v) (two_values values) ∙ behind_value value values)
