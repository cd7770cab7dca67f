-- Texts that are written one behind the other.
use Rattle.std.proofs.Common.{◌≡◌, ℕ, ◌+◌, ◌^◌, ◌-◌, ◌<◌, ◌≤◌, List, [], ◌∷◌, ◌++◌, length, take, drop, map, get_or, Option, None, Some, refl, ap, sym, ◌∙◌, arith, append_assoc, append-nil}
use Rattle.std.proofs.Math.Seq.{take-append-add}
use Rattle.std.proofs.lemmas.List.{take_more, map-append, take-append-drop, take-append-le}
use Rattle.std.specs.Io.KnownBytes.{append_known}
use Rattle.sl_model.specs.Text.{joined}
use Rattle.sl_base.specs.Faults.{HasRisen}

joined-append : (xs ys : List (List ℕ)) → joined (xs ++ ys) ≡ joined xs ++ joined ys
unfolding joined
joined-append [] ys = refl
joined-append (x ∷ xs) ys = ap (λ t. x ++ t) (joined-append xs ys) ∙ sym (append_assoc x (joined xs) (joined ys))

joined-one : (x : List ℕ) → joined (x ∷ []) ≡ x
unfolding joined
joined-one x = append-nil x

-- one more text
pub joined-more : {A : Type 0} (view : A → List ℕ) (xs : List A) (i : ℕ) (d : A) (piece : List ℕ) → i < length xs → piece ≡ view (get_or xs i d)
    → joined (map view (take (i + 1) xs)) ≡ joined (map view (take i xs)) ++ piece
joined-more view xs i d piece h e =
    ap (λ t. joined (map view t)) (take_more xs i d h) ∙ ap joined (map-append view (take i xs) (get_or xs i d ∷ []))
    ∙ joined-append (map view (take i xs)) (view (get_or xs i d) ∷ []) ∙ ap (λ t. joined (map view (take i xs)) ++ t) (joined-one (view (get_or xs i d)) ∙ sym e)

-- all texts are those up to a place and those behind it
joined-parts : {A : Type 0} (view : A → List ℕ) (xs : List A) (n : ℕ) → joined (map view xs) ≡ joined (map view (take n xs)) ++ joined (map view (drop n xs))
joined-parts view xs n = ap (λ t. joined (map view t)) (sym (take-append-drop n xs)) ∙ ap joined (map-append view (take n xs) (drop n xs)) ∙ joined-append (map view (take n xs)) (map view (drop n xs))

-- a front of one text, behind those before it, is a front of all
pub front_of_all : {A : Type 0} (view : A → List ℕ) (xs : List A) (i : ℕ) (d : A) (piece : List ℕ) (sent : ℕ) → i < length xs → piece ≡ view (get_or xs i d) → sent ≤ length piece
    → joined (map view (take i xs)) ++ take sent piece ≡ take (length (joined (map view (take i xs))) + sent) (joined (map view xs))
front_of_all view xs i d piece sent h e s =
    let before = joined (map view (take i xs)) in
    let behind = joined (map view (drop (i + 1) xs)) in
    let whole : joined (map view xs) ≡ before ++ (piece ++ behind) =
    joined-parts view xs (i + 1) ∙ ap (λ t. t ++ behind) (joined-more view xs i d piece h e) ∙ append_assoc before piece behind in
    sym (ap (take (length before + sent)) whole ∙ take-append-add before (piece ++ behind) sent ∙ ap (λ t. before ++ t) (take-append-le sent piece behind s))

-- a count that has risen from a later value has risen
pub risen_before : (a b c : ℕ) → a ≤ b → HasRisen b c → HasRisen a c
risen_before a b c h r = λ (low : c < 2 ^ 64 - 1). let k : b < c = r low in omega arith

-- nothing was told yet
pub nothing_told : (known : Option (List ℕ)) → known ≡ append_known known (joined [])
unfolding joined
nothing_told None = refl
nothing_told (Some bytes) = ap Some (sym (append-nil bytes))
