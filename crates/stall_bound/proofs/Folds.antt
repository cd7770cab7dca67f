-- The greatest of what the elements of a list give, each with its place, taken one after the other.
use Rattle.std.proofs.Common.{◌≡◌, ℕ, ◌+◌, ◌<◌, ◌≤◌, List, [], ◌∷◌, length, drop, get_or, max, ap, ◌∙◌, arith}
use Rattle.std.proofs.lemmas.List.{drop_all, drop_more}

module _ {X : Type 0} (f : ℕ → X → ℕ) (all : ℕ → List X → ℕ) where
  -- past an element what it gives is counted
  pub fold-more : ((k : ℕ) (x : X) (xs : List X) → all k (x ∷ xs) ≡ max (f k x) (all (k + 1) xs))
      → (k now next total : ℕ) (xs : List X) (d : X) → k < length xs → next ≡ max (f k (get_or xs k d)) now
      → max now (all k (drop k xs)) ≡ total → max next (all (k + 1) (drop (k + 1) xs)) ≡ total
  fold-more step k now next total xs d within greatest before =
      let split : all k (drop k xs) ≡ max (f k (get_or xs k d)) (all (k + 1) (drop (k + 1) xs)) =
      ap (all k) (drop_more xs k d within) ∙ step k (get_or xs k d) (drop (k + 1) xs) in
      omega arith

  -- where no element is left, all is counted
  pub fold-done : ((k : ℕ) → all k [] ≡ 0) → (k now total : ℕ) (xs : List X) → length xs ≤ k → max now (all k (drop k xs)) ≡ total → now ≡ total
  fold-done none k now total xs past so_far =
      let left : all k (drop k xs) ≡ 0 = ap (all k) (drop_all k xs past) ∙ none k in
      omega arith
