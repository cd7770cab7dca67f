-- Quotients that are rounded up, and the greatest of numbers.
use Rattle.std.proofs.Common.{◌≡◌, ℕ, zero, suc, ◌+◌, ◌-◌, ◌*◌, ◌/◌, ◌≤◌, List, [], ◌∷◌, map, inl, inr, ⊎_elim, refl, ap, arith}
use Rattle.std.proofs.lemmas.Nat.{le-div, div-add-mod'}
use Rattle.sl_model.specs.Cycles.{ceil_div}
use Rattle.search_space.specs.Bound.{greatest}
use Rattle.sl_laws.proofs.Members.{Has}

-- a quotient times its divisor
div-times : (n w : ℕ) → n / w * w ≤ n
div-times n w = omega (arith, div-add-mod' n w)

pub ceil-mono : (w m n : ℕ) → 1 ≤ w → m ≤ n → ceil_div m w ≤ ceil_div n w
ceil-mono w m n some le =
    le-div ((m + w - 1) / w) (n + w - 1) w (omega arith) (let t : (m + w - 1) / w * w ≤ m + w - 1 = div-times (m + w - 1) w in omega arith)

-- one more cycle takes as many items as the core is wide
pub ceil-step : (w n : ℕ) → 1 ≤ w → ceil_div n w ≤ 1 + ceil_div (n - w) w
ceil-step w n some = by ((n + w - 1) / w) (div-times (n + w - 1) w)
  where
    by : (q : ℕ) → q * w ≤ n + w - 1 → q ≤ 1 + ceil_div (n - w) w
    by zero le = omega arith
    by (suc q) le =
        let less : q * w ≤ n - w + w - 1 = omega arith in
        let there : q ≤ (n - w + w - 1) / w = le-div q (n - w + w - 1) w (omega arith) less in
        omega arith

pub ceil-zero : (w : ℕ) → 1 ≤ w → ceil_div 0 w ≡ 0
ceil-zero w some =
    let t : (0 + w - 1) / w * w ≤ 0 + w - 1 = div-times (0 + w - 1) w in
    by ((0 + w - 1) / w) t
  where
    by : (q : ℕ) → q * w ≤ 0 + w - 1 → q ≡ 0
    by zero le = refl
    by (suc q) le = let p : w + q * w ≤ w - 1 = omega arith in absurd (omega arith)

module _ {X : Type 0} where
  -- the greatest is at most a number where each is
  pub greatest-within : (f : X → ℕ) (xs : List X) (a most : ℕ) → a ≤ most → ((x : X) → Has x xs → f x + a ≤ most) → greatest (map f xs) + a ≤ most
  unfolding greatest
  greatest-within f [] a most start each = omega arith
  greatest-within f (x ∷ xs) a most start each =
      let here : f x + a ≤ most = each x (inl refl) in
      let rest : greatest (map f xs) + a ≤ most = greatest-within f xs a most start (λ y h. each y (inr h)) in
      omega arith

  -- each is at most the greatest
  pub greatest-has : (f : X → ℕ) (x : X) (xs : List X) → Has x xs → f x ≤ greatest (map f xs)
  unfolding greatest
  greatest-has f x [] h = absurd h
  greatest-has f x (y ∷ xs) h = ⊎_elim
      (λ (here : y ≡ x). let same : f y ≡ f x = ap f here in omega arith)
      (λ (there : Has x xs). let rest : f x ≤ greatest (map f xs) = greatest-has f x xs there in omega arith)
      h

  pub greatest-mono : (f g : X → ℕ) (xs : List X) → ((x : X) → f x ≤ g x) → greatest (map f xs) ≤ greatest (map g xs)
  unfolding greatest
  greatest-mono f g [] each = omega arith
  greatest-mono f g (x ∷ xs) each =
      let here : f x ≤ g x = each x in
      let rest : greatest (map f xs) ≤ greatest (map g xs) = greatest-mono f g xs each in
      omega arith
