-- An element that is like no other of a list, and what is made of it.
use Rattle.std.proofs.Common.{◌≡◌, ℕ, suc, ◌≤◌, ◌==◌, Bool, true, false, cond, filter, List, [], ◌∷◌, length, Option, None, Some, ⊎_elim, refl, sym, ap, ◌∙◌, slice_get, is_some, option_and_then, arith}
use Rattle.std.specs.List.{filter_map, cons_option}
use Rattle.std.proofs.lemmas.Option.{slice_get_past, slice_get_cases}
use Rattle.sl_model.specs.declared.instruction.FormInfo.{FormInfo}
use Rattle.sl_model.specs.Lawful.{is_alone, is_base_alone}
use Rattle.sl_laws.proofs.Elements.{filter_map-at, filter_map-length}

-- What is made of the elements of a list is alike exactly where they are.
pub record MakesAlike {X Y : Type 0} (same : X → X → Bool) (like : Y → Y → Bool) (h : X → Option Y) (xs : List X) : Type 0 where
  pub made : (k : ℕ) (x : X) → slice_get xs k ≡ Some x → (y : Y) × (h x ≡ Some y)
  pub alike : (j k : ℕ) (a b : X) (y z : Y) → slice_get xs j ≡ Some a → slice_get xs k ≡ Some b → h a ≡ Some y → h b ≡ Some z → like y z ≡ same a b

-- what one element adds
kept_alike : {X Y : Type 0} (b : Bool) (x : X) (y : Y) (xs : List X) (ys : List Y) → length ys ≡ length xs → length (cond b (y ∷ ys) ys) ≡ length (cond b (x ∷ xs) xs)
kept_alike true x y xs ys e = ap suc e
kept_alike false x y xs ys e = e

-- where each passes a test as what it is made of passes another, as many pass
length-filter_made : {X Y : Type 0} (p : X → Bool) (q : Y → Bool) (h : X → Option Y) (xs : List X) → ((k : ℕ) (x : X) → slice_get xs k ≡ Some x → (y : Y) × (h x ≡ Some y) × (q y ≡ p x)) → length (filter q (filter_map h xs)) ≡ length (filter p xs)
length-filter_made p q h [] each = refl
length-filter_made p q h (x ∷ xs) each =
    let first = each 0 x refl in
    ap (λ o. length (filter q (cons_option o (filter_map h xs)))) first.1
    ∙ ap (λ b. length (cond b (first.0 ∷ filter q (filter_map h xs)) (filter q (filter_map h xs)))) first.2
    ∙ kept_alike (p x) x first.0 (filter p xs) (filter q (filter_map h xs)) (length-filter_made p q h xs (λ k y at. each (suc k) y at))

module _ {X Y : Type 0} (same : X → X → Bool) (like : Y → Y → Bool) (h : X → Option Y) (xs : List X) (makes : MakesAlike same like h xs) where
  -- an element that is alone, at its place
  alone-at : (k : ℕ) (x : X) → slice_get xs k ≡ Some x → is_alone same xs (Some x) ≡ true → is_alone like (filter_map h xs) (slice_get (filter_map h xs) k) ≡ true
  alone-at k x at alone =
      let first = makes.made k x at in
      ap (is_alone like (filter_map h xs)) (filter_map-at h xs makes.made k x at ∙ first.1)
      ∙ ap (λ n. n == 1) (length-filter_made (same x) (like first.0) h xs (λ j a there. (let other = makes.made j a there in (other.0, other.1, makes.alike k j x a first.0 other.0 at there first.1 other.1))))
      ∙ alone

  -- the same at any place
  alone-made : (k : ℕ) → is_alone same xs (slice_get xs k) ≡ true → is_alone like (filter_map h xs) (slice_get (filter_map h xs) k) ≡ true
  alone-made k alone = ⊎_elim
      (λ found. alone-at k found.0 found.2 (ap (is_alone same xs) (sym found.2) ∙ alone))
      (λ past.
      let count : length (filter_map h xs) ≡ length xs = filter_map-length h xs makes.made in
      let few : length xs ≤ k = past.0 in
      ap (is_alone like (filter_map h xs)) (slice_get_past (filter_map h xs) k (omega arith)))
      (slice_get_cases xs k).1

  alone-place : (place : Option ℕ) → is_alone same xs (option_and_then (slice_get xs) place) ≡ true → is_alone like (filter_map h xs) (option_and_then (slice_get (filter_map h xs)) place) ≡ true
  alone-place None alone = refl
  alone-place (Some k) alone = alone-made k alone

  -- A base that is alone among what operands are is alone among what is made of them.
  pub base_alone-made : (info : FormInfo) → is_base_alone same info xs ≡ true → is_base_alone like info (filter_map h xs) ≡ true
  base_alone-made info alone = by (is_some info.back) (alone-place info.base) alone
    where
      by : (b : Bool) {u v : Bool} → (u ≡ true → v ≡ true) → cond b u true ≡ true → cond b v true ≡ true
      by true f e = f e
      by false f e = refl
