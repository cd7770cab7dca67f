-- Parts of a statement, joined and cut.
use Rattle.std.proofs.Common.{◌≡◌, ℕ, zero, suc, ◌+◌, ◌-◌, ◌<◌, ◌≤◌, min, List, [], ◌∷◌, ◌++◌, length, take, drop, slice_range, get_or, refl, ap, sym, ◌∙◌, arith, append_assoc, append-nil, length-drop, drop-cons, ◌⊎◌, inl, inr}
use Rattle.std.proofs.lemmas.List.{take_all}
use Rattle.std.proofs.Math.ListN.{drop_of_length-le}
use Rattle.macro_expand.specs.Words.{gap}
use Rattle.macro_expand.specs.Spelled.{spelled, spelled_part}
use Rattle.macro_expand.specs.declared.parts.Part.{Part}

pub spelled-append : (xs ys : List Part) → spelled (xs ++ ys) ≡ spelled xs ++ spelled ys
unfolding spelled
spelled-append [] ys = refl
spelled-append (x ∷ xs) ys = ap (λ v. spelled_part x ++ v) (spelled-append xs ys) ∙ sym (append_assoc (spelled_part x) (spelled xs) (spelled ys))

pub spelled-one : (xs : List Part) (x : Part) → spelled (xs ++ x ∷ []) ≡ spelled xs ++ spelled_part x
unfolding spelled
spelled-one xs x = spelled-append xs (x ∷ []) ∙ ap (λ v. spelled xs ++ v) (append-nil (spelled_part x))

drop-both : {X : Type 0} (xs ys : List X) (a : ℕ) → drop a (xs ++ ys) ≡ drop a xs ++ drop (a - length xs) ys
drop-both [] ys a = let e : a - 0 ≡ a = omega arith in none a e
  where
    none : (b : ℕ) → b - 0 ≡ b → drop b ys ≡ drop b [] ++ drop (b - 0) ys
    none zero e = refl
    none (suc b) e = ap (λ n. drop n ys) (sym e)
drop-both (x ∷ xs) ys zero = let e : 0 - suc (length xs) ≡ 0 = omega arith in ap (λ n. x ∷ (xs ++ drop n ys)) (sym e)
drop-both (x ∷ xs) ys (suc a) =
    let e : suc a - suc (length xs) ≡ a - length xs = omega arith in
    drop-both xs ys a ∙ ap (λ n. drop a xs ++ drop n ys) (sym e)

take-both : {X : Type 0} (xs ys : List X) (a : ℕ) → take a (xs ++ ys) ≡ take a xs ++ take (a - length xs) ys
take-both [] ys a = let e : a - 0 ≡ a = omega arith in none a e
  where
    none : (b : ℕ) → b - 0 ≡ b → take b ys ≡ take b [] ++ take (b - 0) ys
    none zero e = refl
    none (suc b) e = ap (λ n. take n ys) (sym e)
take-both (x ∷ xs) ys zero = let e : 0 - suc (length xs) ≡ 0 = omega arith in ap (λ n. take n ys) (sym e)
take-both (x ∷ xs) ys (suc a) =
    let e : suc a - suc (length xs) ≡ a - length xs = omega arith in
    ap (λ v. x ∷ v) (take-both xs ys a) ∙ ap (λ n. x ∷ (take a xs ++ take n ys)) (sym e)

order : (a b : ℕ) → (a ≤ b) ⊎ (b < a)
order zero b = inl (omega arith)
order (suc a) zero = inr (omega arith)
order (suc a) (suc b) = elim (order a b) [ inl h ↦ inl (omega arith) | inr h ↦ inr (omega arith) ]

take_none : {X : Type 0} (k : ℕ) → take {A = X} k [] ≡ []
take_none zero = refl
take_none (suc k) = refl

-- a cut of a list ends with the list
cut-ends : {X : Type 0} (xs : List X) (a b : ℕ) → take (b - a) (drop a xs) ≡ slice_range xs (min a (length xs)) (min b (length xs))
cut-ends {X = X} xs a b = elim (order a (length xs)) [ inl low ↦ from low | inr high ↦ past high ]
  where
    from : a ≤ length xs → take (b - a) (drop a xs) ≡ take (min b (length xs) - min a (length xs)) (drop (min a (length xs)) xs)
    from low =
        let same : min a (length xs) ≡ a = omega arith in
        elim (order b (length xs)) [
          | inl short ↦ (let here : min b (length xs) ≡ b = omega arith in ap (λ n. take (n - a) (drop a xs)) (sym here) ∙ ap (λ n. take (min b (length xs) - n) (drop n xs)) (sym same))
          | inr long ↦ (
              let here : min b (length xs) ≡ length xs = omega arith in
              take_all (b - a) (drop a xs) (omega (arith, length-drop a xs))
              ∙ sym (take_all (length xs - a) (drop a xs) (omega (arith, length-drop a xs)))
              ∙ ap (λ n. take (n - a) (drop a xs)) (sym here) ∙ ap (λ n. take (min b (length xs) - n) (drop n xs)) (sym same))
        ]

    past : length xs < a → take (b - a) (drop a xs) ≡ take (min b (length xs) - min a (length xs)) (drop (min a (length xs)) xs)
    past high =
        let same : min a (length xs) ≡ length xs = omega arith in
        ap (take (b - a)) (drop_of_length-le xs {i = a} (omega arith)) ∙ take_none {X = X} (b - a)
        ∙ sym (ap (λ n. take (min b (length xs) - n) (drop n xs)) same ∙ ap (take (min b (length xs) - length xs)) (drop_of_length-le xs {i = length xs} (omega arith)) ∙ take_none {X = X} (min b (length xs) - length xs))

-- what stands in two lists between two places
pub cut-append : {X : Type 0} (xs ys : List X) (a b : ℕ) → slice_range (xs ++ ys) a b ≡ slice_range xs (min a (length xs)) (min b (length xs)) ++ slice_range ys (a - length xs) (b - length xs)
cut-append xs ys a b =
    let left : (b - a) - length (drop a xs) ≡ (b - length xs) - (a - length xs) = omega (arith, length-drop a xs) in
    ap (take (b - a)) (drop-both xs ys a)
    ∙ take-both (drop a xs) (drop (a - length xs) ys) (b - a)
    ∙ ap (λ n. take (b - a) (drop a xs) ++ take n (drop (a - length xs) ys)) left
    ∙ ap (λ v. v ++ slice_range ys (a - length xs) (b - length xs)) (cut-ends xs a b)

-- a gap between two places
pub gap-whole : (a b : ℕ) → a ≡ 0 → 0 < b → gap ∷ [] ≡ slice_range (gap ∷ []) a b
gap-whole zero zero e h = absurd (omega arith)
gap-whole zero (suc b) e h = let all : suc b - 0 ≡ suc b = omega arith in sym (ap (λ n. take n (gap ∷ [])) all ∙ ap (λ v. gap ∷ v) (take_none {X = ℕ} b))
gap-whole (suc a) b e h = absurd (omega arith)

spelled-drop : (parts : List Part) (place : ℕ) (d : Part) → place < length parts → spelled (drop place parts) ≡ spelled_part (get_or parts place d) ++ spelled (drop (place + 1) parts)
unfolding spelled
spelled-drop parts place d within = ap spelled (drop-cons parts place d within) ∙ (let e : suc place ≡ place + 1 = omega arith in ap (λ n. spelled_part (get_or parts place d) ++ spelled (drop n parts)) e)

-- one part more is joined
pub joined-step : (before after whole : List ℕ) (parts : List Part) (place : ℕ) (d : Part) → place < length parts → after ≡ before ++ spelled_part (get_or parts place d) → before ++ spelled (drop place parts) ≡ whole → after ++ spelled (drop (place + 1) parts) ≡ whole
joined-step before after whole parts place d within added so_far =
    ap (λ v. v ++ spelled (drop (place + 1) parts)) added
    ∙ append_assoc before (spelled_part (get_or parts place d)) (spelled (drop (place + 1) parts))
    ∙ ap (λ v. before ++ v) (sym (spelled-drop parts place d within)) ∙ so_far

spelled-none : (parts : List Part) (place : ℕ) → length parts ≤ place → spelled (drop place parts) ≡ []
unfolding spelled
spelled-none parts place all = ap spelled (drop_of_length-le parts {i = place} all)

pub joined-end : (text whole : List ℕ) (parts : List Part) (place : ℕ) → length parts ≤ place → text ++ spelled (drop place parts) ≡ whole → text ≡ whole
joined-end text whole parts place all so_far = sym (append-nil text) ∙ ap (λ v. text ++ v) (sym (spelled-none parts place all)) ∙ so_far

-- one part more is cut
pub cut-step : (before after whole : List ℕ) (parts : List Part) (place : ℕ) (d : Part) (size from to : ℕ) → place < length parts → size ≡ length (spelled_part (get_or parts place d))
    → after ≡ before ++ slice_range (spelled_part (get_or parts place d)) (min from size) (min to size)
    → before ++ slice_range (spelled (drop place parts)) from to ≡ whole
    → after ++ slice_range (spelled (drop (place + 1) parts)) (from - size) (to - size) ≡ whole
cut-step before after whole parts place d size from to within size_is added so_far =
    let p = spelled_part (get_or parts place d) in
    let rest = spelled (drop (place + 1) parts) in
    ap (λ v. v ++ slice_range rest (from - size) (to - size)) added
    ∙ append_assoc before (slice_range p (min from size) (min to size)) (slice_range rest (from - size) (to - size))
    ∙ ap (λ n. before ++ (slice_range p (min from n) (min to n) ++ slice_range rest (from - n) (to - n))) size_is
    ∙ ap (λ v. before ++ v) (sym (cut-append p rest from to))
    ∙ ap (λ v. before ++ slice_range v from to) (sym (spelled-drop parts place d within)) ∙ so_far

-- the same, with each place by its equation
pub cut-step-at : (before after whole : List ℕ) (parts : List Part) (place : ℕ) (d : Part) (size from to low high next-from next-to : ℕ) → place < length parts → size ≡ length (spelled_part (get_or parts place d))
    → low ≡ min from size → high ≡ min to size → next-from ≡ from - size → next-to ≡ to - size
    → after ≡ before ++ slice_range (spelled_part (get_or parts place d)) low high
    → before ++ slice_range (spelled (drop place parts)) from to ≡ whole
    → after ++ slice_range (spelled (drop (place + 1) parts)) next-from next-to ≡ whole
cut-step-at before after whole parts place d size from to low high next-from next-to within size_is low_is high_is from_is to_is added so_far =
    let p = spelled_part (get_or parts place d) in
    let added' : after ≡ before ++ slice_range p (min from size) (min to size) = added ∙ ap (λ n. before ++ slice_range p n high) low_is ∙ ap (λ n. before ++ slice_range p (min from size) n) high_is in
    ap (λ n. after ++ slice_range (spelled (drop (place + 1) parts)) n next-to) from_is
    ∙ ap (λ n. after ++ slice_range (spelled (drop (place + 1) parts)) (from - size) n) to_is
    ∙ cut-step before after whole parts place d size from to within size_is added' so_far

slice_none : (a b : ℕ) (text : List ℕ) → text ≡ [] → slice_range text a b ≡ []
slice_none a b text e = ap (λ t. slice_range t a b) e ∙ ap (take (b - a)) (drop_of_length-le [] {i = a} (omega arith)) ∙ take_all (b - a) [] (omega arith)

pub cut-end : (text whole : List ℕ) (parts : List Part) (place from to : ℕ) → length parts ≤ place → text ++ slice_range (spelled (drop place parts)) from to ≡ whole → text ≡ whole
cut-end text whole parts place from to all so_far = sym (append-nil text) ∙ ap (λ v. text ++ v) (sym (slice_none from to (spelled (drop place parts)) (spelled-none parts place all))) ∙ so_far

-- the same, with the places of the cut by their equations
pub cut-more : (before after whole : List ℕ) (parts : List Part) (place : ℕ) (d : Part) (size from to low high f t : ℕ) → place < length parts → size ≡ length (spelled_part (get_or parts place d))
    → f ≡ from → t ≡ to → low ≡ min f size → high ≡ min t size
    → after ≡ before ++ slice_range (spelled_part (get_or parts place d)) low high
    → before ++ slice_range (spelled (drop place parts)) from to ≡ whole
    → after ++ slice_range (spelled (drop (place + 1) parts)) (from - size) (to - size) ≡ whole
cut-more before after whole parts place d size from to low high f t within size_is f_is t_is low_is high_is added so_far =
    cut-step-at before after whole parts place d size from to low high (from - size) (to - size) within size_is
    (low_is ∙ ap (λ n. min n size) f_is) (high_is ∙ ap (λ n. min n size) t_is) refl refl added so_far

no_more : (text : List ℕ) (a b : ℕ) → b ≡ 0 → slice_range text a b ≡ []
no_more text a b e = let none : b - a ≡ 0 = omega arith in ap (λ n. take n (drop a text)) none

-- the part in which a cut ends
pub cut-last : (before after whole : List ℕ) (parts : List Part) (place : ℕ) (d : Part) (size from to low high f t : ℕ) → place < length parts → size ≡ length (spelled_part (get_or parts place d))
    → f ≡ from → t ≡ to → low ≡ min f size → high ≡ min t size
    → after ≡ before ++ slice_range (spelled_part (get_or parts place d)) low high
    → before ++ slice_range (spelled (drop place parts)) from to ≡ whole
    → to ≤ size → after ≡ whole
cut-last before after whole parts place d size from to low high f t within size_is f_is t_is low_is high_is added so_far ends =
    let none : to - size ≡ 0 = omega arith in
    sym (append-nil after) ∙ ap (λ v. after ++ v) (sym (no_more (spelled (drop (place + 1) parts)) (from - size) (to - size) none))
    ∙ cut-more before after whole parts place d size from to low high f t within size_is f_is t_is low_is high_is added so_far

-- a cut goes on from the next part
pub cut-next : (after whole : List ℕ) (parts : List Part) (place start size next-index next-start from to : ℕ) → next-index ≡ place + 1 → next-start ≡ start + size
    → after ++ slice_range (spelled (drop (place + 1) parts)) (from - start - size) (to - start - size) ≡ whole
    → after ++ slice_range (spelled (drop next-index parts)) (from - next-start) (to - next-start) ≡ whole
cut-next after whole parts place start size next-index next-start from to index_is start_is so_far =
    let from_is : from - next-start ≡ from - start - size = omega arith in
    let to_is : to - next-start ≡ to - start - size = omega arith in
    ap (λ n. after ++ slice_range (spelled (drop n parts)) (from - next-start) (to - next-start)) index_is
    ∙ ap (λ n. after ++ slice_range (spelled (drop (place + 1) parts)) n (to - next-start)) from_is
    ∙ ap (λ n. after ++ slice_range (spelled (drop (place + 1) parts)) (from - start - size) n) to_is ∙ so_far

drop-front : (xs ys : List ℕ) (n : ℕ) → n ≡ length xs → drop n (xs ++ ys) ≡ ys
drop-front xs ys n e =
    let none : n - length xs ≡ 0 = omega arith in
    drop-both xs ys n ∙ ap (λ k. drop n xs ++ drop k ys) none ∙ ap (λ v. v ++ ys) (drop_of_length-le xs {i = n} (omega arith))

drop-again : (xs : List ℕ) (a b : ℕ) → drop a (drop b xs) ≡ drop (b + a) xs
drop-again xs a zero = let e : 0 + a ≡ a = omega arith in ap (λ n. drop n xs) (sym e)
drop-again [] a (suc b) = drop_of_length-le [] {i = a} (omega arith) ∙ sym (drop_of_length-le [] {i = suc b + a} (omega arith))
drop-again (x ∷ xs) a (suc b) = let e : suc b + a ≡ suc (b + a) = omega arith in drop-again xs a b ∙ sym (ap (λ n. drop n (x ∷ xs)) e)

-- the cursor stands at the next part
pub stands-next : (parts : List Part) (place start size next-index next-start : ℕ) (d : Part) → place < length parts → size ≡ length (spelled_part (get_or parts place d))
    → next-index ≡ place + 1 → next-start ≡ start + size
    → spelled (drop place parts) ≡ drop start (spelled parts) → spelled (drop next-index parts) ≡ drop next-start (spelled parts)
stands-next parts place start size next-index next-start d within size_is index_is start_is stands =
    ap (λ n. spelled (drop n parts)) index_is
    ∙ sym (drop-front (spelled_part (get_or parts place d)) (spelled (drop (place + 1) parts)) size size_is)
    ∙ ap (drop size) (sym (spelled-drop parts place d within) ∙ stands) ∙ drop-again (spelled parts) size start
    ∙ ap (λ n. drop n (spelled parts)) (sym start_is)

pub spelled-nil : (xs : List Part) → xs ≡ [] → spelled xs ≡ []
unfolding spelled
spelled-nil xs e = ap spelled e
