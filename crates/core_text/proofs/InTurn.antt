-- Things that are read one after the other.
use Rattle.std.proofs.Common.{◌≡◌, ◌∙◌, ℕ, ◌+◌, ◌<◌, ◌≤◌, Bool, false, not, List, [], ◌∷◌, ◌++◌, map, drop, get_or, length, Option, None, Some, Result, Ok, refl, sym, ap, subst, if◌then◌else◌}
use Rattle.std.proofs.lemmas.List.{drop_all, drop_more}
use Rattle.sl_model.specs.Answers.{Refuses}
use Rattle.sl_model.specs.ResultSteps.{◌>>=◌}
use Rattle.core_text.specs.InTurn.{in_turn}

-- a refusal of a step refuses what goes on from it
pub step-refuses : {A B E : Type 0} (refusal : Option E) (r : Result A E) (next : A → Result B E) → Refuses refusal r → Refuses refusal (r >>= next)
step-refuses (Some e) r next is = ap (λ q. q >>= next) is
step-refuses None r next is = tt

module _ {X Y E : Type 0} (read : List Y → X → Result Y E) where
  pub in_turn-ends : (before : List Y) → in_turn read before [] ≡ Ok before
  unfolding in_turn
  in_turn-ends before = refl

  opened : (before : List Y) (x : X) (rest : List X) → in_turn read before (x ∷ rest) ≡ (read before x >>= λ y. in_turn read (before ++ y ∷ []) rest)
  unfolding in_turn
  opened before x rest = refl

  pub in_turn-grows : (before : List Y) (x : X) (rest : List X) (y : Y) → read before x ≡ Ok y → in_turn read before (x ∷ rest) ≡ in_turn read (before ++ y ∷ []) rest
  in_turn-grows before x rest y is = opened before x rest ∙ ap (λ r. r >>= λ y. in_turn read (before ++ y ∷ []) rest) is

  pub in_turn-refuses : (refusal : Option E) (before : List Y) (x : X) (rest : List X) → Refuses refusal (read before x) → Refuses refusal (in_turn read before (x ∷ rest))
  in_turn-refuses refusal before x rest is =
      subst (λ (r : Result (List Y) E). Refuses refusal r) (sym (opened before x rest)) (step-refuses refusal (read before x) (λ y. in_turn read (before ++ y ∷ []) rest) is)

  -- what was read, and what the things that are left are read as behind it, is what all are read as
  abbrev pub IsSoFar : List Y → List X → List X → Type 0
  IsSoFar before left all = in_turn read before left ≡ in_turn read [] all

  pub so_far-ends : (before : List Y) (left all : List X) → IsSoFar before left all → left ≡ [] → in_turn read [] all ≡ Ok before
  so_far-ends before left all so_far none = sym so_far ∙ ap (in_turn read before) none ∙ in_turn-ends before

  -- `seen` is what was read before, as the code sees it
  pub so_far-grows : (before seen more : List Y) (left all : List X) (x : X) (rest : List X) (y : Y) → IsSoFar before left all → left ≡ x ∷ rest
      → seen ≡ before → read seen x ≡ Ok y → more ≡ before ++ y ∷ [] → IsSoFar more rest all
  so_far-grows before seen more left all x rest y so_far next same is grown =
      ap (λ ys. in_turn read ys rest) grown ∙ sym (in_turn-grows before x rest y (ap (λ ys. read ys x) (sym same) ∙ is)) ∙ ap (in_turn read before) (sym next) ∙ so_far

  pub so_far-refuses : (refusal : Option E) (before seen : List Y) (left all : List X) (x : X) (rest : List X) → IsSoFar before left all → left ≡ x ∷ rest
      → seen ≡ before → Refuses refusal (read seen x) → Refuses refusal (in_turn read [] all)
  so_far-refuses refusal before seen left all x rest so_far next same wrong =
      subst (λ (r : Result (List Y) E). Refuses refusal r) (ap (in_turn read before) (sym next) ∙ so_far)
      (in_turn-refuses refusal before x rest (subst (λ (ys : List Y). Refuses refusal (read ys x)) same wrong))

-- the next of the things that are left from a place on
pub next-at : {A X : Type 0} (see : A → X) (xs : List A) (i : ℕ) (x : A) → i < length xs → x ≡ get_or xs i x → map see (drop i xs) ≡ see x ∷ map see (drop (i + 1) xs)
next-at see xs i x within at = ap (map see) (drop_more xs i x within) ∙ ap (λ x. see x ∷ map see (drop (i + 1) xs)) (sym at)

-- none are left past the last place
pub none-past : {A X : Type 0} (see : A → X) (xs : List A) (i : ℕ) → length xs ≤ i → map see (drop i xs) ≡ []
none-past see xs i past = ap (map see) (drop_all i xs past)

-- a push that doesn't fail
pub pushed : {X : Type 0} (b c : Bool) (front more : List X) (x : X) → more ≡ (if b then front ++ x ∷ [] else front) → c ≡ false → b ≡ not c → more ≡ front ++ x ∷ []
pushed {X} b c front more x is kept opposite = is ∙ ap (λ (t : Bool). if t then front ++ x ∷ [] else front) (opposite ∙ ap not kept)
