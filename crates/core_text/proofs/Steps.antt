-- What holds behind steps of which each goes on with what the one before it gave.
use Rattle.std.proofs.Common.{◌≡◌, ◌+◌, ℕ, suc, Bool, true, false, List, [], ◌∷◌, ◌++◌, length, length-append, Option, None, Some, Result, Ok, Err, refl, arith, subst}
use Rattle.std.specs.Prelude.{IfOk}
use Rattle.std.specs.List.{list_all}
use Rattle.std.proofs.lemmas.List.Folds.{list_all-append}
use Rattle.sl_model.specs.ResultSteps.{◌>>=◌}
use Rattle.core_text.specs.declared.reasons.CoreReason.{CoreReason}
use Rattle.core_text.specs.Refusal.{Text, or_refused, allowed}
use Rattle.core_text.specs.InTurn.{in_turn}

-- what a step gives, where what it goes on with has what it needs
pub step : {A B E : Type 0} (Q : A → Type 0) (P : B → Type 0) (r : Result A E) (next : A → Result B E)
    → IfOk r Q → ((x : A) → Q x → IfOk (next x) P) → IfOk (r >>= next) P
step Q P (Ok x) next has go = go x has
step Q P (Err e) next has go = tt

-- the same, where nothing is asked of it
pub skip : {A B E : Type 0} (P : B → Type 0) (r : Result A E) (next : A → Result B E) → ((x : A) → IfOk (next x) P) → IfOk (r >>= next) P
skip P (Ok x) next go = go x
skip P (Err e) next go = tt

-- what is there
pub there : {A : Type 0} (P : A → Type 0) (reason : CoreReason) (key : Text) (o : Option A) → ((x : A) → o ≡ Some x → P x) → IfOk (or_refused reason key o) P
there P reason key None h = tt
there P reason key (Some x) h = h x refl

-- a test that holds
pub held : (b : Bool) (reason : CoreReason) (key : Text) → IfOk (allowed b reason key) (λ u. b ≡ true)
held true reason key = refl
held false reason key = tt

-- what is given
pub given : {A E : Type 0} (P : A → Type 0) (r : Result A E) (x : A) → IfOk r P → r ≡ Ok x → P x
given {A} {E} P r x has is = subst (λ (r : Result A E). IfOk r P) is has

-- all that is read in turn has what each thing has
pub in_turn-all : {X Y E : Type 0} (read : List Y → X → Result Y E) (test : Y → Bool) → ((before : List Y) (x : X) → IfOk (read before x) (λ y. test y ≡ true))
    → (before : List Y) (xs : List X) → list_all test before ≡ true → IfOk (in_turn read before xs) (λ ys. list_all test ys ≡ true)
unfolding in_turn
in_turn-all read test each before [] all = all
in_turn-all read test each before (x ∷ xs) all =
    step (λ y. test y ≡ true) (λ ys. list_all test ys ≡ true) (read before x) (λ y. in_turn read (before ++ y ∷ []) xs) (each before x)
    (λ y has. in_turn-all read test each (before ++ y ∷ []) xs (rw (list_all-append test before (y ∷ []), all, has) refl))

-- what says less
pub weaker : {A E : Type 0} (P Q : A → Type 0) (r : Result A E) → ((x : A) → P x → Q x) → IfOk r P → IfOk r Q
weaker P Q (Ok x) h has = h x has
weaker P Q (Err e) h has = tt

counted : {Y : Type 0} (before : List Y) (y : Y) (n k : ℕ) → n ≡ length (before ++ y ∷ []) + k → n ≡ length before + suc k
counted before y n k e = let more : length (before ++ y ∷ []) ≡ length before + 1 = length-append before (y ∷ []) in omega arith

-- there are as many as things
pub in_turn-count : {X Y E : Type 0} (read : List Y → X → Result Y E) (before : List Y) (xs : List X) → IfOk (in_turn read before xs) (λ ys. length ys ≡ length before + length xs)
unfolding in_turn
in_turn-count read before [] = omega arith
in_turn-count read before (x ∷ xs) =
    skip (λ ys. length ys ≡ length before + suc (length xs)) (read before x) (λ y. in_turn read (before ++ y ∷ []) xs)
    (λ y. weaker (λ ys. length ys ≡ length (before ++ y ∷ []) + length xs) (λ ys. length ys ≡ length before + suc (length xs)) (in_turn read (before ++ y ∷ []) xs)
    (λ ys e. counted before y (length ys) (length xs) e) (in_turn-count read (before ++ y ∷ []) xs))
