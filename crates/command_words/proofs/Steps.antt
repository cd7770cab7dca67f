-- What holds behind steps of which each goes on with what the one before it gave.
use Rattle.std.proofs.Common.{◌≡◌, ◌∙◌, Bool, true, false, List, [], ◌∷◌, Some, Result, Ok, Err, if◌then◌else◌, refl, sym, ap, cond, ⊎_elim}
use Rattle.std.specs.Prelude.{IfOk}
use Rattle.std.specs.List.{find, list_all}
use Rattle.std.proofs.lemmas.Bool.{and_parts, cases_Bool}
use Rattle.std.proofs.lemmas.Option.{same_Some}
use Rattle.sl_model.specs.ResultSteps.{◌>>=◌}
use Rattle.command_words.specs.Answer.{WrongUse, wrong_use}

-- what a step gives, where what it goes on with has what it needs
pub step : {A B E : Type 0} (Q : A → Type 0) (P : B → Type 0) (r : Result A E) (f : A → Result B E)
    → IfOk r Q → ((x : A) → Q x → IfOk (f x) P) → IfOk (r >>= f) P
step Q P (Ok x) f q next = next x q
step Q P (Err e) f q next = tt

-- nothing is asked
pub anything : {A E : Type 0} (r : Result A E) → IfOk r (λ x. Unit {0})
anything (Ok x) = tt
anything (Err e) = tt

-- what a test lets through
pub let_through : {A : Type 0} (P : A → Type 0) (b : Bool) (r : Result A WrongUse)
    → (b ≡ true → IfOk r P) → IfOk (if b then r else Err wrong_use) P
let_through P true r h = h refl
let_through P false r h = tt

-- what a test doesn't keep out
pub kept_out : {A : Type 0} (P : A → Type 0) (b : Bool) (r : Result A WrongUse)
    → (b ≡ false → IfOk r P) → IfOk (if b then Err wrong_use else r) P
kept_out P true r h = tt
kept_out P false r h = h refl

-- what is found has what all have
pub found-all : {A : Type 0} (test all : A → Bool) (xs : List A) (x : A) → list_all all xs ≡ true → find test xs ≡ Some x → all x ≡ true
found-all test all [] x every found = absurd (cc)
found-all test all (y ∷ ys) x every found =
    let parts = and_parts (all y) (list_all all ys) every in
    ⊎_elim
    (λ (hit : test y ≡ true). ap all (sym (same_Some y x (sym (ap (λ b. cond b (Some y) (find test ys)) hit) ∙ found))) ∙ parts.0)
    (λ (miss : test y ≡ false). found-all test all ys x parts.1 (sym (ap (λ b. cond b (Some y) (find test ys)) miss) ∙ found))
    (cases_Bool (test y))
