-- What is looked for in a table is looked for in its parts, one behind the other.
use Rattle.std.proofs.Common.{◌≡◌, ◌∙◌, sym, ap, ℕ, zero, suc, ◌+◌, ◌<◌, List, [], ◌∷◌, ◌++◌, length, arith, refl}
use Rattle.std.specs.Prelude.{Option, Some, None, slice_get}
use Rattle.form_table.specs.Items.{Item}
use Rattle.form_table.specs.Reads.{fit_row, fit_or, fit_from}
use Rattle.form_table.specs.declared.rows.Row.{Row}
use Rattle.form_table.specs.declared.spells.Held.{Held}
use Rattle.form_table.specs.declared.reader.Fit.{Fit}

-- the second answer where the first is none
pub or_else : {A : Type 0} → Option A → Option A → Option A
or_else None later = later
or_else (Some x) later = Some x

fit_or_else : (form : ℕ) (o : Option (List Held)) (a b : Option Fit) → fit_or form o (or_else a b) ≡ or_else (fit_or form o a) b
unfolding or_else
fit_or_else form None a b = refl
fit_or_else form (Some helds) a b = refl

fit_behind : (form : ℕ) (front back : List Row) (text : List ℕ) (items : List Item) →
    fit_from form (front ++ back) text items ≡ or_else (fit_from form front text items) (fit_from (form + length front) back text items)
unfolding fit_from or_else
fit_behind form [] back text items = let same : form ≡ form + 0 = omega arith in ap (λ n. fit_from n back text items) same
fit_behind form (row ∷ front) back text items =
    let same : form + 1 + length front ≡ form + suc (length front) = omega arith in
    ap (λ o. fit_or form (fit_row text items row) o) (fit_behind (form + 1) front back text items)
    ∙ (fit_or_else form (fit_row text items row) (fit_from (form + 1) front text items) (fit_from (form + 1 + length front) back text items)
    ∙ ap (λ n. or_else (fit_or form (fit_row text items row) (fit_from (form + 1) front text items)) (fit_from n back text items)) same)

fit_begins : (front back : List Row) (text : List ℕ) (items : List Item) →
    fit_from 0 (front ++ back) text items ≡ or_else (fit_from 0 front text items) (fit_from (length front) back text items)
fit_begins front back text items =
    let same : 0 + length front ≡ length front = omega arith in
    fit_behind 0 front back text items ∙ ap (λ n. or_else (fit_from 0 front text items) (fit_from n back text items)) same

found_first : {A : Type 0} (a b : Option A) (x : A) → Some x ≡ a → Some x ≡ or_else a b
unfolding or_else
found_first None b x e = absurd cc
found_first (Some y) b x e = e

found_later : {A : Type 0} (a b r : Option A) → None ≡ a → r ≡ b → r ≡ or_else a b
unfolding or_else
found_later None b r e f = f
found_later (Some y) b r e f = absurd cc

-- what is found in a part is found in the whole
pub fit_here : (form : ℕ) (front back : List Row) (text : List ℕ) (items : List Item) (fit : Fit) →
    Some fit ≡ fit_from form front text items → Some fit ≡ fit_from form (front ++ back) text items
fit_here form front back text items fit e =
    found_first (fit_from form front text items) (fit_from (form + length front) back text items) fit e ∙ sym (fit_behind form front back text items)

-- and what isn't found in a part is what is found behind it
pub fit_later : (form : ℕ) (front back : List Row) (text : List ℕ) (items : List Item) (answer : Option Fit) →
    None ≡ fit_from form front text items → answer ≡ fit_from (form + length front) back text items → answer ≡ fit_from form (front ++ back) text items
fit_later form front back text items answer none e =
    found_later (fit_from form front text items) (fit_from (form + length front) back text items) answer none e ∙ sym (fit_behind form front back text items)

-- the same from the first row on
pub fit_begun : (front back : List Row) (text : List ℕ) (items : List Item) (answer : Option Fit) →
    None ≡ fit_from 0 front text items → answer ≡ fit_from (length front) back text items → answer ≡ fit_from 0 (front ++ back) text items
fit_begun front back text items answer none e =
    found_later (fit_from 0 front text items) (fit_from (length front) back text items) answer none e ∙ sym (fit_begins front back text items)

pub get_before : {A : Type 0} (front back : List A) (k : ℕ) → k < length front → slice_get (front ++ back) k ≡ slice_get front k
get_before [] back k h = absurd (omega arith)
get_before (x ∷ front) back zero h = refl
get_before (x ∷ front) back (suc k) h = let less : k < length front = omega arith in get_before front back k less
