-- The order of choices and of lists of choices.
use Rattle.std.proofs.Common.{◌≡◌, ℕ, ◌<◌, false, true, cond, eqb, nat_lt, List, [], ◌∷◌, ◌++◌, refl, sym, ap, ◌∙◌, arith, true≢false}
use Rattle.std.specs.Ordering.{nat_cmp, ordering_then, is_lt, ordering_reverse}
use Rattle.std.specs.declared.cmp.Ordering.{Ordering}
use Rattle.std.specs.declared.cmp.Ordering.TheVariants.{Less, Equal, Greater}
use Rattle.std.specs.Cmp.Lexicographic.{slice_cmp}
use Rattle.std.proofs.lemmas.Cmp.{lists_total, nat_list_cmp_total}
use Rattle.std.proofs.lemmas.Bool.{le-ltb, lt-ltb, eq-eqb, cond-false, cond-true}
use Rattle.sl_model.specs.declared.schedule.Choice.{Choice}
use Rattle.sl_model.specs.Space.{choice_key, schedule_key, comes_before}
use Rattle.search_space.specs.Next.{choice_before}

-- a choice comes before another by its key, and a list before another
abbrev pub Before : Choice → Choice → Type 0
Before c d = slice_cmp nat_cmp (choice_key c) (choice_key d) ≡ Less

-- so does a list
abbrev pub Comes : List Choice → List Choice → Type 0
Comes a b = slice_cmp (slice_cmp nat_cmp) (schedule_key a) (schedule_key b) ≡ Less

-- what is told to be less is
pub less-lt : (o : Ordering) → is_lt o ≡ true → o ≡ Less
less-lt Less e = refl
less-lt Equal e = absurd (true≢false (sym e))
less-lt Greater e = absurd (true≢false (sym e))

-- the test of two choices
pub before-test : (c d : Choice) → Before c d → choice_before c d ≡ true
before-test c d less = ap is_lt less

-- the test of two lists
pub comes-test : (a b : List Choice) → Comes a b → comes_before a b ≡ true
comes-test a b less = ap is_lt less

-- a list that comes before another doesn't come behind it
pub comes-not : (a b : List Choice) → Comes a b → comes_before b a ≡ false
comes-not a b less = ap is_lt ((lists_total nat_list_cmp_total).antisymm (schedule_key b) (schedule_key a) ∙ ap ordering_reverse less)

-- so it is of choices
pub before-not : (c d : Choice) → Before c d → choice_before d c ≡ false
before-not c d less = ap is_lt (nat_list_cmp_total.antisymm (choice_key d) (choice_key c) ∙ ap ordering_reverse less)

-- a choice that comes behind one that comes behind another
pub before-trans : (a c d : Choice) → choice_before a c ≡ true → Before c d → choice_before a d ≡ true
before-trans a c d first second =
    ap is_lt (nat_list_cmp_total.trans (choice_key a) (choice_key c) (choice_key d) (less-lt (slice_cmp nat_cmp (choice_key a) (choice_key c)) first) second)

-- ---- keys

-- a number is itself
pub nat_cmp-same : (n : ℕ) → nat_cmp n n ≡ Equal
nat_cmp-same n =
    cond-false (nat_lt n n) Less (cond (eqb n n) Equal Greater) (le-ltb n n (omega arith))
    ∙ cond-true (eqb n n) Equal Greater (eq-eqb n n refl)

-- a lesser number comes first
pub nat_cmp-below : (m n : ℕ) → m < n → nat_cmp m n ≡ Less
nat_cmp-below m n below = cond-true (nat_lt m n) Less (cond (eqb m n) Equal Greater) (lt-ltb m n below)

-- the first number in which keys differ decides
pub first-before : (m n : ℕ) (xs ys : List ℕ) → m < n → slice_cmp nat_cmp (m ∷ xs) (n ∷ ys) ≡ Less
first-before m n xs ys less = ap (λ o. ordering_then o (slice_cmp nat_cmp xs ys)) (nat_cmp-below m n less)

-- where the first is the same, the rest decides
pub rest-before : (k : ℕ) (xs ys : List ℕ) → slice_cmp nat_cmp xs ys ≡ Less → slice_cmp nat_cmp (k ∷ xs) (k ∷ ys) ≡ Less
rest-before k xs ys less = ap (λ o. ordering_then o (slice_cmp nat_cmp xs ys)) (nat_cmp-same k) ∙ less

-- a key is itself
key-same : (k : List ℕ) → slice_cmp nat_cmp k k ≡ Equal
key-same [] = refl
key-same (n ∷ k) = ap (λ o. ordering_then o (slice_cmp nat_cmp k k)) (nat_cmp-same n) ∙ key-same k

-- so are the keys of a list
keys-same : (a : List Choice) → slice_cmp (slice_cmp nat_cmp) (schedule_key a) (schedule_key a) ≡ Equal
keys-same [] = refl
keys-same (c ∷ a) = ap (λ o. ordering_then o (slice_cmp (slice_cmp nat_cmp) (schedule_key a) (schedule_key a))) (key-same (choice_key c)) ∙ keys-same a

-- no choice comes before itself
pub choice-before-itself : (c : Choice) → choice_before c c ≡ false
choice-before-itself c = ap is_lt (key-same (choice_key c))

-- and no list
pub before-itself : (a : List Choice) → comes_before a a ≡ false
before-itself a = ap is_lt (keys-same a)

-- lists are compared behind a common front
front-same : (front a b : List Choice)
    → slice_cmp (slice_cmp nat_cmp) (schedule_key (front ++ a)) (schedule_key (front ++ b)) ≡ slice_cmp (slice_cmp nat_cmp) (schedule_key a) (schedule_key b)
front-same [] a b = refl
front-same (c ∷ front) a b =
    ap (λ o. ordering_then o (slice_cmp (slice_cmp nat_cmp) (schedule_key (front ++ a)) (schedule_key (front ++ b)))) (key-same (choice_key c))
    ∙ front-same front a b

-- what goes on with a choice comes before what goes on with a later one
pub branch-comes : (front : List Choice) (c d : Choice) (a b : List Choice) → Before c d → Comes (front ++ c ∷ a) (front ++ d ∷ b)
branch-comes front c d a b before =
    front-same front (c ∷ a) (d ∷ b) ∙ ap (λ o. ordering_then o (slice_cmp (slice_cmp nat_cmp) (schedule_key a) (schedule_key b))) before

-- and a list before those that go on from it
pub root-comes : (front : List Choice) (c : Choice) (a : List Choice) → Comes (front ++ []) (front ++ c ∷ a)
root-comes front c a = front-same front [] (c ∷ a)
