-- The first of some numbers whose measure is the least.
use Rattle.std.proofs.Common.{◌≡◌, ◌∙◌, ◌<◌, ◌≤◌, ◌+◌, ℕ, Bool, true, false, nat_lt, if◌then◌else◌, List, [], ◌∷◌, drop, length, get_or, refl, ap, ap₂, sym, subst, arith}
use Rattle.std.specs.List.{fold, list_all}
use Rattle.std.proofs.lemmas.Bool.{and_parts, lt-ltb, le-ltb}
use Rattle.std.proofs.lemmas.List.{drop_all, drop_more}
use Rattle.own_schedule.specs.OwnSchedule.{lesser, first_least}

-- measures that agree have the same least
fold-same : (m k : ℕ → ℕ) → ((u : ℕ) → m u ≡ k u) → (best : ℕ) (units : List ℕ) → fold (lesser m) best units ≡ fold (lesser k) best units
fold-same m k same best [] = refl
fold-same m k same best (u ∷ units) =
    fold-same m k same (lesser m best u) units
    ∙ ap (λ b. fold (lesser k) b units) (ap₂ (λ a b. if nat_lt a b then u else best) (same u) (same best))

pub first_least-same : (m k : ℕ → ℕ) → ((u : ℕ) → m u ≡ k u) → (units : List ℕ) → first_least m units ≡ first_least k units
unfolding first_least
first_least-same m k same [] = refl
first_least-same m k same (u ∷ units) = fold-same m k same u units

-- it is one of the numbers
lesser-passes : (p : ℕ → Bool) (b : Bool) (best other : ℕ) → p best ≡ true → p other ≡ true → p (if b then other else best) ≡ true
lesser-passes p true best other first second = second
lesser-passes p false best other first second = first

fold-passes : (m : ℕ → ℕ) (p : ℕ → Bool) (best : ℕ) (units : List ℕ) → p best ≡ true → list_all p units ≡ true → p (fold (lesser m) best units) ≡ true
fold-passes m p best [] first all = first
fold-passes m p best (u ∷ units) first all =
    let parts = and_parts (p u) (list_all p units) all in
    fold-passes m p (lesser m best u) units (lesser-passes p (nat_lt (m u) (m best)) best u first parts.0) parts.1

pub first_least-passes : (m : ℕ → ℕ) (p : ℕ → Bool) (units : List ℕ) → p 0 ≡ true → list_all p units ≡ true → p (first_least m units) ≡ true
unfolding first_least
first_least-passes m p [] none all = none
first_least-passes m p (u ∷ units) none all =
    let parts = and_parts (p u) (list_all p units) all in
    fold-passes m p u units parts.0 parts.1

-- past a number the lesser is kept, with its measure
pub record IsLeastSoFar (m : ℕ → ℕ) (first : ℕ) (units : List ℕ) (i best least : ℕ) : Type 0 where
  pub least_is : least ≡ m best
  pub whole : fold (lesser m) best (drop i units) ≡ fold (lesser m) first units

lesser-then : (m : ℕ → ℕ) (best other now least : ℕ) → now ≡ m other → least ≡ m best → now < least → other ≡ lesser m best other
lesser-then m best other now least at kept less =
    let test : nat_lt (m other) (m best) ≡ true = lt-ltb (m other) (m best) (omega arith) in
    sym (ap (λ b. if b then other else best) test)

lesser-else : (m : ℕ → ℕ) (best other now least : ℕ) → now ≡ m other → least ≡ m best → least ≤ now → best ≡ lesser m best other
lesser-else m best other now least at kept more =
    let test : nat_lt (m other) (m best) ≡ false = le-ltb (m other) (m best) (omega arith) in
    sym (ap (λ b. if b then other else best) test)

whole-kept : (m : ℕ → ℕ) (first : ℕ) (units : List ℕ) (i best next d : ℕ) → i < length units → next ≡ lesser m best (get_or units i d)
    → fold (lesser m) best (drop i units) ≡ fold (lesser m) first units → fold (lesser m) next (drop (i + 1) units) ≡ fold (lesser m) first units
whole-kept m first units i best next d within kept before =
    ap (λ b. fold (lesser m) b (drop (i + 1) units)) kept
    ∙ subst (λ rest. fold (lesser m) best rest ≡ fold (lesser m) first units) (drop_more units i d within) before

pub least-taken : (m : ℕ → ℕ) (first : ℕ) (units : List ℕ) (i best least now d : ℕ) → i < length units → now ≡ m (get_or units i d) → now < least → IsLeastSoFar m first units i best least
    → IsLeastSoFar m first units (i + 1) (get_or units i d) now
least-taken m first units i best least now d within at less so_far = record {
  least_is = at;
  whole = whole-kept m first units i best (get_or units i d) d within (lesser-then m best (get_or units i d) now least at so_far.least_is less) so_far.whole;
}

pub least-kept : (m : ℕ → ℕ) (first : ℕ) (units : List ℕ) (i best least now d : ℕ) → i < length units → now ≡ m (get_or units i d) → least ≤ now → IsLeastSoFar m first units i best least
    → IsLeastSoFar m first units (i + 1) best least
least-kept m first units i best least now d within at more so_far = record {
  least_is = so_far.least_is;
  whole = whole-kept m first units i best best d within (lesser-else m best (get_or units i d) now least at so_far.least_is more) so_far.whole;
}

-- of no numbers
pub first_least-none : (m : ℕ → ℕ) (units : List ℕ) → length units ≡ 0 → 0 ≡ first_least m units
unfolding first_least
first_least-none m [] none = refl
first_least-none m (u ∷ units) none = absurd (omega arith)

-- and where no number is left
pub first_least-done : (m : ℕ → ℕ) (best first : ℕ) (rest units : List ℕ) (i : ℕ) → length rest ≤ i → units ≡ first ∷ rest → fold (lesser m) best (drop i rest) ≡ fold (lesser m) first rest → best ≡ first_least m units
unfolding first_least
first_least-done m best first rest units i past parts so_far =
    sym (ap (fold (lesser m) best) (drop_all i rest past)) ∙ so_far ∙ sym (ap (first_least m) parts)
