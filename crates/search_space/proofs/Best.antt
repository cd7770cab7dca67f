-- The first of the fewest stalls is the best of the space.
use Rattle.std.proofs.Common.{◌≡◌, ℕ, ◌<◌, ◌≤◌, true, false, cond, nat_le, List, [], ◌∷◌, length, Option, None, Some, inl, inr, ⊎_elim, refl, sym, ap, subst, arith}
use Rattle.std.proofs.lemmas.Bool.{cases_Bool, leb-true, le-leb, leb-false}
use Rattle.sl_model.specs.declared.schedule.Choice.{Choice}
use Rattle.sl_model.specs.Legal.{Problem}
use Rattle.sl_model.specs.Space.{InSpace, IsBest, stalls_of, comes_before}
use Rattle.sl_laws.proofs.Members.{Has, Ordered, has-filter, from-filter, ordered-filter, passes-filter}
use Rattle.search_space.specs.Searchable.{IsSearchable}
use Rattle.search_space.specs.Going.{full_lists}
use Rattle.search_space.specs.Best.{better_of, first_fewest, has_at_most, members, best}
use Rattle.search_space.proofs.Keys.{Comes, comes-not, before-itself}
use Rattle.search_space.proofs.Full.{full-legal, has-full, ordered-full}

module _ (problem : Problem) where
  -- A list has no fewer stalls than any other of some lists, and of those with as many none comes before it.
  pub record IsFirst (x : List Choice) (lists : List (List Choice)) : Type 0 where
    pub listed : Has x lists
    pub fewest : (y : List Choice) → Has y lists → stalls_of problem x ≤ stalls_of problem y
    pub first : (y : List Choice) → Has y lists → stalls_of problem y ≡ stalls_of problem x → comes_before y x ≡ false

  -- the only list
  first-alone : (x : List Choice) → IsFirst x (x ∷ [])
  first-alone x = record {
    listed = inl refl;
    fewest = λ y h. ⊎_elim (λ (here : x ≡ y). (let same : stalls_of problem x ≡ stalls_of problem y = ap (stalls_of problem) here in omega arith)) (λ (none : ⊥). absurd none) h;
    first = λ y h _. ⊎_elim (λ (here : x ≡ y). subst (λ z. comes_before z x ≡ false) here (before-itself x)) (λ (none : ⊥). absurd none) h;
  }

  -- one list more in front, that has no more stalls
  first-here : (x z : List Choice) (lists : List (List Choice)) → ((y : List Choice) → Has y lists → Comes x y) → IsFirst z lists → stalls_of problem x ≤ stalls_of problem z → IsFirst x (x ∷ lists)
  first-here x z lists ahead behind few = record {
    listed = inl refl;
    fewest = λ y h. ⊎_elim
        (λ (here : x ≡ y). (let same : stalls_of problem x ≡ stalls_of problem y = ap (stalls_of problem) here in omega arith))
        (λ (there : Has y lists). (let least : stalls_of problem z ≤ stalls_of problem y = behind.fewest y there in omega arith))
        h;
    first = λ y h _. ⊎_elim
        (λ (here : x ≡ y). subst (λ w. comes_before w x ≡ false) here (before-itself x))
        (λ (there : Has y lists). comes-not x y (ahead y there))
        h;
  }

  -- and one that has more
  first-behind : (x z : List Choice) (lists : List (List Choice)) → IsFirst z lists → stalls_of problem z < stalls_of problem x → IsFirst z (x ∷ lists)
  first-behind x z lists behind more = record {
    listed = inr behind.listed;
    fewest = λ y h. ⊎_elim
        (λ (here : x ≡ y). (let same : stalls_of problem x ≡ stalls_of problem y = ap (stalls_of problem) here in omega arith))
        (λ (there : Has y lists). behind.fewest y there)
        h;
    first = λ y h as_many. ⊎_elim
        (λ (here : x ≡ y). (let same : stalls_of problem x ≡ stalls_of problem y = ap (stalls_of problem) here in absurd (omega arith)))
        (λ (there : Has y lists). behind.first y there as_many)
        h;
  }

  -- What is found of lists: the first of those with the fewest stalls, or none where there is none.
  abbrev IsFound : Option (List Choice) → List (List Choice) → Type 0
  IsFound None lists = lists ≡ []
  IsFound (Some x) lists = IsFirst x lists

  found-more : (x : List Choice) (lists : List (List Choice)) (o : Option (List Choice)) → ((y : List Choice) → Has y lists → Comes x y) → IsFound o lists → IsFound (better_of problem x o) (x ∷ lists)
  found-more x lists None ahead found = subst (λ l. IsFirst x (x ∷ l)) (sym found) (first-alone x)
  found-more x lists (Some z) ahead found = ⊎_elim
      (λ (few : nat_le (stalls_of problem x) (stalls_of problem z) ≡ true).
      subst (λ b. IsFound (cond b (Some x) (Some z)) (x ∷ lists)) (sym few)
      (first-here x z lists ahead found (leb-true (stalls_of problem x) (stalls_of problem z) few)))
      (λ (more : nat_le (stalls_of problem x) (stalls_of problem z) ≡ false).
      subst (λ b. IsFound (cond b (Some x) (Some z)) (x ∷ lists)) (sym more)
      (first-behind x z lists found (leb-false (stalls_of problem x) (stalls_of problem z) more)))
      (cases_Bool (nat_le (stalls_of problem x) (stalls_of problem z)))

  first_fewest-found : (lists : List (List Choice)) → Ordered Comes lists → IsFound (first_fewest problem lists) lists
  unfolding first_fewest
  first_fewest-found [] ordered = refl
  first_fewest-found (x ∷ lists) ordered = found-more x lists (first_fewest problem lists) ordered.0 (first_fewest-found lists ordered.1)

  -- The first of the fewest.
  pub first_fewest-some : (lists : List (List Choice)) (x : List Choice) → Ordered Comes lists → first_fewest problem lists ≡ Some x → IsFirst x lists
  first_fewest-some lists x ordered is = subst (λ o. IsFound o lists) is (first_fewest-found lists ordered)

  -- There is one, where there is a list.
  pub first_fewest-none : (lists : List (List Choice)) → Ordered Comes lists → first_fewest problem lists ≡ None → lists ≡ []
  first_fewest-none lists ordered is = subst (λ o. IsFound o lists) is (first_fewest-found lists ordered)

module _ (problem : Problem) (search : IsSearchable problem) (most : ℕ) where
  -- what is listed is of the space
  pub member-from : (x : List Choice) → Has x (members problem most) → InSpace problem most x
  unfolding members
  member-from x h =
      let schedule = full-legal problem search x (from-filter (has_at_most problem most) x (full_lists problem) h) in
      record {
        legal = schedule.0;
        reduced = schedule.1;
        stalls = leb-true (stalls_of problem x) most (passes-filter (has_at_most problem most) x (full_lists problem) h);
      }

  -- and what is of it is listed
  pub has-member : (x : List Choice) → InSpace problem most x → Has x (members problem most)
  unfolding members
  has-member x member =
      has-filter (has_at_most problem most) x (full_lists problem) (has-full problem search x member.legal member.reduced) (le-leb (stalls_of problem x) most member.stalls)

  -- in its order
  ordered-members : Ordered Comes (members problem most)
  unfolding members
  ordered-members = ordered-filter Comes (has_at_most problem most) (full_lists problem) (ordered-full problem search (length problem.graph.items) [])

  -- The first of the fewest stalls of the members is the best of the space.
  pub best-from : (x : List Choice) → IsFirst problem x (members problem most) → IsBest problem most x
  best-from x first = record {
    member = member-from x first.listed;
    fewest = λ other member. first.fewest other (has-member other member);
    first = λ other member same. first.first other (has-member other member) same;
  }

  -- So what `best` finds is the best of the space,
  pub best-some : (x : List Choice) → best problem most ≡ Some x → IsBest problem most x
  unfolding best
  best-some x is = best-from x (first_fewest-some problem (members problem most) x ordered-members is)

  -- and where it finds nothing the space is empty.
  pub best-none : best problem most ≡ None → (x : List Choice) → InSpace problem most x → ⊥
  unfolding best
  best-none is x member =
      subst (Has x) (first_fewest-none problem (members problem most) ordered-members is) (has-member x member)

  -- The first of the fewest stalls of all full lists is the best of the space, where it has few enough,
  pub best-full : (x : List Choice) → IsFirst problem x (full_lists problem) → stalls_of problem x ≤ most → IsBest problem most x
  best-full x first few = record {
    member =
        (let schedule = full-legal problem search x first.listed in
        record { legal = schedule.0; reduced = schedule.1; stalls = few });
    fewest = λ other member. first.fewest other (has-full problem search other member.legal member.reduced);
    first = λ other member same. first.first other (has-full problem search other member.legal member.reduced) same;
  }

  -- and where each full list has more the space is empty.
  pub none-full : ((x : List Choice) → Has x (full_lists problem) → most < stalls_of problem x) → (x : List Choice) → InSpace problem most x → ⊥
  none-full more x member =
      let few : stalls_of problem x ≤ most = member.stalls in
      let past : most < stalls_of problem x = more x (has-full problem search x member.legal member.reduced) in
      omega arith
