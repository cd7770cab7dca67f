-- What a search tells of choices made so far, from what it was told of what goes on from them.
use Rattle.std.proofs.Common.{◌≡◌, ℕ, ◌+◌, ◌-◌, ◌^◌, ◌<◌, ◌≤◌, min, Bool, true, false, List, [], ◌∷◌, ◌++◌, Option, Some, None, reverse, length, refl, sym, ap, ◌∙◌, subst, arith}
use Rattle.std.proofs.lemmas.List.{length_push}
use Rattle.sl_model.specs.declared.schedule.Choice.{Choice}
use Rattle.sl_model.specs.Body.{is_full}
use Rattle.sl_model.specs.Legal.{Problem}
use Rattle.search_space.specs.Searchable.{IsSearchable, AreMade}
use Rattle.search_space.specs.Next.{next_behind}
use Rattle.search_space.specs.Bound.{bound}
use Rattle.search_space.specs.Levels as levels
use Rattle.search_space.specs.Levels.{outcome_of, visited, entries_from}
use Rattle.search_space.specs.Levels.Outcome.{Found, Spent, Nothing}
use Rattle.race_pool.specs.declared.forest.Outcome.{Outcome}
use Rattle.race_pool.specs.declared.forest.Outcome.TheVariants as ends
use Rattle.bnb_solver.specs.Telling.{Tells, Sees, Searched, is_nothing, is_cancelled}
use Rattle.bnb_solver.proofs.Prefixes.{reverse-last, lacks-fewer}
use Rattle.bnb_solver.proofs.Progress.{Progress, Ended, overspent, nothing, decided, ended, most-here, most-under, top-full, top-most, top-more}

-- nothing was told
told-nothing : (told : Outcome) (found : List Choice) (o : levels.Outcome) → is_nothing told ≡ true → Tells told found o → o ≡ Nothing
told-nothing ends.Found found o e tells = absurd (cc)
told-nothing ends.Nothing found o e tells = tells
told-nothing ends.Spent found o e tells = absurd (cc)
told-nothing ends.Cancelled found o e tells = absurd (cc)

-- and all was looked at
sees-nothing : (told : Outcome) (all rest seen : ℕ) → is_nothing told ≡ true → Sees told all rest seen → all ≡ rest + seen
sees-nothing ends.Found all rest seen e sees = absurd (cc)
sees-nothing ends.Nothing all rest seen e sees = sees
sees-nothing ends.Spent all rest seen e sees = absurd (cc)
sees-nothing ends.Cancelled all rest seen e sees = absurd (cc)

-- it is the word for nothing
pub is-nothing : (told : Outcome) → is_nothing told ≡ true → told ≡ ends.Nothing
is-nothing ends.Found e = absurd (cc)
is-nothing ends.Nothing e = refl
is-nothing ends.Spent e = absurd (cc)
is-nothing ends.Cancelled e = absurd (cc)

-- nothing calls a search off
pub nothing-goes_on : (told : Outcome) (b : Bool) → is_nothing told ≡ true → b ≡ is_cancelled told → b ≡ false
nothing-goes_on ends.Found b e is = absurd (cc)
nothing-goes_on ends.Nothing b e is = is
nothing-goes_on ends.Spent b e is = absurd (cc)
nothing-goes_on ends.Cancelled b e is = absurd (cc)

-- There are as many polls as steps, up to the last value of their count: before a poll and a step, of these, and behind them.
pub polled-on : (p0 p1 p2 p3 s0 s1 s2 s3 : ℕ) → min (p0 + (s1 - s0)) (2 ^ 64 - 1) ≤ p1 → min (p1 + 1) (2 ^ 64 - 1) ≤ p2 → s0 ≤ s1 → s2 ≡ s1 + 1 → s2 ≤ s3
    → min (p2 + (s3 - s2)) (2 ^ 64 - 1) ≤ p3 → min (p0 + (s3 - s0)) (2 ^ 64 - 1) ≤ p3
polled-on p0 p1 p2 p3 s0 s1 s2 s3 before poll from step to behind = omega arith

module _ (problem : Problem) (search : IsSearchable problem) (level : ℕ) (choices : List Choice) (made : AreMade problem (reverse choices)) (within : bound problem (reverse choices) ≤ level) (budget : ℕ) (some : 0 < budget) where
  abbrev left : ℕ
  left = length problem.graph.items - length choices

  -- what is told of the choices
  abbrev pub Told : ℕ → Outcome → List Choice → Type 0
  Told rest told found = Searched problem level left (reverse choices) budget rest told found

  -- how far the search has come
  abbrev pub Reached : ℕ → Option Choice → Type 0
  Reached rest after = Progress problem level (left - 1) (reverse choices) (budget - 1) rest after

  -- All items are placed.
  pub told-full : is_full problem.graph.order choices ≡ true → Told (budget - 1) ends.Found choices
  told-full full =
      let t = top-full problem search level choices budget some within left made full in
      let one : visited problem level budget (entries_from problem level left (reverse choices)) ≡ 1 = t.1 in
      record { finds = t.0; sees = omega arith }

  module _ (lacks : is_full problem.graph.order choices ≡ false) where
    more : 0 < left
    more = let fewer : length choices < length problem.graph.items = lacks-fewer problem search choices made lacks in omega arith

    of-nothing : (rest : ℕ) (found : List Choice) → Ended problem level (left - 1) (reverse choices) (budget - 1) rest Nothing → Told rest ends.Nothing found
    of-nothing rest found e = let t = top-more problem search level choices budget some within left more lacks rest Nothing e in record { finds = t.0; sees = t.1 }

    of-spent : (rest : ℕ) (found : List Choice) → Ended problem level (left - 1) (reverse choices) (budget - 1) rest Spent → Told rest ends.Spent found
    of-spent rest found e = let t = top-more problem search level choices budget some within left more lacks rest Spent e in record { finds = t.0; sees = t.1 }

    of-found : (rest : ℕ) (found : List Choice) → Ended problem level (left - 1) (reverse choices) (budget - 1) rest (Found found) → Told rest ends.Found found
    of-found rest found e = let t = top-more problem search level choices budget some within left more lacks rest (Found found) e in record { finds = t.0; sees = t.1 }

    -- No choice is left.
    pub told-end : (rest : ℕ) (after : Option Choice) (found : List Choice) → next_behind problem (reverse choices) after ≡ None → Reached rest after → Told rest ends.Nothing found
    told-end rest after found none p = of-nothing rest found (ended problem search level (left - 1) (reverse choices) (budget - 1) rest after none p)

    -- The budget is spent at a choice within the level.
    pub told-spent : (rest : ℕ) (after : Option Choice) (c : Choice) (found : List Choice) → next_behind problem (reverse choices) after ≡ Some c → bound problem (c ∷ reverse choices) ≤ level
        → rest ≡ 0 → Reached rest after → Told rest ends.Spent found
    told-spent rest after c found next low spent p =
        of-spent rest found (overspent problem search level (left - 1) (reverse choices) (budget - 1) rest after c next low spent p)

    -- The search is called off at a choice.
    pub told-off : (rest : ℕ) (after : Option Choice) (found : List Choice) → Reached rest after → Told rest ends.Cancelled found
    told-off rest after found p =
        record {
          finds = tt;
          sees = top-most problem search level choices budget some within left more lacks rest
              (most-here problem search level (left - 1) (reverse choices) (budget - 1) rest after p);
        }

    -- What was told of a choice more.
    abbrev pub ToldOf : List Choice → ℕ → ℕ → Outcome → List Choice → Type 0
    ToldOf now rest after told found =
        Searched problem level (length problem.graph.items - length now) (reverse now) rest after told found

    -- the same of the entries that go on with it
    turned : (c : Choice) (now : List Choice) (rest after : ℕ) (told : Outcome) (found : List Choice) → now ≡ choices ++ c ∷ [] → ToldOf now rest after told found
        → Searched problem level (left - 1) (c ∷ reverse choices) rest after told found
    turned c now rest after told found is t =
        let long : length now ≡ length choices + 1 = ap length is ∙ length_push choices c in
        let count : length problem.graph.items - length now ≡ left - 1 = omega arith in
        subst (λ n. Searched problem level n (c ∷ reverse choices) rest after told found) count
        (subst (λ d. Searched problem level (length problem.graph.items - length now) d rest after told found) (ap reverse is ∙ reverse-last choices c) t)

    -- It is told of all, where it isn't nothing;
    pub told-up : (rest after : ℕ) (before : Option Choice) (c : Choice) (now : List Choice) (told : Outcome) (found : List Choice) → next_behind problem (reverse choices) before ≡ Some c → now ≡ choices ++ c ∷ []
        → is_nothing told ≡ false → ToldOf now rest after told found → Reached rest before → Told after told found
    told-up rest after before c now told found next is real t p = by told real (turned c now rest after told found is t)
      where
        by : (told : Outcome) → is_nothing told ≡ false → Searched problem level (left - 1) (c ∷ reverse choices) rest after told found → Told after told found
        by ends.Found e s = of-found after found (decided problem search level (left - 1) (reverse choices) (budget - 1) rest after before c (Found found) next s.finds (λ no. cc) s.sees p)
        by ends.Nothing e s = absurd (cc)
        by ends.Spent e s = of-spent after found (decided problem search level (left - 1) (reverse choices) (budget - 1) rest after before c Spent next s.finds (λ no. cc) s.sees p)
        by ends.Cancelled e s = record {
          finds = tt;
          sees = top-most problem search level choices budget some within left more lacks after
              (most-under problem search level (left - 1) (reverse choices) (budget - 1) rest after before c next s.sees p);
        }

    -- and else the search goes on behind the choice.
    pub reached-on : (rest after : ℕ) (before : Option Choice) (c : Choice) (now : List Choice) (told : Outcome) (found : List Choice) → next_behind problem (reverse choices) before ≡ Some c → now ≡ choices ++ c ∷ []
        → is_nothing told ≡ true → ToldOf now rest after told found → Reached rest before → Reached after (Some c)
    reached-on rest after before c now told found next is none t p =
        let s = turned c now rest after told found is t in
        nothing problem search level (left - 1) (reverse choices) (budget - 1) rest after before c next
        (told-nothing told found (outcome_of problem level rest (entries_from problem level (left - 1) (c ∷ reverse choices))) none s.finds)
        (sees-nothing told rest after (visited problem level rest (entries_from problem level (left - 1) (c ∷ reverse choices))) none s.sees) p
