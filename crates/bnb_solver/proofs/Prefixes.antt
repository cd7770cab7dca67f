-- Choices made so far, counted.
use Rattle.std.proofs.Common.{◌≡◌, ℕ, suc, ◌+◌, ◌-◌, ◌<◌, ◌≤◌, true, false, eqb, nat_lt, List, [], ◌∷◌, ◌++◌, reverse, length, Option, Some, None, ⊎_elim, refl, sym, ap, ◌∙◌, subst, arith}
use Rattle.std.specs.List.{list_all}
use Rattle.std.proofs.lemmas.List.{append-nil, length-reverse, reverse-append, reverse-reverse}
use Rattle.std.proofs.lemmas.Bool.{cases_Bool, and_from, lt-ltb, both_ways, eq-eqb, ne_eqb}
use Rattle.sl_model.specs.declared.schedule.Choice.{Choice}
use Rattle.sl_model.specs.Body.{is_full}
use Rattle.sl_model.specs.Legal.{Problem, IsLegalNext, IsLegalFrom}
use Rattle.search_space.specs.Searchable.{IsSearchable, AreMade}
use Rattle.search_space.specs.Next.{next_behind}
use Rattle.search_space.specs.Bound.{bound}
use Rattle.search_space.proofs.ForCallers.{made-few, full-length, length-full, reverse-full, reverse-more, known-item, legal-unit}
use Rattle.bnb_solver.specs.Prefix.{Prefix}

-- one more choice, turned round
pub reverse-last : (choices : List Choice) (c : Choice) → reverse (choices ++ c ∷ []) ≡ c ∷ reverse choices
reverse-last choices c = reverse-append choices (c ∷ [])

-- what is found behind another of a prefix, where the prefix is what it was
pub next-of : (problem : Problem) (prefix was : Prefix) (after o : Option Choice) → o ≡ next_behind problem (reverse prefix.choices) after → prefix ≡ was
    → next_behind problem (reverse was.choices) after ≡ o
next-of problem prefix was after o is same = ap (λ p. next_behind problem (reverse p.choices) after) (sym same) ∙ sym is

-- so of the bound with one more choice
pub bound-of : (problem : Problem) (prefix was : Prefix) (c : Choice) (n : ℕ) → n ≡ bound problem (c ∷ reverse prefix.choices) → prefix ≡ was → n ≡ bound problem (c ∷ reverse was.choices)
bound-of problem prefix was c n is same = is ∙ ap (λ p. bound problem (c ∷ reverse p.choices)) same

-- one more choice
pub pushed : (prefix was now : Prefix) (c : Choice) → now ≡ record prefix { choices = prefix.choices ++ c ∷ [] } → prefix ≡ was → now.choices ≡ was.choices ++ c ∷ []
pushed prefix was now c is same = ap (λ p. p.choices) is ∙ ap (λ p. p.choices ++ c ∷ []) same

-- and one less: what it was
pub popped : (was more back now : Prefix) (c : Choice) → more ≡ record was { choices = was.choices ++ c ∷ [] } → back ≡ more
    → ((choices : List Choice) (last : Choice) → back.choices ≡ choices ++ last ∷ [] → now ≡ record back { choices = choices }) → now ≡ was
popped was more back now c is same undone =
    undone was.choices c (ap (λ p. p.choices) (same ∙ is)) ∙ ap {A = Prefix} {B = Prefix} (λ p. record p { choices = was.choices }) (same ∙ is)

-- choices that were made, turned round, are legal
pub made-legal : (problem : Problem) (done rest : List Choice) → AreMade problem done → IsLegalFrom problem done rest → IsLegalFrom problem [] (reverse done ++ rest)
made-legal problem [] rest made legal = legal
made-legal problem (c ∷ done) rest made legal =
    subst (IsLegalFrom problem []) (sym (reverse-more done rest c)) (made-legal problem done (c ∷ rest) made.1 (made.0, legal))

module _ (problem : Problem) (search : IsSearchable problem) where
  -- All items are placed where there are as many choices as items, and only there.
  pub full-count : (choices : List Choice) → AreMade problem (reverse choices) → eqb (length choices) (length problem.graph.items) ≡ is_full problem.graph.order choices
  full-count choices made = ⊎_elim
      (λ (full : is_full problem.graph.order choices ≡ true).
      eq-eqb (length choices) (length problem.graph.items) (sym same ∙ full-length problem search (reverse choices) made (reverse-full problem.graph.order choices ∙ full)) ∙ sym full)
      (λ (lacks : is_full problem.graph.order choices ≡ false).
      ne_eqb (length choices) (length problem.graph.items) (λ all.
      both_ways (is_full problem.graph.order choices) lacks (sym (reverse-full problem.graph.order choices) ∙ length-full problem search (reverse choices) made (same ∙ all)))
      ∙ sym lacks)
      (cases_Bool (is_full problem.graph.order choices))
    where
      same : length (reverse choices) ≡ length choices
      same = length-reverse choices

  -- legal choices are of items of the problem,
  legal-items : (done choices : List Choice) → IsLegalFrom problem done choices → list_all (λ c. nat_lt c.item (length problem.graph.items)) choices ≡ true
  legal-items done [] legal = refl
  legal-items done (c ∷ choices) legal =
      and_from (nat_lt c.item (length problem.graph.items)) (list_all (λ d. nat_lt d.item (length problem.graph.items)) choices)
      (lt-ltb c.item (length problem.graph.items) (known-item problem search c legal.0.of)) (legal-items (c ∷ done) choices legal.1)

  -- and of units that there may be
  legal-units : (done choices : List Choice) → IsLegalFrom problem done choices → list_all (λ c. nat_lt c.unit 16) choices ≡ true
  legal-units done [] legal = refl
  legal-units done (c ∷ choices) legal =
      and_from (nat_lt c.unit 16) (list_all (λ d. nat_lt d.unit 16) choices) (lt-ltb c.unit 16 (legal-unit problem search done c legal.0)) (legal-units (c ∷ done) choices legal.1)

  -- those that were made are
  pub made-in_order : (choices : List Choice) → AreMade problem (reverse choices) → IsLegalFrom problem [] choices
  made-in_order choices made =
      subst (IsLegalFrom problem []) (reverse-reverse choices) (subst (IsLegalFrom problem []) (append-nil (reverse (reverse choices))) (made-legal problem (reverse choices) [] made tt))

  pub made-items : (choices : List Choice) → AreMade problem (reverse choices) → list_all (λ c. nat_lt c.item (length problem.graph.items)) choices ≡ true
  made-items choices made = legal-items [] choices (made-in_order choices made)

  pub made-units : (choices : List Choice) → AreMade problem (reverse choices) → list_all (λ c. nat_lt c.unit 16) choices ≡ true
  made-units choices made = legal-units [] choices (made-in_order choices made)

  -- There are fewer choices than items, where one more is legal.
  pub made-fewer : (choices : List Choice) (c : Choice) → AreMade problem (reverse choices) → IsLegalNext problem (reverse choices) c → length choices < length problem.graph.items
  made-fewer choices c made legal =
      let few : length (c ∷ reverse choices) ≤ length problem.graph.items = made-few problem search (c ∷ reverse choices) (legal, made) in
      let same : length (reverse choices) ≡ length choices = length-reverse choices in
      omega arith

  -- and where not all items are placed
  pub lacks-fewer : (choices : List Choice) → AreMade problem (reverse choices) → is_full problem.graph.order choices ≡ false → length choices < length problem.graph.items
  lacks-fewer choices made lacks =
      let few : length (reverse choices) ≤ length problem.graph.items = made-few problem search (reverse choices) made in
      let same : length (reverse choices) ≡ length choices = length-reverse choices in
      let other : length (reverse choices) ≡ length problem.graph.items → ⊥ =
      (λ all. both_ways (is_full problem.graph.order choices) lacks (sym (reverse-full problem.graph.order choices) ∙ length-full problem search (reverse choices) made all)) in
      omega arith
