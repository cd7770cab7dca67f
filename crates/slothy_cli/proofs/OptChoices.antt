-- The choices of a full legal schedule of a problem.
use Rattle.std.proofs.Common.{◌≡◌, ℕ, ◌<◌, ◌≤◌, true, false, nat_lt, List, [], ◌∷◌, length, reverse, refl, sym, ap, ◌∙◌, ⊎_elim, true≢false, arith, lt-ltb}
use Rattle.std.specs.Int.{bit_at}
use Rattle.std.specs.List.{list_all}
use Rattle.std.proofs.lemmas.Bool.{cases_lt, and_parts, and_from, eqb-true, ltb-true}
use Rattle.std.proofs.lemmas.List.{length-reverse}
use Rattle.sl_model.specs.declared.schedule.Choice.{Choice}
use Rattle.sl_model.specs.Cycles.{row_of}
use Rattle.sl_model.specs.Legal.{Problem, IsLegalNext, IsLegalFrom, IsFullLegal}
use Rattle.sl_laws.proofs.Rules.{keeps_rules}
use Rattle.legal_space.proofs.ForCallers.{no_bit_past}
use Rattle.search_space.specs.Searchable.{IsSearchable}
use Rattle.search_space.proofs.ForCallers.{made-list, made-few}

-- units below a number are below a greater one
pub units-below : (few many : ℕ) (choices : List Choice) → few ≤ many → list_all (λ c. nat_lt c.unit few) choices ≡ true → list_all (λ c. nat_lt c.unit many) choices ≡ true
units-below few many [] within all = refl
units-below few many (c ∷ choices) within all =
    let parts = and_parts (nat_lt c.unit few) (list_all (λ c. nat_lt c.unit few) choices) all in
    let below : c.unit < few = ltb-true c.unit few parts.0 in
    and_from (nat_lt c.unit many) (list_all (λ c. nat_lt c.unit many) choices) (lt-ltb c.unit many (omega arith)) (units-below few many choices within parts.1)

module _ (problem : Problem) (searchable : IsSearchable problem) where
  -- each choice is of an item
  known-from : (done choices : List Choice) → IsLegalFrom problem done choices → list_all (λ c. nat_lt c.item (length problem.graph.items)) choices ≡ true
  known-from done [] legal = refl
  known-from done (c ∷ choices) legal =
      and_from (nat_lt c.item (length problem.graph.items)) (list_all (λ c. nat_lt c.item (length problem.graph.items)) choices)
      (lt-ltb c.item (length problem.graph.items) (searchable.sources.known c.item legal.0.of.known))
      (known-from (c ∷ done) choices legal.1)

  pub legal-known : (schedule : List Choice) → IsFullLegal problem schedule → list_all (λ c. nat_lt c.item (length problem.graph.items)) schedule ≡ true
  legal-known schedule full = known-from [] schedule full.legal

  unit-few : (done : List Choice) (c : Choice) → IsLegalNext problem done c → c.unit < 16
  unit-few done c legal =
      ⊎_elim
      (λ (below : c.unit < 16). below)
      (λ (past : 16 ≤ c.unit).
      absurd (true≢false (sym (keeps_rules problem done c legal.rules).l6 ∙ sym (no_bit_past (row_of problem.costs c.item).units c.unit (searchable.few_units c.item (searchable.sources.known c.item legal.of.known)) past))))
      (cases_lt c.unit 16)

  units-from : (done choices : List Choice) → IsLegalFrom problem done choices → list_all (λ c. nat_lt c.unit 16) choices ≡ true
  units-from done [] legal = refl
  units-from done (c ∷ choices) legal =
      and_from (nat_lt c.unit 16) (list_all (λ c. nat_lt c.unit 16) choices)
      (lt-ltb c.unit 16 (unit-few done c legal.0))
      (units-from (c ∷ done) choices legal.1)

  -- and on a unit below 16
  pub legal-units : (schedule : List Choice) → IsFullLegal problem schedule → list_all (λ c. nat_lt c.unit 16) schedule ≡ true
  legal-units schedule full = units-from [] schedule full.legal

  -- and on one of the units of a core that takes the items
  on_core-from : (units : ℕ) → ((p unit : ℕ) → p < length problem.graph.items → bit_at (row_of problem.costs p).units unit ≡ 1 → unit < units) → (done choices : List Choice) → IsLegalFrom problem done choices
      → list_all (λ c. nat_lt c.unit units) choices ≡ true
  on_core-from units takes done [] legal = refl
  on_core-from units takes done (c ∷ choices) legal =
      and_from (nat_lt c.unit units) (list_all (λ c. nat_lt c.unit units) choices)
      (lt-ltb c.unit units (takes c.item c.unit (searchable.sources.known c.item legal.0.of.known) (eqb-true (bit_at (row_of problem.costs c.item).units c.unit) 1 (keeps_rules problem done c legal.0.rules).l6)))
      (on_core-from units takes (c ∷ done) choices legal.1)

  pub legal-on_core : (units : ℕ) → ((p unit : ℕ) → p < length problem.graph.items → bit_at (row_of problem.costs p).units unit ≡ 1 → unit < units) → (schedule : List Choice) → IsFullLegal problem schedule
      → list_all (λ c. nat_lt c.unit units) schedule ≡ true
  legal-on_core units takes schedule full = on_core-from units takes [] schedule full.legal

  -- there are no more choices than items
  pub legal-length : (schedule : List Choice) → IsFullLegal problem schedule → length schedule ≤ length problem.graph.items
  legal-length schedule full = omega (arith, length-reverse schedule, made-few problem searchable (reverse schedule) (made-list problem schedule full.legal))
