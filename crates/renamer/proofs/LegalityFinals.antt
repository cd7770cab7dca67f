-- After a full legal schedule each final register holds its value.
use Rattle.std.proofs.Common.{◌≡◌, ℕ, ◌<◌, Bool, true, false, ◌&&◌, ◌||◌, not, eqb, nat_lt, List, [], ◌∷◌, reverse, length, None, Some, ◌⊎◌, inl, inr, ⊎_elim, refl, sym, ap, subst, ◌∙◌, true≢false, arith, slice_get, eqb-true, ltb-true}
use Rattle.std.specs.List.{list_all}
use mathlib.Core.List.{reverse_aux}
use Rattle.sl_model.specs.declared.register.Reg.{Reg}
use Rattle.sl_model.specs.declared.schedule.Choice.{Choice}
use Rattle.sl_model.specs.declared.schedule.Source.{Source}
use Rattle.sl_model.specs.declared.schedule.Source.TheVariants.{Entry, Item}
use Rattle.sl_model.specs.Register.{same_reg}
use Rattle.sl_model.specs.Source.{outputs, item_at, place_from, output_or}
use Rattle.sl_model.specs.Isa.{Isa}
use Rattle.sl_model.specs.Body.{chosen, is_placed, is_full, held, all_differ, same_source, stands_in}
use Rattle.sl_model.specs.Legal.{Problem, IsLegalNext, IsLegalFrom, IsFullLegal, may_overwrite, is_final_in, is_still_read, suits_output, output_classes}
use Rattle.renamer.proofs.SoundGraph.{IsSoundGraph}
use Rattle.renamer.specs.WellPosed.{is_made}
use Rattle.std.proofs.lemmas.Bool.{not-true, cases_Bool, and_parts, and_from, or_right, or_cases}
use Rattle.renamer.proofs.LegalityRules.{SuitsOutput, suits_outputs}
use Rattle.sl_laws.proofs.Tests.{implied}
use Rattle.sl_laws.proofs.Sources.{same_source-refl}
use Rattle.sl_laws.proofs.Rules.{KeepsRules, keeps_rules}
use Rattle.sl_laws.proofs.Elements.{element_at, list_all-at, list_any-at}
use Rattle.sl_laws.proofs.Orders.{standing-passes}
use Rattle.sl_laws.proofs.Registers.{place_from-at, place_from-differ, same_reg-refl, same_reg-true}

-- A final register holds what it held before, or the output that is final there once that is placed.
abbrev Stands : List Choice → Reg → Source → Type 0
Stands done r (Entry q) = held done r ≡ Entry q
Stands done r (Item item place) = is_placed done item ≡ true → held done r ≡ Item item place

-- a register that holds its final value isn't overwritten
kept : (isa : Isa) (problem : Problem) (done : List Choice) (c : Choice) (j : ℕ) (r : Reg) (value : Source) → IsLegalNext problem done c → slice_get problem.finals j ≡ Some (r, value) → held done r ≡ value → held (c ∷ done) r ≡ value
unfolding held
kept isa problem done c j r value legal final stands =
    elim (place_from 0 r (chosen c)) as (λ o. place_from 0 r (chosen c) ≡ o → output_or c.item o (held done r) ≡ value) [
      | None ↦ λ is. stands
      | Some place ↦ λ is.
          let found = place_from-at 0 r (chosen c) place is in
          let rules : KeepsRules problem done c = keeps_rules problem done c legal.rules in
          let may : may_overwrite problem done c.item r ≡ true = list_all-at (may_overwrite problem done c.item) (chosen c) found.0 r rules.l7 found.2 in
          let not_final : is_final_in problem r (held done r) ≡ false = not-true (is_final_in problem r (held done r)) (and_parts (not (is_final_in problem r (held done r))) (not (is_still_read problem done c.item (held done r))) may).0 in
          let not_here : (same_reg r r && same_source value (held done r)) ≡ false = list_any-at (λ f. same_reg f.0 r && same_source f.1 (held done r)) problem.finals j (r, value) not_final final in
          let here : (same_reg r r && same_source value (held done r)) ≡ true = and_from (same_reg r r) (same_source value (held done r)) (same_reg-refl r) (ap (same_source value) stands ∙ same_source-refl value) in
          absurd (true≢false (sym here ∙ not_here))
    ] refl

-- the item that makes a final value puts it into the final register
put_there : (isa : Isa) (problem : Problem) (done : List Choice) (c : Choice) (j : ℕ) (r : Reg) (place : ℕ) → IsSoundGraph isa problem.graph → IsLegalNext problem done c → slice_get problem.finals j ≡ Some (r, Item c.item place) → place < length (outputs (item_at problem.graph.items c.item)) → held (c ∷ done) r ≡ Item c.item place
unfolding held
put_there isa problem done c j r place sound legal final within =
    let out = element_at (chosen c) place (omega (arith, within, legal.of.outputs_given)) in
    let suits : SuitsOutput isa problem c place out.0 = suits_outputs isa problem done c sound legal place out.0 out.1 in
    let rules : KeepsRules problem done c = keeps_rules problem done c legal.rules in
    let value : Source = Item c.item place in
    let there : same_reg r out.0 ≡ true = implied (same_source value value) (same_reg r out.0) (list_all-at (λ f. not (same_source f.1 value) || same_reg f.0 out.0) problem.finals j (r, value) suits.finals final) (same_source-refl value) in
    let at : slice_get (chosen c) place ≡ Some r = out.1 ∙ ap (λ x. Some x) (sym (same_reg-true r out.0 there)) in
    let differ : all_differ (chosen c) ≡ true = (and_parts (list_all (suits_output problem c.item) (output_classes problem c)) (all_differ (chosen c)) rules.l4).1 in
    ap (λ o. output_or c.item o (held done r)) (place_from-differ 0 r (chosen c) place differ at)
    ∙ ap (λ n. Item c.item n) (omega arith)

-- a legal choice leaves each final register as it should be
stands-next : (isa : Isa) (problem : Problem) (done : List Choice) (c : Choice) (j : ℕ) (r : Reg) (value : Source) → IsSoundGraph isa problem.graph → IsLegalNext problem done c → slice_get problem.finals j ≡ Some (r, value) → is_made problem (r, value) ≡ true → Stands done r value → Stands (c ∷ done) r value
unfolding is_placed
stands-next isa problem done c j r (Entry q) sound legal final made stands = kept isa problem done c j r (Entry q) legal final stands
stands-next isa problem done c j r (Item item place) sound legal final made stands = now
  where
    now : is_placed (c ∷ done) item ≡ true → held (c ∷ done) r ≡ Item item place
    now placed = ⊎_elim (λ before. kept isa problem done c j r (Item item place) legal final (stands before)) (λ not_before. first (after_or (eqb c.item item) (is_placed done item) placed not_before)) (cases_Bool (is_placed done item))
      where
        after_or : (a b : Bool) → (a || b) ≡ true → b ≡ false → a ≡ true
        after_or true b e f = refl
        after_or false b e f = absurd (true≢false (sym e ∙ f))

        first : eqb c.item item ≡ true → held (c ∷ done) r ≡ Item item place
        first test =
            let same : c.item ≡ item = eqb-true c.item item test in
            let within : place < length (outputs (item_at problem.graph.items item)) = ltb-true place (length (outputs (item_at problem.graph.items item))) (and_parts (stands_in item problem.graph.order) (nat_lt place (length (outputs (item_at problem.graph.items item)))) made).1 in
            put_there isa problem done c j r place sound legal (final ∙ ap (λ p. Some (r, Item p place)) (sym same)) (subst (λ p. place < length (outputs (item_at problem.graph.items p))) (sym same) within)
            ∙ ap (λ p. Item p place) same

-- a legal list of choices leaves each final register as it should be
stands-all : (isa : Isa) (problem : Problem) (done choices : List Choice) (j : ℕ) (r : Reg) (value : Source) → IsSoundGraph isa problem.graph → IsLegalFrom problem done choices → slice_get problem.finals j ≡ Some (r, value) → is_made problem (r, value) ≡ true → Stands done r value → Stands (reverse_aux choices done) r value
stands-all isa problem done [] j r value sound legal final made stands = stands
stands-all isa problem done (c ∷ choices) j r value sound legal final made stands =
    stands-all isa problem (c ∷ done) choices j r value sound legal.1 final made (stands-next isa problem done c j r value sound legal.0 final made stands)

-- before the first choice
stands-first : (problem : Problem) (r : Reg) (value : Source) → is_made problem (r, value) ≡ true → Stands [] r value
unfolding held is_placed
stands-first problem r (Entry q) made = ap (λ x. Entry x) (sym (same_reg-true q r made))
stands-first problem r (Item item place) made = λ placed. absurd (true≢false (sym placed))

-- what was placed is placed in whatever order it is listed
placed-onto : (choices done : List Choice) (item : ℕ) → ((is_placed choices item ≡ true) ⊎ (is_placed done item ≡ true)) → is_placed (reverse_aux choices done) item ≡ true
unfolding is_placed
placed-onto [] done item (inl e) = absurd (true≢false (sym e))
placed-onto [] done item (inr e) = e
placed-onto (c ∷ choices) done item (inl e) =
    placed-onto choices (c ∷ done) item (⊎_elim (λ here. inr (ap (λ b. b || is_placed done item) here)) (λ later. inl later) (or_cases (eqb c.item item) (is_placed choices item) e))
placed-onto (c ∷ choices) done item (inr e) = placed-onto choices (c ∷ done) item (inr (or_right (eqb c.item item) (is_placed done item) e))

-- once all items are placed, each final value is
stands-holds : (problem : Problem) (schedule : List Choice) (r : Reg) (value : Source) → is_full problem.graph.order schedule ≡ true → is_made problem (r, value) ≡ true → Stands (reverse schedule) r value → held (reverse schedule) r ≡ value
stands-holds problem schedule r (Entry q) full made stands = stands
stands-holds problem schedule r (Item item place) full made stands =
    let known : stands_in item problem.graph.order ≡ true = (and_parts (stands_in item problem.graph.order) (nat_lt place (length (outputs (item_at problem.graph.items item)))) made).0 in
    stands (placed-onto schedule [] item (inl (standing-passes (is_placed schedule) problem.graph.order item full known)))

-- After a full legal schedule each final register holds its value.
pub finals-hold : (isa : Isa) (problem : Problem) (schedule : List Choice) → IsSoundGraph isa problem.graph → list_all (is_made problem) problem.finals ≡ true → IsFullLegal problem schedule → (j : ℕ) (r : Reg) (value : Source) → slice_get problem.finals j ≡ Some (r, value) → held (reverse schedule) r ≡ value
finals-hold isa problem schedule sound all_made legal j r value final =
    let made : is_made problem (r, value) ≡ true = list_all-at (is_made problem) problem.finals j (r, value) all_made final in
    stands-holds problem schedule r value legal.full made
    (stands-all isa problem [] schedule j r value sound legal.legal final made (stands-first problem r value made))
