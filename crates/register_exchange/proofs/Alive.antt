-- In a legal list what was placed, and is still read, is still held.
use Rattle.std.proofs.Common.{◌≡◌, ℕ, ◌+◌, Bool, true, false, eqb, List, [], ◌∷◌, slice_get, Option, Some, None, cond, inl, inr, ⊎_elim, refl, sym, ap, ◌∙◌, subst, arith}
use Rattle.std.specs.List.{list_all}
use Rattle.std.proofs.lemmas.Bool.{cases_Bool, and_parts, eqb-true, cond-true, cond-false}
use Rattle.sl_model.specs.declared.register.Reg.{Reg}
use Rattle.sl_model.specs.declared.schedule.Choice.{Choice}
use Rattle.sl_model.specs.declared.schedule.Source.{Source}
use Rattle.sl_model.specs.declared.schedule.Source.TheVariants.{Entry, Item}
use Rattle.sl_model.specs.Register.{same_reg}
use Rattle.sl_model.specs.Source.{place_from, output_or}
use Rattle.sl_model.specs.Body.{chosen, held, placed_in, given, all_differ}
use Rattle.sl_model.specs.Legal.{Problem, IsLegalNext, sources_in, output_classes, suits_output, may_overwrite}
use Rattle.sl_laws.proofs.Members.{Has, passes}
use Rattle.sl_laws.proofs.Registers.{same_reg-true, place_from-differ}
use Rattle.sl_laws.proofs.Rules.{KeepsRules, keeps_rules}
use Rattle.register_exchange.proofs.Runs.{Alive, unplaced-before, held-more, given-more}
use Rattle.register_exchange.proofs.Rules.{dead-over}

-- a register that has a place is one of the list
pub found-has : (k i : ℕ) (r : Reg) (regs : List Reg) → place_from k r regs ≡ Some i → Has r regs
unfolding place_from
found-has k i r [] found = absurd (cc)
found-has k i r (x ∷ regs) found = by (same_reg x r) refl found (λ e. found-has (k + 1) i r regs e)
  where
    by : (t : Bool) → same_reg x r ≡ t → cond t (Some k) (place_from (k + 1) r regs) ≡ Some i → (place_from (k + 1) r regs ≡ Some i → Has r regs) → Has r (x ∷ regs)
    by true same e rest = inl (same_reg-true x r same)
    by false same e rest = inr (rest e)

-- What is placed and still read stays alive behind a legal choice.
pub alive-more : (problem : Problem) (done : List Choice) (c : Choice) → IsLegalNext problem done c → Alive problem done → Alive problem (c ∷ done)
alive-more problem done c legal alive p hp un s hs r g = by s hs g
  where
    kept : KeepsRules problem done c
    kept = keeps_rules problem done c legal.rules

    differ : all_differ (chosen c) ≡ true
    differ = (and_parts (list_all (suits_output problem c.item) (output_classes problem c)) (all_differ (chosen c)) kept.l4).1

    earlier : (s : Source) → Has s (sources_in problem p) → given done s ≡ Some r → held (c ∷ done) r ≡ s
    earlier s hs g = found (place_from 0 r (chosen c)) refl
      where
        before : held done r ≡ s
        before = alive p hp (unplaced-before done c p un).1 s hs r g

        found : (o : Option ℕ) → place_from 0 r (chosen c) ≡ o → held (c ∷ done) r ≡ s
        found None at = held-more done c r ∙ ap (λ o. output_or c.item o (held done r)) at ∙ before
        found (Some i) at =
            absurd (dead-over problem done c r (passes (may_overwrite problem done c.item) r (chosen c) (found-has 0 i r (chosen c) at) kept.l7) p hp un
            (subst (λ v. Has v (sources_in problem p)) (sym before) hs))

    by : (s : Source) → Has s (sources_in problem p) → given (c ∷ done) s ≡ Some r → held (c ∷ done) r ≡ s
    by (Entry e) hs g = earlier (Entry e) hs g
    by (Item q j) hs g = ⊎_elim
        (λ (here : eqb c.item q ≡ true).
        let at : slice_get (chosen c) j ≡ Some r = sym (cond-true (eqb c.item q) (slice_get (chosen c) j) (placed_in done q j) here) ∙ sym (given-more done c q j) ∙ g in
        let sum : 0 + j ≡ j = omega arith in
        held-more done c r ∙ ap (λ o. output_or c.item o (held done r)) (place_from-differ 0 r (chosen c) j differ at ∙ ap (λ n. Some n) sum) ∙ ap (λ item. Item item j) (eqb-true c.item q here))
        (λ (other : eqb c.item q ≡ false). earlier (Item q j) hs (sym (cond-false (eqb c.item q) (slice_get (chosen c) j) (placed_in done q j) other) ∙ sym (given-more done c q j) ∙ g))
        (cases_Bool (eqb c.item q))

-- at first nothing was placed
pub alive-none : (problem : Problem) → Alive problem []
unfolding held placed_in
alive-none problem p hp un s hs r g = by s g
  where
    by : (s : Source) → given [] s ≡ Some r → held [] r ≡ s
    by (Entry e) g = (let same : e ≡ r = cc in ap (λ x. Entry x) (sym same))
    by (Item q j) g = absurd (cc)
