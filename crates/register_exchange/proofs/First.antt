-- The exchange: an output goes to another register of its kind, and from there on the two change their names.
use Rattle.std.proofs.Common.{◌≡◌, ℕ, suc, ◌<◌, ◌⊎◌, true, false, ◌&&◌, ◌||◌, ◌==◌, not, eqb, nat_lt, List, [], ◌∷◌, map, slice_get, Option, Some, None, is_some, inl, inr, ⊎_elim, refl, sym, ap, ◌∙◌, subst, true≢false, arith}
use Rattle.std.specs.List.{list_all, zip}
use Rattle.std.proofs.lemmas.Bool.{and_parts, and_from, and_left, and_right, or_left, or_right, lt-ltb, ne_eqb, not-true, both_ways}
use Rattle.sl_model.specs.declared.register.Reg.{Reg}
use Rattle.sl_model.specs.declared.schedule.Choice.{Choice}
use Rattle.sl_model.specs.declared.schedule.Source.{Source}
use Rattle.sl_model.specs.declared.schedule.Source.TheVariants.{Item}
use Rattle.sl_model.specs.Register.{same_reg}
use Rattle.sl_model.specs.Source.{place_from, output_or}
use Rattle.sl_model.specs.Body.{chosen, is_placed, held, given, all_differ}
use Rattle.sl_model.specs.Legal.{Problem, info_in, IsLegalNext, IsLegalFrom, sources_in, is_tied, is_flags, output_classes, suits_output, may_overwrite}
use Rattle.sl_model.specs.Space.{is_final, is_final_output, is_tied_output, tied_at, is_free_output, is_taken, placed_outputs}
use Rattle.sl_laws.proofs.Members.{Has, passes, place-has}
use Rattle.register_exchange.proofs.Lists.{some-pass, beside-place}
use Rattle.sl_laws.proofs.Orders.{standing-has}
use Rattle.sl_laws.proofs.Rules.{KeepsRules, keeps_rules}
use Rattle.register_exchange.specs.AsGood.{move}
use Rattle.register_exchange.proofs.Swaps.{swap, swap_some, swap_choice, same_reg-from, decide_reg, by_swap, swap-first, swap-second, swap-other, chosen-swap, placed_at, differ-at}
use Rattle.register_exchange.proofs.Runs.{unbroken, Dead, Alive, placed-more, held-more, source-kept, Lost, Swapped, swapped-more, given-swap, held-swap}
use Rattle.register_exchange.proofs.Alive.{alive-more}
use Rattle.register_exchange.proofs.Rules.{Twins, dead-over, l4-swap, of-swap, from-swap, final-fixed}
use Rattle.register_exchange.proofs.Moves.{run_on, moves-swap}

-- An output of a choice that may go to another register: it is free to choose, and the other may be overwritten and isn't
-- taken.
pub record Chance (problem : Problem) (done : List Choice) (c : Choice) (k : ℕ) (a b : Reg) : Type 0 where
  pub at : slice_get (chosen c) k ≡ Some a
  pub free : is_free_output problem c (k, a) ≡ true
  pub untaken : is_taken problem c k b ≡ false
  pub over : may_overwrite problem done c.item b ≡ true
  pub twins : Twins problem a b

-- A list that goes on legally from choices made, after which what is still read is still held.
pub record Goes (problem : Problem) (done rest : List Choice) : Type 0 where
  pub legal : IsLegalFrom problem done rest
  pub alive : Alive problem done

-- Lists with the same items and units, after which each final register holds the same.
pub record Same (problem : Problem) (done rest other : List Choice) : Type 0 where
  pub moves : map move other ≡ map move rest
  pub ends : (r : Reg) → is_final problem r ≡ true → held (run_on done other) r ≡ held (run_on done rest) r

module _ (problem : Problem) (done : List Choice) (c : Choice) (k : ℕ) (a b : Reg) (legal : IsLegalNext problem done c) (chance : Chance problem done c k a b) where
  kept : KeepsRules problem done c
  kept = keeps_rules problem done c legal.rules

  differ : all_differ (chosen c) ≡ true
  differ = (and_parts (list_all (suits_output problem c.item) (output_classes problem c)) (all_differ (chosen c)) kept.l4).1

  first-at : (r : Reg) → slice_get (chosen c) k ≡ Some r → a ≡ r
  first-at r at = some-is a r (sym chance.at ∙ at)
    where
      some-is : (x y : Reg) → Some x ≡ Some y → x ≡ y
      some-is x y e = cc

  -- An earlier output, and one that isn't free to choose, keeps its register.
  pub fixed : (j : ℕ) (r : Reg) → slice_get (chosen c) j ≡ Some r → (j < k) ⊎ (is_free_output problem c (j, r) ≡ false) → swap a b r ≡ r
  fixed j r at which = swap-other a b r
      (λ (e : a ≡ r). apart (differ-at j k r (chosen c) differ at (chance.at ∙ ap (λ x. Some x) e)))
      (λ (e : b ≡ r). both_ways (is_taken problem c k b) chance.untaken
      (some-pass (λ x. same_reg x.1 b && (nat_lt x.0 k || (not (x.0 == k) && not (is_free_output problem c x)))) (j, r) (placed_outputs c) listed
      (and_from (same_reg r b) (nat_lt j k || (not (eqb j k) && not (is_free_output problem c (j, r)))) (same_reg-from r b (sym e)) (by which))))
    where
      apart : j ≡ k → ⊥
      apart same = ⊎_elim
          (λ (less : j < k). omega arith)
          (λ (bound : is_free_output problem c (j, r) ≡ false).
          both_ways (is_free_output problem c (j, r)) bound
          (ap (λ n. is_free_output problem c (n, r)) same
          ∙ ap (λ x. is_free_output problem c (k, x)) (sym (first-at r (subst (λ n. slice_get (chosen c) n ≡ Some r) same at))) ∙ chance.free))
          which

      listed : Has (j, r) (placed_outputs c)
      listed = beside-place j r (chosen c) at

      by : (j < k) ⊎ (is_free_output problem c (j, r) ≡ false) → (nat_lt j k || (not (eqb j k) && not (is_free_output problem c (j, r)))) ≡ true
      by (inl less) = or_left (nat_lt j k) _ (lt-ltb j k less)
      by (inr bound) = or_right (nat_lt j k) _ (and_from (not (eqb j k)) (not (is_free_output problem c (j, r))) (ap not (ne_eqb j k apart)) (ap not bound))

  -- both may be overwritten
  over-first : may_overwrite problem done c.item a ≡ true
  over-first = passes (may_overwrite problem done c.item) a (chosen c) (place-has a (chosen c) k chance.at) kept.l7

  over-each : (r : Reg) → may_overwrite problem done c.item r ≡ true → may_overwrite problem done c.item (swap a b r) ≡ true
  over-each = by_swap a b (λ x y. may_overwrite problem done c.item x ≡ true → may_overwrite problem done c.item y ≡ true) (λ e. chance.over) (λ e. over-first) (λ r na nb e. e)

  over-all : (regs : List Reg) → list_all (may_overwrite problem done c.item) regs ≡ true → list_all (may_overwrite problem done c.item) (map (swap a b) regs) ≡ true
  over-all [] all = refl
  over-all (r ∷ regs) all =
      let parts = and_parts (may_overwrite problem done c.item r) (list_all (may_overwrite problem done c.item) regs) all in
      and_from _ _ (over-each r parts.0) (over-all regs parts.1)

  tied-all : (regs : List Reg) (ties : List (Option ℕ)) → ((j : ℕ) (r : Reg) (operand : ℕ) → slice_get regs j ≡ Some r → slice_get ties j ≡ Some (Some operand) → swap a b r ≡ r)
      → list_all (is_tied problem done c.item) (zip regs ties) ≡ true → list_all (is_tied problem done c.item) (zip (map (swap a b) regs) ties) ≡ true
  tied-all [] ties each all = refl
  tied-all (r ∷ regs) [] each all = refl
  tied-all (r ∷ regs) (None ∷ ties) each all = tied-all regs ties (λ j q operand. each (suc j) q operand) all
  tied-all (r ∷ regs) (Some operand ∷ ties) each all =
      let parts = and_parts (is_tied problem done c.item (r, Some operand)) (list_all (is_tied problem done c.item) (zip regs ties)) all in
      and_from _ _ (subst (λ x. is_tied problem done c.item (x, Some operand) ≡ true) (sym (each 0 r operand refl refl)) parts.0) (tied-all regs ties (λ j q o. each (suc j) q o) parts.1)

  tied-fixed : (j : ℕ) (r : Reg) (operand : ℕ) → slice_get (chosen c) j ≡ Some r → slice_get (info_in problem c.item).tied j ≡ Some (Some operand) → swap a b r ≡ r
  tied-fixed j r operand at tie =
      let tied : is_tied_output problem c.item j ≡ true = ap tied_at tie in
      fixed j r at (inr (and_right (not (is_final_output problem c.item j)) (not (is_tied_output problem c.item j) && not (is_flags r))
      (and_left (not (is_tied_output problem c.item j)) (not (is_flags r)) (ap not tied))))

  -- the choice is legal under the other names
  pub first-legal : IsLegalNext problem done (swap_choice a b c)
  first-legal = record {
    of = of-swap problem a b chance.twins c legal.of;
    rules = unbroken problem done (swap_choice a b c) (record {
      l1 = kept.l1;
      l2 = kept.l2;
      l3 = subst (λ regs. list_all (is_tied problem done c.item) (zip regs (info_in problem c.item).tied) ≡ true) (sym (chosen-swap a b c))
          (tied-all (chosen c) (info_in problem c.item).tied tied-fixed kept.l3);
      l4 = l4-swap problem a b chance.twins c (standing-has c.item problem.graph.order legal.of.known) kept.l4;
      l5 = kept.l5;
      l6 = kept.l6;
      l7 = subst (λ regs. list_all (may_overwrite problem done c.item) regs ≡ true) (sym (chosen-swap a b c)) (over-all (chosen c) kept.l7);
    });
  }

  -- What is read later stands in neither of the two before the choice.
  read-fixed : Alive problem (c ∷ done) → (p : ℕ) → Has p problem.graph.order → is_placed (c ∷ done) p ≡ false → (s : Source) → Has s (sources_in problem p) → (r : Reg) → given done s ≡ Some r → swap a b r ≡ r
  read-fixed alive p hp un s hs r g = swap-other a b r
      (λ (e : a ≡ r). some-none (place_from 0 r (chosen c)) unset (placed_at 0 k r (chosen c) (chance.at ∙ ap (λ x. Some x) e)))
      (λ (e : b ≡ r).
      let value : held done b ≡ s = ap (held done) e ∙ sym (ap (λ o. output_or c.item o (held done r)) unset) ∙ sym (held-more done c r) ∙ after in
      dead-over problem done c b chance.over p hp un (subst (λ v. Has v (sources_in problem p)) (sym value) hs))
    where
      now : (given (c ∷ done) s ≡ Some r) × ((j : ℕ) → Item c.item j ≡ s → ⊥)
      now = source-kept done c (not-true (is_placed done c.item) kept.l1) s r g

      after : held (c ∷ done) r ≡ s
      after = alive p hp un s hs r now.0

      none-of : (o : Option ℕ) → output_or c.item o (held done r) ≡ s → o ≡ None
      none-of None e = refl
      none-of (Some j) e = absurd (now.1 j e)

      unset : place_from 0 r (chosen c) ≡ None
      unset = none-of (place_from 0 r (chosen c)) (sym (held-more done c r) ∙ after)

      some-none : (o : Option ℕ) → o ≡ None → is_some o ≡ true → ⊥
      some-none o e some = true≢false (sym some ∙ ap is_some e)

  -- After it the two have changed their names.
  pub first-swapped : Alive problem (c ∷ done) → Swapped problem a b (c ∷ done) (swap_choice a b c ∷ done)
  first-swapped alive = record {
    placed = λ p. placed-more done (swap_choice a b c) p ∙ sym (placed-more done c p);
    gives = λ p hp un s hs. given-swap problem a b done done c s (before s (given done s) refl (read-fixed alive p hp un s hs));
    holds = λ r. by r (place_from 0 (swap a b r) (chosen c)) refl;
  }
    where
      before : (s : Source) (o : Option Reg) → given done s ≡ o → ((r : Reg) → given done s ≡ Some r → swap a b r ≡ r) → given done s ≡ swap_some a b (given done s)
      before s None g each = g ∙ sym (ap (swap_some a b) g)
      before s (Some r) g each = g ∙ ap (λ x. Some x) (sym (each r g)) ∙ sym (ap (swap_some a b) g)

      by : (r : Reg) (o : Option ℕ) → place_from 0 (swap a b r) (chosen c) ≡ o
          → (held (swap_choice a b c ∷ done) r ≡ held (c ∷ done) (swap a b r)) ⊎ Lost problem a b (c ∷ done) (swap_choice a b c ∷ done) r
      by r (Some j) at = inl (held-swap problem a b done c r ∙ ap (λ o. output_or c.item o (held done r)) at ∙ sym (held-more done c (swap a b r) ∙ ap (λ o. output_or c.item o (held done (swap a b r))) at))
      by r None at =
          let n : held (swap_choice a b c ∷ done) r ≡ held done r = held-swap problem a b done c r ∙ ap (λ o. output_or c.item o (held done r)) at in
          let l : held (c ∷ done) (swap a b r) ≡ held done (swap a b r) = held-more done c (swap a b r) ∙ ap (λ o. output_or c.item o (held done (swap a b r))) at in
          let D = Dead problem (c ∷ done) in
          ⊎_elim
          (λ (e : a ≡ r). inr (record {
            dead_old = subst D (sym (l ∙ ap (λ x. held done (swap a b x)) (sym e) ∙ ap (held done) (swap-first a b))) (dead-over problem done c b chance.over);
            dead_new = subst D (sym (n ∙ ap (held done) (sym e))) (dead-over problem done c a over-first);
            loose = subst (λ x. is_final problem x ≡ false) e chance.twins.first_loose;
          }))
          (λ (na : a ≡ r → ⊥). ⊎_elim
          (λ (e : b ≡ r). inr (record {
            dead_old = subst D (sym (l ∙ ap (λ x. held done (swap a b x)) (sym e) ∙ ap (held done) (swap-second a b))) (dead-over problem done c a over-first);
            dead_new = subst D (sym (n ∙ ap (held done) (sym e))) (dead-over problem done c b chance.over);
            loose = subst (λ x. is_final problem x ≡ false) e chance.twins.second_loose;
          }))
          (λ (nb : b ≡ r → ⊥). inl (n ∙ ap (held done) (sym (swap-other a b r na nb)) ∙ sym l))
          (decide_reg b r))
          (decide_reg a r)

module _ (problem : Problem) (a b : Reg) (twins : Twins problem a b) where
  -- final registers hold the same behind both lists
  ends-swap : (old new rest : List Choice) → Swapped problem a b old new → (r : Reg) → is_final problem r ≡ true → held (run_on new (map (swap_choice a b) rest)) r ≡ held (run_on old rest) r
  ends-swap old new [] s r fin = ⊎_elim
      (λ (e : held new r ≡ held old (swap a b r)). e ∙ ap (held old) (final-fixed problem a b twins r fin))
      (λ (lost : Lost problem a b old new r). absurd (both_ways (is_final problem r) lost.loose fin))
      (s.holds r)
  ends-swap old new (c ∷ rest) s r fin = ends-swap (c ∷ old) (swap_choice a b c ∷ new) rest (swapped-more problem a b old new c s) r fin

-- The exchange: the list stays legal, with the same items and units, and leaves the same in the final registers.
module _ (problem : Problem) (done : List Choice) (c : Choice) (rest : List Choice) (k : ℕ) (a b : Reg) (goes : Goes problem done (c ∷ rest)) (chance : Chance problem done c k a b) where
  changed : Swapped problem a b (c ∷ done) (swap_choice a b c ∷ done)
  changed = first-swapped problem done c k a b goes.legal.0 chance (alive-more problem done c goes.legal.0 goes.alive)

  pub exchange-goes : Goes problem done (map (swap_choice a b) (c ∷ rest))
  exchange-goes = record {
    legal = (first-legal problem done c k a b goes.legal.0 chance, from-swap problem a b chance.twins (c ∷ done) (swap_choice a b c ∷ done) rest changed goes.legal.1);
    alive = goes.alive;
  }

  pub exchange-same : Same problem done (c ∷ rest) (map (swap_choice a b) (c ∷ rest))
  exchange-same = record {
    moves = moves-swap a b (c ∷ rest);
    ends = λ r fin. ends-swap problem a b chance.twins (c ∷ done) (swap_choice a b c ∷ done) rest changed r fin;
  }
