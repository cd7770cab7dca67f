-- The rules, where two registers of one kind change their names.
use Rattle.std.proofs.Common.{◌≡◌, ℕ, zero, suc, slice_index_or, ◌+◌, Bool, true, false, ◌&&◌, ◌||◌, ◌==◌, not, eqb, List, [], ◌∷◌, ◌++◌, map, length, slice_get, Option, Some, None, inl, inr, ⊎_elim, refl, sym, ap, ◌∙◌, subst, true≢false}
use Rattle.std.specs.List.{list_all, list_any, zip, enumerate_from, flat_map}
use Rattle.std.proofs.lemmas.Bool.{and_parts, and_from, or_cases, or_left, or_right, eq-eqb, ne_eqb, not-true, both_ways}
use Rattle.sl_model.specs.declared.register.Reg.{Reg}
use Rattle.sl_model.specs.declared.register.RegSet.{RegSet}
use Rattle.sl_model.specs.declared.instruction.FormInfo.{FormInfo}
use Rattle.sl_model.specs.declared.schedule.Choice.{Choice}
use Rattle.sl_model.specs.declared.schedule.Source.{Source}
use Rattle.sl_model.specs.declared.schedule.Source.TheVariants.{Item}
use Rattle.sl_model.specs.Register.{same_reg, same_bool, bank_number}
use Rattle.sl_model.specs.RegSets.{set_has}
use Rattle.sl_model.specs.Source.{outputs, padded, item_at}
use Rattle.sl_model.specs.Body.{same_source, chosen, is_placed, held, given, all_differ}
use Rattle.sl_model.specs.Graph.{no_info, precedes_at}
use Rattle.sl_model.specs.Legal.{Problem, info_in, IsOf, IsLegalNext, IsLegalFrom, sources_in, allowed_in, keeps_l2, keeps_l3, keeps_l4, is_held_in, operand_classes, is_register, is_given, is_tied, is_flags, suits_readers, suits_finals, output_classes, suits_output, is_final_in, is_still_read, may_overwrite}
use Rattle.sl_model.specs.Space.{is_final, classes}
use Rattle.sl_laws.proofs.Members.{Has, has-left, has-right, place-has}
use Rattle.sl_laws.proofs.Orders.{standing-has}
use Rattle.sl_laws.proofs.Registers.{same_reg-true}
use Rattle.sl_laws.proofs.Sources.{same_source-true, same_source-refl}
use Rattle.sl_laws.proofs.Rules.{keeps_rules}
use Rattle.register_exchange.proofs.Lists.{carry, zip-has, some-pass, none-passes}
use Rattle.register_exchange.proofs.Swaps.{swap, swap_some, swap_choice, same_reg-from, by_swap, swap-back, swap-other, chosen-swap, padded-swap, length-swap, all_differ-swap}
use Rattle.register_exchange.proofs.Runs.{unbroken, Dead, unplaced-before, held-in, in-held, Lost, Swapped, swapped-more}

-- Two registers that may stand for each other: of one bank and the same classes, neither final, both allowed for all items.
pub record Twins (problem : Problem) (a b : Reg) : Type 0 where
  pub bank : bank_number a.bank ≡ bank_number b.bank
  pub first_loose : is_final problem a ≡ false
  pub second_loose : is_final problem b ≡ false
  pub same : (set : RegSet) → Has set (classes problem) → set_has set a ≡ set_has set b
  pub first_allowed : (p : ℕ) → Has p problem.graph.order → set_has (allowed_in problem p) a ≡ true
  pub second_allowed : (p : ℕ) → Has p problem.graph.order → set_has (allowed_in problem p) b ≡ true

-- the classes of an item's operands and outputs are among those of the problem
in-infos : (infos : List FormInfo) (p : ℕ) (set : RegSet) → Has set ((slice_index_or infos p no_info).in_sets ++ (slice_index_or infos p no_info).out_sets)
    → Has set (flat_map (λ info. info.in_sets ++ info.out_sets) infos)
in-infos [] p set h = absurd h
in-infos (info ∷ infos) zero set h = has-left set (info.in_sets ++ info.out_sets) (flat_map (λ info. info.in_sets ++ info.out_sets) infos) h
in-infos (info ∷ infos) (suc p) set h = has-right set (info.in_sets ++ info.out_sets) (flat_map (λ info. info.in_sets ++ info.out_sets) infos) (in-infos infos p set h)

in-classes : (problem : Problem) (p : ℕ) (set : RegSet) → Has set (info_in problem p).in_sets → Has set (classes problem)
in-classes problem p set h = in-infos problem.graph.infos p set (has-left set (info_in problem p).in_sets (info_in problem p).out_sets h)

out-classes : (problem : Problem) (p : ℕ) (set : RegSet) → Has set (info_in problem p).out_sets → Has set (classes problem)
out-classes problem p set h = in-infos problem.graph.infos p set (has-right set (info_in problem p).in_sets (info_in problem p).out_sets h)

-- What is still read, and what is dead.

-- a dead value isn't read any more
pub read-dead : (problem : Problem) (done : List Choice) (item : ℕ) (v : Source) → Dead problem done v → is_still_read problem done item v ≡ false
read-dead problem done item v dead =
    none-passes (λ p. not (p == item) && (not (is_placed done p) && list_any (same_source v) (sources_in problem p))) problem.graph.order (λ p hp ok.
    let parts = and_parts (not (eqb p item)) (not (is_placed done p) && list_any (same_source v) (sources_in problem p)) ok in
    let rest = and_parts (not (is_placed done p)) (list_any (same_source v) (sources_in problem p)) parts.1 in
    both_ways (list_any (same_source v) (sources_in problem p))
    (none-passes (same_source v) (sources_in problem p) (λ s hs same. dead p hp (not-true (is_placed done p) rest.0) (subst (λ t. Has t (sources_in problem p)) (sym (same_source-true v s same)) hs)))
    rest.1)

-- and one that no other item reads is dead behind this one
pub dead-unread : (problem : Problem) (done : List Choice) (c : Choice) (v : Source) → is_still_read problem done c.item v ≡ false → Dead problem (c ∷ done) v
dead-unread problem done c v unread p hp un h =
    let before = unplaced-before done c p un in
    let other : eqb p c.item ≡ false = ne_eqb p c.item (λ (e : p ≡ c.item). both_ways (eqb c.item p) before.0 (eq-eqb c.item p (sym e))) in
    both_ways (is_still_read problem done c.item v) unread
    (some-pass (λ p. not (p == c.item) && (not (is_placed done p) && list_any (same_source v) (sources_in problem p))) p problem.graph.order hp
    (and_from _ _ (ap not other) (and_from _ _ (ap not before.1) (some-pass (same_source v) v (sources_in problem p) h (same_source-refl v)))))

-- in a register that isn't final no value is final
pub not_final-in : (problem : Problem) (r : Reg) (v : Source) → is_final problem r ≡ false → is_final_in problem r v ≡ false
not_final-in problem r v loose =
    none-passes (λ f. same_reg f.0 r && same_source f.1 v) problem.finals (λ f hf ok.
    both_ways (is_final problem r) loose (some-pass (λ f. same_reg f.0 r) f problem.finals hf (and_parts (same_reg f.0 r) (same_source f.1 v) ok).0))

-- what may be overwritten, as two facts
may-parts : (problem : Problem) (done : List Choice) (item : ℕ) (r : Reg) → may_overwrite problem done item r ≡ true
    → (is_final_in problem r (held done r) ≡ false) × (is_still_read problem done item (held done r) ≡ false)
may-parts problem done item r may =
    let parts = and_parts (not (is_final_in problem r (held done r))) (not (is_still_read problem done item (held done r))) may in
    (not-true (is_final_in problem r (held done r)) parts.0, not-true (is_still_read problem done item (held done r)) parts.1)

-- what may be overwritten is dead behind the item
pub dead-over : (problem : Problem) (done : List Choice) (c : Choice) (r : Reg) → may_overwrite problem done c.item r ≡ true → Dead problem (c ∷ done) (held done r)
dead-over problem done c r may = dead-unread problem done c (held done r) (may-parts problem done c.item r may).1

module _ (problem : Problem) (a b : Reg) (twins : Twins problem a b) where
  -- classes don't tell the two apart
  set-swap : (set : RegSet) → Has set (classes problem) → (r : Reg) → set_has set (swap a b r) ≡ set_has set r
  set-swap set h = by_swap a b (λ x y. set_has set y ≡ set_has set x) (sym (twins.same set h)) (twins.same set h) (λ r na nb. refl)

  -- a final register keeps its name
  pub final-fixed : (r : Reg) → is_final problem r ≡ true → swap a b r ≡ r
  final-fixed r fin = swap-other a b r
      (λ e. both_ways (is_final problem r) (subst (λ x. is_final problem x ≡ false) e twins.first_loose) fin)
      (λ e. both_ways (is_final problem r) (subst (λ x. is_final problem x ≡ false) e twins.second_loose) fin)

  -- nor does what is final
  final_in-swap : (v : Source) (r : Reg) → is_final_in problem r v ≡ false → is_final_in problem (swap a b r) v ≡ false
  final_in-swap v = by_swap a b (λ x y. is_final_in problem x v ≡ false → is_final_in problem y v ≡ false)
      (λ e. not_final-in problem b v twins.second_loose) (λ e. not_final-in problem a v twins.first_loose) (λ r na nb e. e)

  -- L4.

  suits-swap : (item : ℕ) → Has item problem.graph.order → (k : ℕ) (r : Reg) (set : RegSet) (own : Reg) → Has set (classes problem)
      → suits_output problem item (k, ((r, set), own)) ≡ true → suits_output problem item (k, ((swap a b r, set), own)) ≡ true
  suits-swap item hi k r set own hset suits =
      let p1 = and_parts (set_has (allowed_in problem item) r) _ suits in
      let p2 = and_parts (set_has set r) _ p1.1 in
      let p3 = and_parts (suits_readers problem (Item item k) r) _ p2.1 in
      let p4 = and_parts (suits_finals problem (Item item k) r) (same_bool (is_flags own) (is_flags r)) p3.1 in
      and_from _ _ (allowed r p1.0) (and_from _ _ (set-swap set hset r ∙ p2.0) (and_from _ _ (readers p3.0) (and_from _ _ (finals p4.0)
      (ap (λ n. same_bool (is_flags own) (n == 2)) (banks r) ∙ p4.1))))
    where
      banks : (r : Reg) → bank_number (swap a b r).bank ≡ bank_number r.bank
      banks = by_swap a b (λ x y. bank_number y.bank ≡ bank_number x.bank) (sym twins.bank) twins.bank (λ r na nb. refl)

      allowed : (r : Reg) → set_has (allowed_in problem item) r ≡ true → set_has (allowed_in problem item) (swap a b r) ≡ true
      allowed = by_swap a b (λ x y. set_has (allowed_in problem item) x ≡ true → set_has (allowed_in problem item) y ≡ true)
          (λ e. twins.second_allowed item hi) (λ e. twins.first_allowed item hi) (λ r na nb e. e)

      readers : suits_readers problem (Item item k) r ≡ true → suits_readers problem (Item item k) (swap a b r) ≡ true
      readers = carry
          (λ p. list_all (λ x. not (same_source x.0 (Item item k)) || set_has x.1 r) (operand_classes problem p))
          (λ p. list_all (λ x. not (same_source x.0 (Item item k)) || set_has x.1 (swap a b r)) (operand_classes problem p)) problem.graph.order
          (λ p hp. carry (λ x. not (same_source x.0 (Item item k)) || set_has x.1 r) (λ x. not (same_source x.0 (Item item k)) || set_has x.1 (swap a b r)) (operand_classes problem p)
          (λ x hx t. ap (λ u. not (same_source x.0 (Item item k)) || u)
          (set-swap x.1 (in-classes problem p x.1 (zip-has x.0 x.1 (sources_in problem p) (info_in problem p).in_sets hx).1) r) ∙ t))

      finals : suits_finals problem (Item item k) r ≡ true → suits_finals problem (Item item k) (swap a b r) ≡ true
      finals = carry (λ f. not (same_source f.1 (Item item k)) || same_reg f.0 r) (λ f. not (same_source f.1 (Item item k)) || same_reg f.0 (swap a b r)) problem.finals
          (λ f hf t. ⊎_elim
          (λ (other : not (same_source f.1 (Item item k)) ≡ true). or_left (not (same_source f.1 (Item item k))) (same_reg f.0 (swap a b r)) other)
          (λ (here : same_reg f.0 r ≡ true). or_right (not (same_source f.1 (Item item k))) (same_reg f.0 (swap a b r))
          (ap (same_reg f.0) (final-fixed r (some-pass (λ f. same_reg f.0 r) f problem.finals hf here)) ∙ here))
          (or_cases (not (same_source f.1 (Item item k))) (same_reg f.0 r) t))

  suits-all : (item : ℕ) → Has item problem.graph.order → (k : ℕ) (regs : List Reg) (sets : List RegSet) (owns : List Reg) → ((set : RegSet) → Has set sets → Has set (classes problem))
      → list_all (suits_output problem item) (enumerate_from k (zip (zip regs sets) owns)) ≡ true
      → list_all (suits_output problem item) (enumerate_from k (zip (zip (map (swap a b) regs) sets) owns)) ≡ true
  suits-all item hi k [] sets owns each all = refl
  suits-all item hi k (r ∷ regs) [] owns each all = refl
  suits-all item hi k (r ∷ regs) (set ∷ sets) [] each all = refl
  suits-all item hi k (r ∷ regs) (set ∷ sets) (own ∷ owns) each all =
      let parts = and_parts (suits_output problem item (k, ((r, set), own))) (list_all (suits_output problem item) (enumerate_from (k + 1) (zip (zip regs sets) owns))) all in
      and_from _ _ (suits-swap item hi k r set own (each set (inl refl)) parts.0) (suits-all item hi (k + 1) regs sets owns (λ s h. each s (inr h)) parts.1)

  pub l4-swap : (c : Choice) → Has c.item problem.graph.order → keeps_l4 problem c ≡ true → keeps_l4 problem (swap_choice a b c) ≡ true
  l4-swap c hi l4 =
      let i = item_at problem.graph.items c.item in
      let parts = and_parts (list_all (suits_output problem c.item) (output_classes problem c)) (all_differ (chosen c)) l4 in
      and_from _ _
      (subst (λ regs. list_all (suits_output problem c.item) (enumerate_from 0 (zip (zip regs (info_in problem c.item).out_sets) (outputs i))) ≡ true) (sym (chosen-swap a b c))
      (suits-all c.item hi 0 (chosen c) (info_in problem c.item).out_sets (outputs i) (λ set h. out-classes problem c.item set h) parts.0))
      (ap all_differ (chosen-swap a b c) ∙ all_differ-swap a b (chosen c) ∙ parts.1)

  -- a changed choice is of the problem
  pub of-swap : (c : Choice) → IsOf problem c → IsOf problem (swap_choice a b c)
  of-swap c of = record {
    known = of.known;
    shape = ap (map (swap_some a b)) of.shape ∙ sym (padded-swap a b 3 (chosen c)) ∙ ap (padded 3) (sym (chosen-swap a b c));
    outputs_given = ap length (chosen-swap a b c) ∙ length-swap a b (chosen c) ∙ of.outputs_given;
  }

  -- The rules after choices in which the two have changed their names.
  module _ (old new : List Choice) (s : Swapped problem a b old new) where
    held_in-swap : (p : ℕ) → Has p problem.graph.order → is_placed old p ≡ false → (v : Source) (set : RegSet) → Has v (sources_in problem p) → Has set (classes problem)
        → is_held_in old (v, set) ≡ true → is_held_in new (v, set) ≡ true
    held_in-swap p hp un v set hv hset ok =
        let h = held-in old v set ok in
        let r = h.0 in
        in-held new v set (swap a b r) (record {
          gives = s.gives p hp un v hv ∙ ap (swap_some a b) h.1.gives;
          holds = ⊎_elim
              (λ (e : held new (swap a b r) ≡ held old (swap a b (swap a b r))). e ∙ ap (held old) (swap-back a b r) ∙ h.1.holds)
              (λ (lost : Lost problem a b old new (swap a b r)).
              absurd (lost.dead_old p hp un (subst (λ t. Has t (sources_in problem p)) (sym (ap (held old) (swap-back a b r) ∙ h.1.holds)) hv)))
              (s.holds (swap a b r));
          suits = set-swap set hset r ∙ h.1.suits;
        })

    l2-swap : (c : Choice) → Has c.item problem.graph.order → is_placed old c.item ≡ false → keeps_l2 problem old c ≡ true → keeps_l2 problem new (swap_choice a b c) ≡ true
    l2-swap c hi un = carry (is_held_in old) (is_held_in new) (operand_classes problem c.item) (λ x hx ok.
        let z = zip-has x.0 x.1 (sources_in problem c.item) (info_in problem c.item).in_sets hx in
        held_in-swap c.item hi un x.0 x.1 z.0 (in-classes problem c.item x.1 z.1) ok)

    given_in-swap : (p : ℕ) → Has p problem.graph.order → is_placed old p ≡ false → (r : Reg) (v : Option Source) → ((w : Source) → v ≡ Some w → Has w (sources_in problem p))
        → is_given old r v ≡ true → is_given new (swap a b r) v ≡ true
    given_in-swap p hp un r None each ok = absurd (true≢false (sym ok))
    given_in-swap p hp un r (Some w) each ok =
        subst (λ o. is_register (swap a b r) o ≡ true) (sym (s.gives p hp un w (each w refl))) (by (given old w) ok)
      where
        by : (o : Option Reg) → is_register r o ≡ true → is_register (swap a b r) (swap_some a b o) ≡ true
        by None e = absurd (true≢false (sym e))
        by (Some q) e = same_reg-from (swap a b q) (swap a b r) (ap (swap a b) (same_reg-true q r e))

    tied-all : (p : ℕ) → Has p problem.graph.order → is_placed old p ≡ false → (regs : List Reg) (ties : List (Option ℕ)) → list_all (is_tied problem old p) (zip regs ties) ≡ true
        → list_all (is_tied problem new p) (zip (map (swap a b) regs) ties) ≡ true
    tied-all p hp un [] ties all = refl
    tied-all p hp un (r ∷ regs) [] all = refl
    tied-all p hp un (r ∷ regs) (None ∷ ties) all = tied-all p hp un regs ties all
    tied-all p hp un (r ∷ regs) (Some operand ∷ ties) all =
        let parts = and_parts (is_tied problem old p (r, Some operand)) (list_all (is_tied problem old p) (zip regs ties)) all in
        and_from _ _ (given_in-swap p hp un r (slice_get (sources_in problem p) operand) (λ w at. place-has w (sources_in problem p) operand at) parts.0) (tied-all p hp un regs ties parts.1)

    l3-swap : (c : Choice) → Has c.item problem.graph.order → is_placed old c.item ≡ false → keeps_l3 problem old c ≡ true → keeps_l3 problem new (swap_choice a b c) ≡ true
    l3-swap c hi un l3 =
        subst (λ regs. list_all (is_tied problem new c.item) (zip regs (info_in problem c.item).tied) ≡ true) (sym (chosen-swap a b c))
        (tied-all c.item hi un (chosen c) (info_in problem c.item).tied l3)

    unread : (item : ℕ) (v : Source) → is_still_read problem old item v ≡ false → is_still_read problem new item v ≡ false
    unread item v e = (λ i. list_any (λ p. not (p == item) && (not (s.placed p i) && list_any (same_source v) (sources_in problem p))) problem.graph.order) ∙ e

    over-swap : (item : ℕ) (r : Reg) → may_overwrite problem old item r ≡ true → may_overwrite problem new item (swap a b r) ≡ true
    over-swap item r may =
        let m = may-parts problem old item r may in
        ⊎_elim
        (λ (e : held new (swap a b r) ≡ held old (swap a b (swap a b r))).
        let same : held new (swap a b r) ≡ held old r = e ∙ ap (held old) (swap-back a b r) in
        both-not (is_final_in problem (swap a b r) (held new (swap a b r))) (is_still_read problem new item (held new (swap a b r)))
        (ap (is_final_in problem (swap a b r)) same ∙ final_in-swap (held old r) r m.0)
        (ap (is_still_read problem new item) same ∙ unread item (held old r) m.1))
        (λ (lost : Lost problem a b old new (swap a b r)).
        both-not (is_final_in problem (swap a b r) (held new (swap a b r))) (is_still_read problem new item (held new (swap a b r)))
        (not_final-in problem (swap a b r) (held new (swap a b r)) lost.loose)
        (unread item (held new (swap a b r)) (read-dead problem old item (held new (swap a b r)) lost.dead_new)))
        (s.holds (swap a b r))
      where
        both-not : (x y : Bool) → x ≡ false → y ≡ false → (not x && not y) ≡ true
        both-not x y ex ey = and_from (not x) (not y) (ap not ex) (ap not ey)

    over-all : (item : ℕ) (regs : List Reg) → list_all (may_overwrite problem old item) regs ≡ true → list_all (may_overwrite problem new item) (map (swap a b) regs) ≡ true
    over-all item [] all = refl
    over-all item (r ∷ regs) all =
        let parts = and_parts (may_overwrite problem old item r) (list_all (may_overwrite problem old item) regs) all in
        and_from _ _ (over-swap item r parts.0) (over-all item regs parts.1)

    -- a legal choice is legal under the other names
    pub next-swap : (c : Choice) → IsLegalNext problem old c → IsLegalNext problem new (swap_choice a b c)
    next-swap c legal =
        let k = keeps_rules problem old c legal.rules in
        let hi : Has c.item problem.graph.order = standing-has c.item problem.graph.order legal.of.known in
        let un : is_placed old c.item ≡ false = not-true (is_placed old c.item) k.l1 in
        record {
          of = of-swap c legal.of;
          rules = unbroken problem new (swap_choice a b c) (record {
            l1 = ap not (s.placed c.item) ∙ k.l1;
            l2 = l2-swap c hi un k.l2;
            l3 = l3-swap c hi un k.l3;
            l4 = l4-swap c hi k.l4;
            l5 = (λ i. list_all (λ p. s.placed p i) (precedes_at problem.graph c.item)) ∙ k.l5;
            l6 = k.l6;
            l7 = subst (λ regs. list_all (may_overwrite problem new c.item) regs ≡ true) (sym (chosen-swap a b c)) (over-all c.item (chosen c) k.l7);
          });
        }

  -- and so is a list
  pub from-swap : (old new rest : List Choice) → Swapped problem a b old new → IsLegalFrom problem old rest → IsLegalFrom problem new (map (swap_choice a b) rest)
  from-swap old new [] s legal = tt
  from-swap old new (c ∷ rest) s legal =
      (next-swap old new s c legal.0, from-swap (c ∷ old) (swap_choice a b c ∷ new) rest (swapped-more problem a b old new c s) legal.1)
