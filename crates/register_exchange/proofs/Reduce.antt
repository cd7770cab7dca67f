-- Exchanges, from the front on, until each output stands in the least register of its kind.
use Rattle.std.proofs.Common.{◌≡◌, ℕ, zero, suc, ◌+◌, ◌<◌, ◌≤◌, ◌⊎◌, Bool, true, false, ◌&&◌, ◌||◌, ◌==◌, not, eqb, nat_lt, List, [], ◌∷◌, map, length, slice_get, Option, Some, None, inl, inr, ⊎_elim, refl, sym, ap, ◌∙◌, subst, true≢false, arith}
use Rattle.std.specs.List.{list_all, zip, enumerate_from}
use Rattle.std.proofs.lemmas.Bool.{cases_Bool, cases_lt, and_parts, and_from, or_cases, ltb-true, eqb-true, eq-eqb, not-true, both_ways}
use Rattle.sl_model.specs.declared.register.Reg.{Reg}
use Rattle.sl_model.specs.declared.register.RegSet.{RegSet}
use Rattle.sl_model.specs.declared.schedule.Choice.{Choice}
use Rattle.sl_model.specs.Register.{same_reg, same_bool, bank_number}
use Rattle.sl_model.specs.RegSets.{set_has, machine_regs}
use Rattle.sl_model.specs.Source.{outputs, item_at}
use Rattle.sl_model.specs.Body.{chosen, all_differ}
use Rattle.sl_model.specs.Legal.{Problem, info_in, IsOf, allowed_in, output_classes, suits_output, may_overwrite}
use Rattle.sl_model.specs.Space.{IsReducedNext, IsReducedFrom, is_final, classes, same_kind, is_free_output, is_taken, could_take, placed_outputs}
use Rattle.search_space.specs.Searchable.{IsSearchable}
use Rattle.sl_laws.proofs.Members.{Has, passes, has-all}
use Rattle.sl_laws.proofs.Elements.{list_all-at, element_at, enumerate_from-at, zip-at}
use Rattle.register_exchange.proofs.Lists.{some-pass, none-passes, at-within, beside-place, place-beside}
use Rattle.sl_laws.proofs.Orders.{has-standing}
use Rattle.sl_laws.proofs.Rules.{keeps_rules}
use Rattle.sl_laws.proofs.MachineRegs.{bit, has-machine}
use Rattle.register_exchange.specs.AsGood.{AllowsAlike, move}
use Rattle.register_exchange.proofs.Swaps.{swap, swap_some, swap_choice, swap-first, chosen-swap, get-swap, length-swap}
use Rattle.register_exchange.proofs.Alive.{alive-more}
use Rattle.register_exchange.proofs.Rules.{Twins}
use Rattle.register_exchange.proofs.Least.{Least, least}
use Rattle.register_exchange.proofs.First.{Chance, Goes, Same, fixed, exchange-goes, exchange-same}
use Rattle.register_exchange.proofs.Moves.{length-moves}

-- An output of a choice stands in the least register that it could take.
abbrev pub IsLeastAt : Problem → List Choice → Choice → ℕ → Type 0
IsLeastAt problem done c place = (r other : Reg) → slice_get (chosen c) place ≡ Some r → is_free_output problem c (place, r) ≡ true
    → same_kind problem r other ≡ true → could_take problem done c place other ≡ true → is_taken problem c place other ≡ false → bit r ≤ bit other

-- So do the first outputs of a choice.
abbrev pub Stands : Problem → List Choice → Choice → ℕ → Type 0
Stands problem done c k = (place : ℕ) → place < k → IsLeastAt problem done c place

-- Another choice and list with the same items and units, where the first outputs of the choice stand as asked.
pub record Stood (problem : Problem) (done : List Choice) (c : Choice) (rest : List Choice) (k : ℕ) (d : Choice) (more : List Choice) : Type 0 where
  pub goes : Goes problem done (d ∷ more)
  pub same : Same problem done (c ∷ rest) (d ∷ more)
  pub stands : Stands problem done d k
  pub size : length (chosen d) ≡ length (chosen c)

-- Two registers of one kind, as facts.
kind-parts : (problem : Problem) (a b : Reg) → same_kind problem a b ≡ true
    → (bank_number a.bank ≡ bank_number b.bank) × (is_final problem a ≡ false) × (is_final problem b ≡ false) × ((set : RegSet) → Has set (classes problem) → set_has set a ≡ set_has set b)
kind-parts problem a b kind =
    let p = and_parts (bank_number a.bank == bank_number b.bank && (not (is_final problem a) && not (is_final problem b))) (list_all (λ set. same_bool (set_has set a) (set_has set b)) (classes problem)) kind in
    let q = and_parts (bank_number a.bank == bank_number b.bank) (not (is_final problem a) && not (is_final problem b)) p.0 in
    let l = and_parts (not (is_final problem a)) (not (is_final problem b)) q.1 in (
      eqb-true (bank_number a.bank) (bank_number b.bank) q.0,
      not-true (is_final problem a) l.0,
      not-true (is_final problem b) l.1,
      λ set h. same_bool-is (set_has set a) (set_has set b) (passes (λ set. same_bool (set_has set a) (set_has set b)) set (classes problem) h p.1),
    )
  where
    same_bool-is : (x y : Bool) → same_bool x y ≡ true → x ≡ y
    same_bool-is true true e = refl
    same_bool-is false false e = refl
    same_bool-is true false e = absurd (true≢false (sym e))
    same_bool-is false true e = absurd (true≢false (sym e))

-- a kind goes on across a register
kind-across : (problem : Problem) (a b other : Reg) → same_kind problem a b ≡ true → same_kind problem b other ≡ true → same_kind problem a other ≡ true
kind-across problem a b other first second =
    let p = kind-parts problem a b first in
    let q = kind-parts problem b other second in
    and_from _ _
    (and_from _ _ (eq-eqb (bank_number a.bank) (bank_number other.bank) (p.0 ∙ q.0)) (and_from _ _ (ap not p.1) (ap not q.2)))
    (has-all (λ set. same_bool (set_has set a) (set_has set other)) (classes problem) (λ set h. same_bool-from (set_has set a) (set_has set other) (p.3 set h ∙ q.3 set h)))
  where
    same_bool-from : (x y : Bool) → x ≡ y → same_bool x y ≡ true
    same_bool-from true y e = subst (λ z. same_bool true z ≡ true) e refl
    same_bool-from false y e = subst (λ z. same_bool false z ≡ true) e refl

-- What suits the output at a place doesn't ask where the other outputs are.
could-regs : (f : ℕ → RegSet → Reg → Bool) (g : Reg → Reg) (k n : ℕ) (regs : List Reg) (sets : List RegSet) (owns : List Reg)
    → list_all (λ x. not (x.0 == n) || f x.0 x.1.0.1 x.1.1) (enumerate_from k (zip (zip (map g regs) sets) owns)) ≡ list_all (λ x. not (x.0 == n) || f x.0 x.1.0.1 x.1.1) (enumerate_from k (zip (zip regs sets) owns))
could-regs f g k n [] sets owns = refl
could-regs f g k n (r ∷ regs) [] owns = refl
could-regs f g k n (r ∷ regs) (set ∷ sets) [] = refl
could-regs f g k n (r ∷ regs) (set ∷ sets) (own ∷ owns) = ap (λ t. (not (eqb k n) || f k set own) && t) (could-regs f g (k + 1) n regs sets owns)

module _ (problem : Problem) (room : IsSearchable problem) where
  -- an output beside its place, a class and its own register
  classed : (c : Choice) → IsOf problem c → (place : ℕ) (r : Reg) → slice_get (chosen c) place ≡ Some r
      → (set : RegSet) × (own : Reg) × (slice_get (output_classes problem c) place ≡ Some (0 + place, ((r, set), own)))
  classed c of place r at =
      let sets = (info_in problem c.item).out_sets in
      let owns = outputs (item_at problem.graph.items c.item) in
      let given : length (chosen c) ≡ length (outputs (item_at problem.graph.items c.item)) = of.outputs_given in
      let few : length (outputs (item_at problem.graph.items c.item)) ≤ length (info_in problem c.item).out_sets = room.output_classes c.item (room.sources.known c.item of.known) in
      let within : place < length (chosen c) = at-within place r (chosen c) at in
      let set = element_at (info_in problem c.item).out_sets place (omega arith) in
      let own = element_at (outputs (item_at problem.graph.items c.item)) place (omega arith) in (
        set.0,
        own.0,
        enumerate_from-at 0 (zip (zip (chosen c) sets) owns) place ((r, set.0), own.0) (zip-at (zip (chosen c) sets) owns place (r, set.0) own.0 (zip-at (chosen c) sets place r set.0 at set.1) own.1),
      )

  -- so what an output stands in is allowed
  chosen-parts : (c : Choice) → IsOf problem c → (place : ℕ) (r : Reg) → slice_get (chosen c) place ≡ Some r
      → list_all (suits_output problem c.item) (output_classes problem c) ≡ true → set_has (allowed_in problem c.item) r ≡ true
  chosen-parts c of place r at all =
      let x = classed c of place r at in
      (and_parts (set_has (allowed_in problem c.item) r) _ (list_all-at (suits_output problem c.item) (output_classes problem c) place (0 + place, ((r, x.0), x.1)) all x.2)).0

  -- and what it could take is allowed, and may be overwritten
  could-parts : (done : List Choice) (c : Choice) (place : ℕ) (r other : Reg) → IsOf problem c → slice_get (chosen c) place ≡ Some r → could_take problem done c place other ≡ true
      → (set_has (allowed_in problem c.item) other ≡ true) × (may_overwrite problem done c.item other ≡ true)
  could-parts done c place r other of at could =
      let parts = and_parts (list_all (λ x. not (x.0 == place) || suits_output problem c.item (x.0, ((other, x.1.0.1), x.1.1))) (output_classes problem c)) (may_overwrite problem done c.item other) could in
      let x = classed c of place r at in
      let here : (not (eqb (0 + place) place) || suits_output problem c.item (0 + place, ((other, x.0), x.1))) ≡ true =
      list_all-at (λ x. not (x.0 == place) || suits_output problem c.item (x.0, ((other, x.1.0.1), x.1.1))) (output_classes problem c) place (0 + place, ((r, x.0), x.1)) parts.0 x.2 in
      let same : eqb (0 + place) place ≡ true = eq-eqb (0 + place) place (omega arith) in (
        (and_parts (set_has (allowed_in problem c.item) other) _ (subst (λ b. (not b || suits_output problem c.item (0 + place, ((other, x.0), x.1))) ≡ true) same here)).0,
        parts.1,
      )

  -- so a change of names doesn't change what an output could take
  could-swap : (a b : Reg) (done : List Choice) (c : Choice) (place : ℕ) (other : Reg) → could_take problem done (swap_choice a b c) place other ≡ could_take problem done c place other
  could-swap a b done c place other = ap (λ t. t && may_overwrite problem done c.item other)
      (ap (λ regs. list_all (λ x. not (x.0 == place) || suits_output problem c.item (x.0, ((other, x.1.0.1), x.1.1))) (enumerate_from 0 (zip (zip regs (info_in problem c.item).out_sets) (outputs (item_at problem.graph.items c.item))))) (chosen-swap a b c)
      ∙ could-regs (λ n set own. suits_output problem c.item (n, ((other, set), own))) (swap a b) 0 place (chosen c) (info_in problem c.item).out_sets (outputs (item_at problem.graph.items c.item)))

  -- the test of a register to which an output may go in place of another
  abbrev may_replace : List Choice → Choice → ℕ → Reg → Reg → Bool
  may_replace done c k a other = same_kind problem a other && (could_take problem done c k other && not (is_taken problem c k other))

  -- One exchange, where an output isn't in the least register that it could take.
  module _ (alike : AllowsAlike problem) (done : List Choice) (c : Choice) (rest : List Choice) (k : ℕ) (a b : Reg) (goes : Goes problem done (c ∷ rest))
      (at : slice_get (chosen c) k ≡ Some a) (free : is_free_output problem c (k, a) ≡ true)
      (parts : (same_kind problem a b ≡ true) × (could_take problem done c k b ≡ true) × (is_taken problem c k b ≡ false)) where
    -- the two may stand for each other
    twins : Twins problem a b
    twins =
        let kind = kind-parts problem a b parts.0 in
        let l4 = (keeps_rules problem done c goes.legal.0.rules).l4 in
        let suits = (and_parts (list_all (suits_output problem c.item) (output_classes problem c)) (all_differ (chosen c)) l4).0 in
        let allowed_a : set_has (allowed_in problem c.item) a ≡ true =
        chosen-parts c goes.legal.0.of k a at suits in
        let allowed_b : set_has (allowed_in problem c.item) b ≡ true = (could-parts done c k a b goes.legal.0.of at parts.1).0 in
        record {
          bank = kind.0;
          first_loose = kind.1;
          second_loose = kind.2;
          same = kind.3;
          first_allowed = λ p hp. alike.alike p c.item a (has-standing p problem.graph.order hp) goes.legal.0.of.known kind.1 ∙ allowed_a;
          second_allowed = λ p hp. alike.alike p c.item b (has-standing p problem.graph.order hp) goes.legal.0.of.known kind.2 ∙ allowed_b;
        }

    pub chance : Chance problem done c k a b
    chance = record { at = at; free = free; untaken = parts.2; over = (could-parts done c k a b goes.legal.0.of at parts.1).1; twins = twins }

    -- the outputs that keep their registers
    pub stays : (j : ℕ) (r : Reg) → slice_get (chosen c) j ≡ Some r → (j < k) ⊎ (is_free_output problem c (j, r) ≡ false) → swap a b r ≡ r
    stays = fixed problem done c k a b goes.legal.0 chance

    -- and what stands at a place then
    pub get-changed : (j : ℕ) → slice_get (chosen (swap_choice a b c)) j ≡ swap_some a b (slice_get (chosen c) j)
    get-changed j = ap (λ regs. slice_get regs j) (chosen-swap a b c) ∙ get-swap a b j (chosen c)

    -- what wasn't taken for an output up to this one isn't taken after the exchange, and the other way
    taken-back : (place : ℕ) (other : Reg) → place ≤ k → is_taken problem (swap_choice a b c) place other ≡ false → is_taken problem c place other ≡ false
    taken-back place other up none =
        none-passes (λ x. same_reg x.1 other && (nat_lt x.0 place || (not (x.0 == place) && not (is_free_output problem c x)))) (placed_outputs c) (λ x hx taken.
        let here : slice_get (chosen c) x.0 ≡ Some x.1 = place-beside x (chosen c) hx in
        let p = and_parts (same_reg x.1 other) (nat_lt x.0 place || (not (eqb x.0 place) && not (is_free_output problem c x))) taken in
        let keeps_name : swap a b x.1 ≡ x.1 = stays x.0 x.1 here (⊎_elim
        (λ (before : nat_lt x.0 place ≡ true). (let less : x.0 < place = ltb-true x.0 place before in let lt : x.0 < k = omega arith in inl lt))
        (λ (bound : (not (eqb x.0 place) && not (is_free_output problem c x)) ≡ true). inr (not-true (is_free_output problem c x) (and_parts (not (eqb x.0 place)) (not (is_free_output problem c x)) bound).1))
        (or_cases (nat_lt x.0 place) (not (eqb x.0 place) && not (is_free_output problem c x)) p.1)) in
        let there : slice_get (chosen (swap_choice a b c)) x.0 ≡ Some x.1 = get-changed x.0 ∙ ap (swap_some a b) here ∙ ap (λ r. Some r) keeps_name in
        both_ways (is_taken problem (swap_choice a b c) place other) none
        (some-pass (λ x. same_reg x.1 other && (nat_lt x.0 place || (not (x.0 == place) && not (is_free_output problem c x)))) x (placed_outputs (swap_choice a b c))
        (beside-place x.0 x.1 (chosen (swap_choice a b c)) there) taken))

    -- the earlier outputs stand as they did
    earlier-stands : Stands problem done c k → (place : ℕ) → place < k → IsLeastAt problem done (swap_choice a b c) place
    earlier-stands stands place less r other there loose kind could untaken = by (slice_get (chosen c) place) refl
      where
        by : (o : Option Reg) → slice_get (chosen c) place ≡ o → bit r ≤ bit other
        by None none = absurd (some-none r (sym (ap (swap_some a b) none) ∙ sym (get-changed place) ∙ there))
          where
            some-none : (x : Reg) → None ≡ Some x → ⊥
            some-none x e = cc
        by (Some q) here =
            let name : swap a b q ≡ q = stays place q here (inl less) in
            let same : q ≡ r = some-is q r (ap (λ x. Some x) (sym name) ∙ sym (ap (swap_some a b) here) ∙ sym (get-changed place) ∙ there) in
            stands place less r other (here ∙ ap (λ x. Some x) same) loose kind (sym (could-swap a b done c place other) ∙ could) (taken-back place other (omega arith) untaken)
          where
            some-is : (x y : Reg) → Some x ≡ Some y → x ≡ y
            some-is x y e = cc

    -- and this one stands as asked
    this-stands : Least (may_replace done c k a) machine_regs b → IsLeastAt problem done (swap_choice a b c) k
    this-stands best r other there loose kind could untaken =
        let now : slice_get (chosen (swap_choice a b c)) k ≡ Some b = get-changed k ∙ ap (swap_some a b) at ∙ ap (λ x. Some x) (swap-first a b) in
        let same : b ≡ r = some-is b r (sym now ∙ there) in
        let could' : could_take problem done c k other ≡ true = sym (could-swap a b done c k other) ∙ could in
        let kind' : same_kind problem a other ≡ true = kind-across problem a b other parts.0 (subst (λ x. same_kind problem x other ≡ true) (sym same) kind) in
        let listed : Has other machine_regs = has-machine (allowed_in problem c.item) other (could-parts done c k a other goes.legal.0.of at could').0 in
        let test : may_replace done c k a other ≡ true = and_from _ _ kind' (and_from _ _ could' (ap not (taken-back k other (omega arith) untaken))) in
        subst (λ x. bit x ≤ bit other) same (best.1 other listed test)
      where
        some-is : (x y : Reg) → Some x ≡ Some y → x ≡ y
        some-is x y e = cc

    exchanged : Least (may_replace done c k a) machine_regs b → Stands problem done c k → Stood problem done c rest (suc k) (swap_choice a b c) (map (swap_choice a b) rest)
    exchanged best stands = record {
      goes = exchange-goes problem done c rest k a b goes chance;
      same = exchange-same problem done c rest k a b goes chance;
      stands = λ place less. ⊎_elim
          (λ (before : place < k). earlier-stands stands place before)
          (λ (from : k ≤ place). (let here : k ≡ place = omega arith in subst (IsLeastAt problem done (swap_choice a b c)) here (this-stands best)))
          (cases_lt place k);
      size = ap length (chosen-swap a b c) ∙ length-swap a b (chosen c);
    }

  replace-parts : (done : List Choice) (c : Choice) (k : ℕ) (a b : Reg) → may_replace done c k a b ≡ true
      → (same_kind problem a b ≡ true) × (could_take problem done c k b ≡ true) × (is_taken problem c k b ≡ false)
  replace-parts done c k a b ok =
      let p = and_parts (same_kind problem a b) (could_take problem done c k b && not (is_taken problem c k b)) ok in
      let q = and_parts (could_take problem done c k b) (not (is_taken problem c k b)) p.1 in
      (p.0, q.0, not-true (is_taken problem c k b) q.1)

  module _ (alike : AllowsAlike problem) where
    -- nothing is to be changed
    unchanged : (done : List Choice) (c : Choice) (rest : List Choice) (k : ℕ) → Goes problem done (c ∷ rest) → Stands problem done c k → IsLeastAt problem done c k → Stood problem done c rest (suc k) c rest
    unchanged done c rest k goes stands here = record {
      goes = goes;
      same = record { moves = refl; ends = λ r fin. refl };
      stands = λ place less. ⊎_elim
          (λ (before : place < k). stands place before)
          (λ (from : k ≤ place). (let at : k ≡ place = omega arith in subst (IsLeastAt problem done c) at here))
          (cases_lt place k);
      size = refl;
    }

    -- the next output of a choice comes to stand as asked
    next-place : (done : List Choice) (c : Choice) (rest : List Choice) (k : ℕ) → Goes problem done (c ∷ rest) → Stands problem done c k
        → (d : Choice) × (more : List Choice) × Stood problem done c rest (suc k) d more
    next-place done c rest k goes stands = by (slice_get (chosen c) k) refl
      where
        some-none : (x : Reg) → None ≡ Some x → ⊥
        some-none x e = cc

        some-is : (x y : Reg) → Some x ≡ Some y → x ≡ y
        some-is x y e = cc

        by : (o : Option Reg) → slice_get (chosen c) k ≡ o → (d : Choice) × (more : List Choice) × Stood problem done c rest (suc k) d more
        by None none = (c, rest, unchanged done c rest k goes stands (λ r other at loose kind could untaken. absurd (some-none r (sym none ∙ at))))
        by (Some a) at = ⊎_elim
            (λ (free : is_free_output problem c (k, a) ≡ true). ⊎_elim
            (λ (none : (x : Reg) → Has x machine_regs → may_replace done c k a x ≡ true → ⊥). (
              c,
              rest,
              unchanged done c rest k goes stands (λ r other at' loose kind could untaken.
                  (let same : a ≡ r = some-is a r (sym at ∙ at') in
                  let listed : Has other machine_regs = has-machine (allowed_in problem c.item) other (could-parts done c k a other goes.legal.0.of at could).0 in
                  absurd (none other listed (and_from _ _ (subst (λ x. same_kind problem x other ≡ true) (sym same) kind) (and_from _ _ could (ap not untaken)))))),
            ))
            (λ (some : (b : Reg) × Least (may_replace done c k a) machine_regs b). ⊎_elim
            (λ (lower : bit some.0 < bit a). (swap_choice a some.0 c, map (swap_choice a some.0) rest, exchanged alike done c rest k a some.0 goes at free (replace-parts done c k a some.0 some.1.0) some.1 stands))
            (λ (from : bit a ≤ bit some.0). (
              c,
              rest,
              unchanged done c rest k goes stands (λ r other at' loose kind could untaken.
                  (let same : a ≡ r = some-is a r (sym at ∙ at') in
                  let listed : Has other machine_regs = has-machine (allowed_in problem c.item) other (could-parts done c k a other goes.legal.0.of at could).0 in
                  let up : bit some.0 ≤ bit other = some.1.1 other listed (and_from _ _ (subst (λ x. same_kind problem x other ≡ true) (sym same) kind) (and_from _ _ could (ap not untaken))) in
                  let le : bit a ≤ bit other = omega arith in
                  subst (λ x. bit x ≤ bit other) same le)),
            ))
            (cases_lt (bit some.0) (bit a)))
            (least (may_replace done c k a) machine_regs))
            (λ (bound : is_free_output problem c (k, a) ≡ false). (
              c,
              rest,
              unchanged done c rest k goes stands (λ r other at' loose kind could untaken.
                  absurd (both_ways (is_free_output problem c (k, a)) bound (ap (λ x. is_free_output problem c (k, x)) (some-is a r (sym at ∙ at')) ∙ loose))),
            ))
            (cases_Bool (is_free_output problem c (k, a)))

    -- the first outputs of a choice come to stand as asked
    first-places : (done : List Choice) (k : ℕ) (c : Choice) (rest : List Choice) → Goes problem done (c ∷ rest) → (d : Choice) × (more : List Choice) × Stood problem done c rest k d more
    first-places done zero c rest goes = (c, rest, record { goes = goes; same = record { moves = refl; ends = λ r fin. refl }; stands = λ place less. absurd (omega arith); size = refl })
    first-places done (suc k) c rest goes =
        let s = first-places done k c rest goes in
        let n = next-place done s.0 s.1 k s.2.goes s.2.stands in (
          n.0,
          n.1,
          record {
            goes = n.2.goes;
            same = record { moves = n.2.same.moves ∙ s.2.same.moves; ends = λ r fin. n.2.same.ends r fin ∙ s.2.same.ends r fin };
            stands = n.2.stands;
            size = n.2.size ∙ s.2.size;
          },
        )

    reduced-of : (done : List Choice) (c : Choice) → Stands problem done c (length (chosen c)) → IsReducedNext problem done c
    reduced-of done c stands = record { least = λ place r other at free kind could untaken. stands place (at-within place r (chosen c) at) r other at free kind could untaken }

    -- all choices of a list come to be reduced
    pub all-reduced : (n : ℕ) (done rest : List Choice) → length rest ≡ n → Goes problem done rest
        → (other : List Choice) × Goes problem done other × IsReducedFrom problem done other × Same problem done rest other
    all-reduced n done [] long goes = ([], goes, tt, record { moves = refl; ends = λ r fin. refl })
    all-reduced zero done (c ∷ rest) long goes = absurd (omega arith)
    all-reduced (suc n) done (c ∷ rest) long goes =
        let s = first-places done (length (chosen c)) c rest goes in
        let count : length (s.0 ∷ s.1) ≡ length (c ∷ rest) = length-moves (s.0 ∷ s.1) (c ∷ rest) s.2.same.moves in
        let shorter : length s.1 ≡ n = omega arith in
        let after : Goes problem (s.0 ∷ done) s.1 = record { legal = s.2.goes.legal.1; alive = alive-more problem done s.0 s.2.goes.legal.0 s.2.goes.alive } in
        let r = all-reduced n (s.0 ∷ done) s.1 shorter after in (
          s.0 ∷ r.0,
          record { legal = (s.2.goes.legal.0, r.1.legal); alive = goes.alive },
          (reduced-of done s.0 (subst (Stands problem done s.0) (sym s.2.size) s.2.stands), r.2),
          record {
            moves = ap (λ ms. move s.0 ∷ ms) r.3.moves ∙ s.2.same.moves;
            ends = λ q fin. r.3.ends q fin ∙ s.2.same.ends q fin;
          },
        )
