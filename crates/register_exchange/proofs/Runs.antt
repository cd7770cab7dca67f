-- Choices made with two registers under each other's names.
use Rattle.std.proofs.Common.{◌≡◌, ℕ, ◌⊎◌, Bool, true, false, ◌||◌, not, eqb, List, [], ◌∷◌, slice_get, Option, Some, None, cond, if◌then◌else◌, inl, inr, ⊎_elim, refl, sym, ap, ◌∙◌, subst, true≢false}
use Rattle.std.proofs.lemmas.Bool.{and_parts, and_from, or_parts, ne_eqb, cond-false, both_ways}
use Rattle.sl_model.specs.declared.register.Reg.{Reg}
use Rattle.sl_model.specs.declared.register.RegSet.{RegSet}
use Rattle.sl_model.specs.declared.schedule.Choice.{Choice}
use Rattle.sl_model.specs.declared.schedule.Source.{Source}
use Rattle.sl_model.specs.declared.schedule.Source.TheVariants.{Entry, Item}
use Rattle.sl_model.specs.declared.rules.Rule.{Rule}
use Rattle.sl_model.specs.declared.rules.Rule.TheVariants.{L1, L2, L3, L4, L5, L6, L7}
use Rattle.sl_model.specs.RegSets.{set_has}
use Rattle.sl_model.specs.Source.{place_from, output_or}
use Rattle.sl_model.specs.Body.{same_source, chosen, is_placed, held, placed_in, given, holds_in, is_still_held}
use Rattle.sl_model.specs.Legal.{Problem, first_broken, sources_in, keeps_l1, keeps_l2, keeps_l3, keeps_l4, keeps_l5, keeps_l6, keeps_l7, is_held_in, is_in_set}
use Rattle.sl_model.specs.Space.{is_final}
use Rattle.sl_laws.proofs.Members.{Has}
use Rattle.sl_laws.proofs.Sources.{same_source-true, same_source-refl}
use Rattle.sl_laws.proofs.Rules.{KeepsRules}
use Rattle.register_exchange.proofs.Swaps.{swap, swap_some, swap_choice, chosen-swap, get-swap, place_from-swap}

-- a rule that is kept isn't named as broken
rule_keeps : (a : Bool) (rule : Rule) (later : Option Rule) → a ≡ true → later ≡ None → (if not a then Some rule else later) ≡ None
rule_keeps true rule later e l = l
rule_keeps false rule later e l = absurd (true≢false (sym e))

-- so a choice that keeps all rules breaks none
pub unbroken : (problem : Problem) (done : List Choice) (c : Choice) → KeepsRules problem done c → first_broken problem done c ≡ None
unfolding first_broken
unbroken problem done c k =
    rule_keeps (keeps_l1 problem done c) L1 _ k.l1
    (rule_keeps (keeps_l2 problem done c) L2 _ k.l2
    (rule_keeps (keeps_l3 problem done c) L3 _ k.l3
    (rule_keeps (keeps_l4 problem c) L4 _ k.l4
    (rule_keeps (keeps_l5 problem done c) L5 _ k.l5
    (rule_keeps (keeps_l6 problem c) L6 _ k.l6
    (rule_keeps (keeps_l7 problem done c) L7 _ k.l7 refl))))))

-- A value is dead where no unplaced item reads it.
abbrev pub Dead : Problem → List Choice → Source → Type 0
Dead problem done v = (p : ℕ) → Has p problem.graph.order → is_placed done p ≡ false → Has v (sources_in problem p) → ⊥

-- Each value that was placed, and that an unplaced item reads, is still held.
abbrev pub Alive : Problem → List Choice → Type 0
Alive problem done = (p : ℕ) → Has p problem.graph.order → is_placed done p ≡ false → (s : Source) → Has s (sources_in problem p) → (r : Reg) → given done s ≡ Some r → held done r ≡ s

-- what one more choice places, holds and gives
pub placed-more : (done : List Choice) (c : Choice) (p : ℕ) → is_placed (c ∷ done) p ≡ (eqb c.item p || is_placed done p)
unfolding is_placed
placed-more done c p = refl

-- what isn't placed then wasn't before
pub unplaced-before : (done : List Choice) (c : Choice) (p : ℕ) → is_placed (c ∷ done) p ≡ false → (eqb c.item p ≡ false) × (is_placed done p ≡ false)
unplaced-before done c p un = or_parts (eqb c.item p) (is_placed done p) (sym (placed-more done c p) ∙ un)

pub held-more : (done : List Choice) (c : Choice) (r : Reg) → held (c ∷ done) r ≡ output_or c.item (place_from 0 r (chosen c)) (held done r)
unfolding held
held-more done c r = refl

pub given-more : (done : List Choice) (c : Choice) (q j : ℕ) → placed_in (c ∷ done) q j ≡ cond (eqb c.item q) (slice_get (chosen c) j) (placed_in done q j)
unfolding placed_in
given-more done c q j = refl

placed-given : (done : List Choice) (q j : ℕ) (r : Reg) → placed_in done q j ≡ Some r → is_placed done q ≡ true
unfolding placed_in is_placed
placed-given [] q j r g = absurd (cc)
placed-given (c ∷ done) q j r g = by (eqb c.item q) g (placed-given done q j r)
  where
    by : (b : Bool) → cond b (slice_get (chosen c) j) (placed_in done q j) ≡ Some r → (placed_in done q j ≡ Some r → is_placed done q ≡ true) → (b || is_placed done q) ≡ true
    by true e rest = refl
    by false e rest = rest e

-- A source that was placed, or an entry, isn't placed again, and keeps its register.
pub source-kept : (done : List Choice) (c : Choice) → is_placed done c.item ≡ false → (s : Source) (r : Reg) → given done s ≡ Some r
    → (given (c ∷ done) s ≡ Some r) × ((j : ℕ) → Item c.item j ≡ s → ⊥)
source-kept done c fresh (Entry e) r g = (g, λ j same. cc)
source-kept done c fresh (Item q j) r g =
    let ne : c.item ≡ q → ⊥ = λ (e : c.item ≡ q). both_ways (is_placed done q) (ap (is_placed done) (sym e) ∙ fresh) (placed-given done q j r g) in (
      given-more done c q j ∙ cond-false (eqb c.item q) (slice_get (chosen c) j) (placed_in done q j) (ne_eqb c.item q ne) ∙ g,
      λ k same. ne (item_of c.item k q j same),
    )
  where
    item_of : (a k b l : ℕ) → Item a k ≡ Item b l → a ≡ b
    item_of a k b l same = cc

-- What is held in a register of a set, as facts; and the other way.
pub record HeldIn (done : List Choice) (s : Source) (set : RegSet) (r : Reg) : Type 0 where
  pub gives : given done s ≡ Some r
  pub holds : held done r ≡ s
  pub suits : set_has set r ≡ true

pub held-in : (done : List Choice) (s : Source) (set : RegSet) → is_held_in done (s, set) ≡ true → (r : Reg) × HeldIn done s set r
unfolding is_still_held
held-in done s set ok = by (given done s) refl (and_parts (is_still_held done s) (is_in_set set (given done s)) ok)
  where
    by : (o : Option Reg) → given done s ≡ o → (holds_in done s o ≡ true) × (is_in_set set o ≡ true) → (r : Reg) × HeldIn done s set r
    by None g parts = absurd (true≢false (sym parts.0))
    by (Some r) g parts = (r, record { gives = g; holds = same_source-true (held done r) s parts.0; suits = parts.1 })

pub in-held : (done : List Choice) (s : Source) (set : RegSet) (r : Reg) → HeldIn done s set r → is_held_in done (s, set) ≡ true
unfolding is_still_held
in-held done s set r h =
    and_from (is_still_held done s) (is_in_set set (given done s))
    (subst (λ o. holds_in done s o ≡ true) (sym h.gives) (subst (λ v. same_source v s ≡ true) (sym h.holds) (same_source-refl s)))
    (subst (λ o. is_in_set set o ≡ true) (sym h.gives) h.suits)

-- Where two registers changed their names: what is in a register is of no use any more.
pub record Lost (problem : Problem) (a b : Reg) (old new : List Choice) (r : Reg) : Type 0 where
  pub dead_old : Dead problem old (held old (swap a b r))
  pub dead_new : Dead problem old (held new r)
  pub loose : is_final problem r ≡ false

-- Choices and others, of the same items, that have two registers under each other's names: what unplaced items read is
-- given to the register of the other name, and each register holds what that of the other name does, or nothing of use.
pub record Swapped (problem : Problem) (a b : Reg) (old new : List Choice) : Type 0 where
  pub placed : (p : ℕ) → is_placed new p ≡ is_placed old p
  pub gives : (p : ℕ) → Has p problem.graph.order → is_placed old p ≡ false → (s : Source) → Has s (sources_in problem p) → given new s ≡ swap_some a b (given old s)
  pub holds : (r : Reg) → (held new r ≡ held old (swap a b r)) ⊎ Lost problem a b old new r

module _ (problem : Problem) (a b : Reg) where
  -- what is dead stays dead
  pub dead-more : (done : List Choice) (c : Choice) (v : Source) → Dead problem done v → Dead problem (c ∷ done) v
  dead-more done c v dead p hp un h = dead p hp (unplaced-before done c p un).1 h

  -- what a changed choice gives and holds
  pub given-swap : (old new : List Choice) (c : Choice) (s : Source) → given new s ≡ swap_some a b (given old s) → given (swap_choice a b c ∷ new) s ≡ swap_some a b (given (c ∷ old) s)
  given-swap old new c (Entry r) e = e
  given-swap old new c (Item q j) e =
      given-more new (swap_choice a b c) q j ∙ by (eqb c.item q) ∙ ap (swap_some a b) (sym (given-more old c q j))
    where
      by : (t : Bool) → cond t (slice_get (chosen (swap_choice a b c)) j) (placed_in new q j) ≡ swap_some a b (cond t (slice_get (chosen c) j) (placed_in old q j))
      by true = ap (λ regs. slice_get regs j) (chosen-swap a b c) ∙ get-swap a b j (chosen c)
      by false = e

  pub held-swap : (new : List Choice) (c : Choice) (r : Reg) → held (swap_choice a b c ∷ new) r ≡ output_or c.item (place_from 0 (swap a b r) (chosen c)) (held new r)
  held-swap new c r = held-more new (swap_choice a b c) r
      ∙ ap (λ o. output_or c.item o (held new r)) (ap (place_from 0 r) (chosen-swap a b c) ∙ place_from-swap a b 0 r (chosen c))

  -- one more choice keeps two runs in each other's names
  pub swapped-more : (old new : List Choice) (c : Choice) → Swapped problem a b old new → Swapped problem a b (c ∷ old) (swap_choice a b c ∷ new)
  swapped-more old new c s = record {
    placed = λ p. placed-more new (swap_choice a b c) p ∙ ap (λ t. eqb c.item p || t) (s.placed p) ∙ sym (placed-more old c p);
    gives = λ p hp un v hv. given-swap old new c v (s.gives p hp (unplaced-before old c p un).1 v hv);
    holds = λ r. by r (place_from 0 (swap a b r) (chosen c)) refl;
  }
    where
      by : (r : Reg) (o : Option ℕ) → place_from 0 (swap a b r) (chosen c) ≡ o
          → (held (swap_choice a b c ∷ new) r ≡ held (c ∷ old) (swap a b r)) ⊎ Lost problem a b (c ∷ old) (swap_choice a b c ∷ new) r
      by r (Some k) at = inl (held-swap new c r ∙ ap (λ o. output_or c.item o (held new r)) at ∙ sym (held-more old c (swap a b r) ∙ ap (λ o. output_or c.item o (held old (swap a b r))) at))
      by r None at =
          let n : held (swap_choice a b c ∷ new) r ≡ held new r = held-swap new c r ∙ ap (λ o. output_or c.item o (held new r)) at in
          let l : held (c ∷ old) (swap a b r) ≡ held old (swap a b r) = held-more old c (swap a b r) ∙ ap (λ o. output_or c.item o (held old (swap a b r))) at in
          ⊎_elim
          (λ (e : held new r ≡ held old (swap a b r)). inl (n ∙ e ∙ sym l))
          (λ (lost : Lost problem a b old new r). inr (record {
            dead_old = subst (Dead problem (c ∷ old)) (sym l) (dead-more old c (held old (swap a b r)) lost.dead_old);
            dead_new = subst (Dead problem (c ∷ old)) (sym n) (dead-more old c (held new r) lost.dead_new);
            loose = lost.loose;
          }))
          (s.holds r)
