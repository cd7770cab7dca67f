-- Choices among which nothing is found: those that come too early, and those of an item on a unit where
-- a rule is broken whatever the registers are.
use Rattle.std.proofs.Common.{◌≡◌, ℕ, ◌+◌, ◌-◌, ◌≤◌, Bool, true, false, ◌&&◌, ◌==◌, not, is_some, List, [], ◌∷◌, ◌++◌, map, length, Option, Some, None, if◌then◌else◌, refl, sym, ap, ◌∙◌, subst, true≢false, length-append, arith}
use Rattle.std.specs.Int.{bit_at}
use Rattle.std.specs.List.{find}
use Rattle.std.specs.Ordering.{nat_cmp, is_lt}
use Rattle.std.specs.Cmp.Lexicographic.{slice_cmp}
use Rattle.std.proofs.lemmas.Bool.{and_parts, not-true, false_from_ne_true}
use Rattle.std.proofs.lemmas.List.{map-append}
use Rattle.sl_model.specs.declared.register.Reg.{Reg}
use Rattle.sl_model.specs.declared.schedule.Choice.{Choice}
use Rattle.sl_model.specs.declared.rules.Rule.TheVariants.{L1, L2, L3, L4, L5, L6, L7}
use Rattle.sl_model.specs.RegSets.{bit_of}
use Rattle.sl_model.specs.Source.{padded}
use Rattle.sl_model.specs.Cycles.{row_of}
use Rattle.sl_model.specs.Body.{chosen, stands_in, all_differ}
use Rattle.sl_model.specs.Legal.{Problem, first_broken}
use Rattle.sl_model.specs.Space.{choice_key}
use Rattle.sl_laws.proofs.Members.{from-map}
use Rattle.sl_laws.proofs.Padded.{padded-back}
use Rattle.sl_laws.proofs.Rules.{KeepsRules, keeps_rules}
use Rattle.sl_laws.proofs.Tests.{is_none_from}
use Rattle.search_space.specs.Searchable.{output_room}
use Rattle.search_space.specs.Next.{reg_lists, choice_in, is_reduced, may_come, may_follow, is_behind}
use Rattle.search_space.specs.Trials.{reg_of_bit, beginning}
use Rattle.search_space.proofs.ForCallers.{fails-behind, find-never, length-regs}
use Rattle.reduced_choice.specs.Early.{is_early}
use Rattle.reduced_choice.proofs.Orders.{lower-never}

-- the choices of an item on a unit with one more register behind others, by its bit
abbrev pub with_bit : ℕ → ℕ → List Reg → ℕ → ℕ → List Choice
with_bit item unit front left bit = beginning item unit (front ++ reg_of_bit bit ∷ []) (left - 1)

-- the bit by which registers are ordered
abbrev bit : Reg → ℕ
bit r = bit_of r.bank r.number

-- what all rules say is broken nowhere
none-broken : (a b c d e f g : Bool) → a ≡ true → b ≡ true → c ≡ true → d ≡ true → e ≡ true → f ≡ true → g ≡ true
    → (if not a then Some L1 else if not b then Some L2 else if not c then Some L3 else if not d then Some L4 else if not e then Some L5 else if not f then Some L6 else if not g then Some L7 else None) ≡ None
none-broken a b c d e f g ea eb ec ed ee ef eg = rw (ea, eb, ec, ed, ee, ef, eg) refl

module _ (problem : Problem) (done : List Choice) where
  -- An item on a unit with no outputs breaks no rule where it breaks none with some.
  bare-keeps : (item unit : ℕ) (regs : List Reg) → KeepsRules problem done (choice_in item unit regs) → first_broken problem done (choice_in item unit []) ≡ None
  unfolding first_broken all_differ
  bare-keeps item unit regs keeps = none-broken _ _ true true _ _ true keeps.l1 keeps.l2 refl refl keeps.l5 keeps.l6 refl

  -- a choice that may come keeps the rules
  coming-keeps : (c : Choice) → may_come problem done c ≡ true → KeepsRules problem done c
  unfolding may_come
  coming-keeps c may =
      let parts = and_parts (stands_in c.item problem.graph.order) (not (is_some (first_broken problem done c)) && is_reduced problem done c) may in
      let tests = and_parts (not (is_some (first_broken problem done c))) (is_reduced problem done c) parts.1 in
      keeps_rules problem done c (is_none_from (first_broken problem done c) (not-true (is_some (first_broken problem done c)) tests.0))

  module _ (after : Option Choice) where
    -- Nothing is found among choices of an item on a unit that break a rule.
    refused-none : (item unit : ℕ) (front : List Reg) (left : ℕ) → ((regs : List Reg) → KeepsRules problem done (choice_in item unit regs) → ⊥)
        → find (may_follow problem done after) (beginning item unit front left) ≡ None
    refused-none item unit front left never = find-never (may_follow problem done after) (beginning item unit front left) (λ c h.
        let m = from-map (λ regs. choice_in item unit (front ++ regs)) c (reg_lists left) h in
        let refused : may_come problem done (choice_in item unit (front ++ m.0)) ≡ false = false_from_ne_true (may_come problem done (choice_in item unit (front ++ m.0))) (λ may. never (front ++ m.0) (coming-keeps (choice_in item unit (front ++ m.0)) may)) in
        fails-behind (is_behind after c) (may_come problem done c) (subst (λ x. may_come problem done x ≡ false) m.2 refused))

    -- Nothing is found where the item on the unit breaks a rule with no outputs,
    pub barred-none : (bare : Choice) (left : ℕ) → bare.outs ≡ padded output_room (chosen bare) → chosen bare ≡ [] → is_some (first_broken problem done bare) ≡ true
        → find (may_follow problem done after) (beginning bare.item bare.unit (chosen bare) left) ≡ None
    barred-none bare left shape none broken =
        let outs : bare.outs ≡ padded output_room [] = shape ∙ ap (padded output_room) none in
        let is : bare ≡ choice_in bare.item bare.unit [] = λ i. record { item = bare.item; unit = bare.unit; outs = outs i } in
        refused-none bare.item bare.unit (chosen bare) left (λ regs keeps.
        true≢false (sym broken ∙ ap (λ (c : Choice). is_some (first_broken problem done c)) is ∙ ap is_some (bare-keeps bare.item bare.unit regs keeps)))

    -- nor on a unit that isn't one of the item's,
    pub unit-none : (item unit left : ℕ) → (bit_at (row_of problem.costs item).units unit == 1) ≡ false
        → find (may_follow problem done after) (beginning item unit [] left) ≡ None
    unit-none item unit left other = refused-none item unit [] left (λ regs keeps. true≢false (sym keeps.l6 ∙ other))

  -- nor among choices that all come before another.
  pub early-none : (after : Option Choice) (front : Choice) (left : ℕ) → length (chosen front) + left ≤ output_room → is_early after front ≡ true
      → find (may_follow problem done after) (beginning front.item front.unit (chosen front) left) ≡ None
  unfolding is_early
  early-none None front left few early = absurd (true≢false (sym early))
  early-none (Some a) front left few early = find-never (may_follow problem done (Some a)) (beginning front.item front.unit (chosen front) left) (λ c h.
      let m = from-map (λ regs. choice_in front.item front.unit (chosen front ++ regs)) c (reg_lists left) h in
      let long : length m.0 ≡ left = length-regs left m.0 m.1 in
      let both : length (chosen front ++ m.0) ≡ length (chosen front) + length m.0 = length-append (chosen front) m.0 in
      let outs : chosen (choice_in front.item front.unit (chosen front ++ m.0)) ≡ chosen front ++ m.0 = padded-back output_room (chosen front ++ m.0) (omega arith) in
      let key : choice_key c ≡ choice_key front ++ map bit m.0 =
      ap (λ (x : Choice). choice_key x) (sym m.2) ∙ ap (λ regs. front.item ∷ front.unit ∷ map bit regs) outs ∙ ap (λ ns. front.item ∷ front.unit ∷ ns) (map-append bit (chosen front) m.0) in
      let never : is_lt (slice_cmp nat_cmp (choice_key a) (choice_key c)) ≡ false =
      ap (λ k. is_lt (slice_cmp nat_cmp (choice_key a) k)) key ∙ lower-never (choice_key front) (map bit m.0) (choice_key a) early in
      ap (λ b. b && may_come problem done c) never)
