-- The test of a reduced choice says what a reduced choice is.
use Rattle.std.proofs.Common.{◌≡◌, ℕ, ◌+◌, ◌<◌, ◌≤◌, Bool, true, false, ◌&&◌, ◌||◌, not, nat_lt, List, slice_get, Some, ⊎_elim, refl, ap, subst, arith}
use Rattle.std.proofs.lemmas.Bool.{cases_lt, and_parts, and_from, not-true, both_ways, ltb-true, lt-ltb}
use Rattle.sl_model.specs.declared.register.Reg.{Reg}
use Rattle.sl_model.specs.declared.schedule.Choice.{Choice}
use Rattle.sl_model.specs.Body.{chosen}
use Rattle.sl_model.specs.Legal.{Problem, IsOf, allowed_in}
use Rattle.sl_model.specs.Space.{IsReducedNext, same_kind, is_free_output, could_take, is_taken, placed_outputs}
use Rattle.sl_laws.proofs.Members.{Has, has-all, passes}
use Rattle.search_space.specs.Searchable.{IsSearchable}
use Rattle.search_space.specs.Next.{machine_regs, could_go_lower, is_reduced}
use Rattle.search_space.proofs.Lists.{any-has, has-any, listed-at, at-listed}
use Rattle.sl_laws.proofs.MachineRegs.{bit, has-machine}
use Rattle.search_space.proofs.Outputs.{could-allowed}

module _ (problem : Problem) (done : List Choice) (c : Choice) where
  -- is a register lower than that of an output, and could the output go there?
  abbrev is_lower : ℕ → Reg → Reg → Bool
  is_lower place r other = nat_lt (bit other) (bit r) && (same_kind problem r other && (could_take problem done c place other && not (is_taken problem c place other)))

  -- is an output not free to choose, or in the least register?
  abbrev is_least : ℕ × Reg → Bool
  is_least x = not (is_free_output problem c x) || not (could_go_lower problem done c x.0 x.1)

  -- an output that could go to a lower register
  could-lower : (place : ℕ) (r other : Reg) → Has other machine_regs → bit other < bit r → same_kind problem r other ≡ true
      → could_take problem done c place other ≡ true → is_taken problem c place other ≡ false → could_go_lower problem done c place r ≡ true
  unfolding could_go_lower
  could-lower place r other there lower same could free =
      has-any (is_lower place r) other machine_regs there
      (and_from (nat_lt (bit other) (bit r)) _ (lt-ltb (bit other) (bit r) lower)
      (and_from (same_kind problem r other) _ same
      (and_from (could_take problem done c place other) (not (is_taken problem c place other)) could (ap not free))))

  -- a reduced choice has none
  none-lower : IsReducedNext problem done c → (place : ℕ) (r : Reg) → slice_get (chosen c) place ≡ Some r → is_free_output problem c (place, r) ≡ true
      → could_go_lower problem done c place r ≡ true → ⊥
  unfolding could_go_lower
  none-lower reduced place r at free lower =
      let o = any-has (is_lower place r) machine_regs lower in
      let p = and_parts (nat_lt (bit o.0) (bit r)) (same_kind problem r o.0 && (could_take problem done c place o.0 && not (is_taken problem c place o.0))) o.2 in
      let q = and_parts (same_kind problem r o.0) (could_take problem done c place o.0 && not (is_taken problem c place o.0)) p.1 in
      let t = and_parts (could_take problem done c place o.0) (not (is_taken problem c place o.0)) q.1 in
      let le : bit r ≤ bit o.0 = reduced.least place r o.0 at free q.0 t.0 (not-true (is_taken problem c place o.0) t.1) in
      let lt : bit o.0 < bit r = ltb-true (bit o.0) (bit r) p.0 in
      omega arith

  -- A reduced choice passes the test.
  pub reduced-test : IsReducedNext problem done c → is_reduced problem done c ≡ true
  unfolding is_reduced
  reduced-test reduced = has-all is_least (placed_outputs c) each
    where
      either : (a b : Bool) → (a ≡ true → b ≡ true → ⊥) → (not a || not b) ≡ true
      either true true never = absurd (never refl refl)
      either true false never = refl
      either false b never = refl

      each : (x : ℕ × Reg) → Has x (placed_outputs c) → is_least x ≡ true
      each (place, r) h = either (is_free_output problem c (place, r)) (could_go_lower problem done c place r) (λ free lower.
          let at = listed-at 0 place r (chosen c) h in
          let sum : at.0 ≡ place = (let e : place ≡ 0 + at.0 = at.1 in omega arith) in
          none-lower reduced place r (subst (λ n. slice_get (chosen c) n ≡ Some r) sum at.2) free lower)

  -- And a choice that passes it is reduced.
  pub reduced-from : IsSearchable problem → IsOf problem c → is_reduced problem done c ≡ true → IsReducedNext problem done c
  unfolding is_reduced
  reduced-from search of reduced = record {
    least = λ place r other at free same could taken. ⊎_elim
        (λ (lower : bit other < bit r).
        let there = has-machine (allowed_in problem c.item) other (could-allowed problem search done c place r other of at could) in
        let some : could_go_lower problem done c place r ≡ true = could-lower place r other there lower same could taken in
        let sum : 0 + place ≡ place = omega arith in
        let listed : Has (place, r) (placed_outputs c) = subst (λ n. Has (n, r) (placed_outputs c)) sum (at-listed 0 place r (chosen c) at) in
        let test = passes is_least (place, r) (placed_outputs c) listed reduced in
        let none : could_go_lower problem done c place r ≡ false = not-true (could_go_lower problem done c place r) (subst (λ b. (not b || not (could_go_lower problem done c place r)) ≡ true) free test) in
        absurd (both_ways (could_go_lower problem done c place r) none some))
        (λ (from : bit r ≤ bit other). from)
        (cases_lt (bit other) (bit r));
  }
