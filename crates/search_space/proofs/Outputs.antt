-- The registers that an output goes to, or could go to, are allowed for its item.
use Rattle.std.proofs.Common.{◌≡◌, ℕ, zero, suc, ◌+◌, ◌<◌, ◌≤◌, true, ◌||◌, ◌==◌, not, eqb, List, [], ◌∷◌, length, slice_get, Some, ⊎_elim, subst, arith}
use Rattle.std.specs.List.{list_all, zip, enumerate_from}
use Rattle.std.proofs.lemmas.Bool.{and_parts, eq-eqb}
use Rattle.sl_model.specs.declared.register.Reg.{Reg}
use Rattle.sl_model.specs.declared.register.RegSet.{RegSet}
use Rattle.sl_model.specs.declared.schedule.Choice.{Choice}
use Rattle.sl_model.specs.RegSets.{set_has}
use Rattle.sl_model.specs.Source.{outputs, item_at}
use Rattle.sl_model.specs.Body.{chosen}
use Rattle.sl_model.specs.Legal.{Problem, IsOf, info_in, allowed_in, output_classes, suits_output, may_overwrite}
use Rattle.sl_model.specs.Space.{could_take}
use Rattle.sl_laws.proofs.Members.{Has}
use Rattle.search_space.specs.Searchable.{IsSearchable, output_count}

module _ (problem : Problem) (item : ℕ) where
  -- what suits an output is allowed
  suits-allowed : (x : ℕ × ((Reg × RegSet) × Reg)) → suits_output problem item x ≡ true → set_has (allowed_in problem item) x.1.0.0 ≡ true
  suits-allowed x suits = (and_parts (set_has (allowed_in problem item) x.1.0.0) _ suits).0

  -- the registers of outputs that suit are allowed
  allowed-regs : (k : ℕ) (regs : List Reg) (sets : List RegSet) (outs : List Reg) → length regs ≤ length sets → length regs ≤ length outs
      → list_all (suits_output problem item) (enumerate_from k (zip (zip regs sets) outs)) ≡ true
      → (r : Reg) → Has r regs → set_has (allowed_in problem item) r ≡ true
  allowed-regs k [] sets outs room room_out all r h = absurd h
  allowed-regs k (x ∷ regs) [] outs room room_out all r h = absurd (omega arith)
  allowed-regs k (x ∷ regs) (set ∷ sets) [] room room_out all r h = absurd (omega arith)
  allowed-regs k (x ∷ regs) (set ∷ sets) (out ∷ outs) room room_out all r h =
      let parts = and_parts (suits_output problem item (k, ((x, set), out))) (list_all (suits_output problem item) (enumerate_from (k + 1) (zip (zip regs sets) outs))) all in
      ⊎_elim
      (λ (here : x ≡ r). subst (λ z. set_has (allowed_in problem item) z ≡ true) here (suits-allowed (k, ((x, set), out)) parts.0))
      (λ (there : Has r regs). allowed-regs (k + 1) regs sets outs (omega arith) (omega arith) parts.1 r there)
      h

  -- a register that would suit the output at a place is allowed
  allowed-other : (k place : ℕ) (r other : Reg) (regs : List Reg) (sets : List RegSet) (outs : List Reg) → length regs ≤ length sets → length regs ≤ length outs
      → slice_get regs place ≡ Some r
      → list_all (λ x. not (x.0 == k + place) || suits_output problem item (x.0, ((other, x.1.0.1), x.1.1))) (enumerate_from k (zip (zip regs sets) outs)) ≡ true
      → set_has (allowed_in problem item) other ≡ true
  allowed-other k place r other [] sets outs room room_out at all = absurd (cc)
  allowed-other k place r other (x ∷ regs) [] outs room room_out at all = absurd (omega arith)
  allowed-other k place r other (x ∷ regs) (set ∷ sets) [] room room_out at all = absurd (omega arith)
  allowed-other k zero r other (x ∷ regs) (set ∷ sets) (out ∷ outs) room room_out at all =
      let parts = and_parts (not (eqb k (k + 0)) || suits_output problem item (k, ((other, set), out))) _ all in
      let same : eqb k (k + 0) ≡ true = eq-eqb k (k + 0) (omega arith) in
      suits-allowed (k, ((other, set), out)) (subst (λ b. (not b || suits_output problem item (k, ((other, set), out))) ≡ true) same parts.0)
  allowed-other k (suc place) r other (x ∷ regs) (set ∷ sets) (out ∷ outs) room room_out at all =
      let parts = and_parts (not (eqb k (k + suc place)) || suits_output problem item (k, ((other, set), out))) _ all in
      let sum : k + suc place ≡ k + 1 + place = omega arith in
      allowed-other (k + 1) place r other regs sets outs (omega arith) (omega arith) at
      (subst (λ n. list_all (λ x. not (x.0 == n) || suits_output problem item (x.0, ((other, x.1.0.1), x.1.1))) (enumerate_from (k + 1) (zip (zip regs sets) outs)) ≡ true) sum parts.1)

module _ (problem : Problem) (search : IsSearchable problem) where
  -- the item of a choice is one of the problem
  pub known-item : (c : Choice) → IsOf problem c → c.item < length problem.graph.items
  known-item c of = search.sources.known c.item of.known

  -- There is a class, and an original register, for each output of a choice.
  room-classes : (c : Choice) → IsOf problem c → length (chosen c) ≤ length (info_in problem c.item).out_sets
  room-classes c of =
      let given : length (chosen c) ≡ output_count problem c.item = of.outputs_given in
      let room : output_count problem c.item ≤ length (info_in problem c.item).out_sets = search.output_classes c.item (known-item c of) in
      omega arith

  room-outputs : (c : Choice) → IsOf problem c → length (chosen c) ≤ length (outputs (item_at problem.graph.items c.item))
  room-outputs c of =
      let given : length (chosen c) ≡ length (outputs (item_at problem.graph.items c.item)) = of.outputs_given in
      omega arith

  -- The registers of a choice whose outputs suit are allowed.
  pub chosen-allowed : (c : Choice) → IsOf problem c → list_all (suits_output problem c.item) (output_classes problem c) ≡ true
      → (r : Reg) → Has r (chosen c) → set_has (allowed_in problem c.item) r ≡ true
  chosen-allowed c of suits r h =
      allowed-regs problem c.item 0 (chosen c) (info_in problem c.item).out_sets (outputs (item_at problem.graph.items c.item)) (room-classes c of) (room-outputs c of) suits r h

  -- So is each that an output could take.
  pub could-allowed : (done : List Choice) (c : Choice) (place : ℕ) (r other : Reg) → IsOf problem c → slice_get (chosen c) place ≡ Some r
      → could_take problem done c place other ≡ true → set_has (allowed_in problem c.item) other ≡ true
  could-allowed done c place r other of at could =
      let parts = and_parts (list_all (λ x. not (x.0 == place) || suits_output problem c.item (x.0, ((other, x.1.0.1), x.1.1))) (output_classes problem c)) (may_overwrite problem done c.item other) could in
      let sum : place ≡ 0 + place = omega arith in
      allowed-other problem c.item 0 place r other (chosen c) (info_in problem c.item).out_sets (outputs (item_at problem.graph.items c.item)) (room-classes c of) (room-outputs c of) at
      (subst (λ n. list_all (λ x. not (x.0 == n) || suits_output problem c.item (x.0, ((other, x.1.0.1), x.1.1))) (output_classes problem c) ≡ true) sum parts.0)
