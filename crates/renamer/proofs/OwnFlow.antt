-- The flow of a list's own body is its run.
use Rattle.std.proofs.Common.{◌≡◌, ◌≢◌, ℕ, zero, suc, ◌<◌, ◌≤◌, true, false, List, [], ◌∷◌, ◌++◌, append-nil, append_assoc, map, reverse, length, take, take_all, take-suc, Option, None, Some, ⊎_elim, if◌then◌else◌, refl, sym, ap, subst, ◌∙◌, true≢false, arith, eq-eqb, length-take-le, le_refl, le_of_lt, slice_get, slice_index, nat_cmp}
use Rattle.std.specs.FinMap.{FinMap}
use Rattle.std.specs.List.{list_any, zip}
use Rattle.std.proofs.lemmas.List.{reverse-append, length-map}
use Rattle.std.proofs.lemmas.Simd.{map-map}
use Rattle.std.proofs.Math.ListN.{length-reverse}
use Rattle.std.proofs.lemmas.Bool.{ne_eqb, cases_Bool}
use Rattle.sl_model.specs.declared.register.Reg.{Reg}
use Rattle.sl_model.specs.declared.instruction.Instr.{Instr}
use Rattle.sl_model.specs.declared.schedule.Source.{Source}
use Rattle.sl_model.specs.declared.schedule.Source.TheVariants.{Entry, Item}
use Rattle.sl_model.specs.RegSets.{set_has}
use Rattle.sl_model.specs.State.{State, read, is_zero}
use Rattle.sl_model.specs.Source.{operands, outputs, item_at, no_instr, list_sources, source_of, place_from, output_or, numbers_below}
use Rattle.sl_model.specs.Isa.{Isa}
use Rattle.sl_model.specs.Exec.{exec, run, touches, touches_of, operand_values, values_of, memory_after}
use Rattle.sl_model.specs.Body.{Body, Flow, flow_item, flow_from, flow_of, source_value, sources_values, output_value}
use Rattle.sl_model.specs.Lawful.{IsLawful, IsValid, suits_set, zero_register, AreValid}
use Rattle.sl_laws.proofs.Sources.{IsBefore, IsBefore-source_of}
use Rattle.renamer.specs.Faithful.{own_body, FlowIsRun}
use Rattle.std.proofs.lemmas.Option.{slice_get_within}
use Rattle.sl_laws.proofs.RegSets.{is_zero-register, set_count-bound}
use Rattle.sl_laws.proofs.State.{landed, read-write_all, write_all-memory, length-values_of}
use Rattle.sl_laws.proofs.Elements.{element_at, list_all-at, list_any-at, list_any-from_each, zip-at}

-- no instruction of a lawful set writes the zero register
pub plain_outputs : (isa : Isa) (i : Instr) → IsLawful isa → IsValid isa i → list_any is_zero (outputs i) ≡ false
plain_outputs isa i lawful valid = list_any-from_each is_zero (outputs i) (λ k r at. ⊎_elim (λ t. absurd (never k r at (is_zero-register r t))) (λ f. f) (cases_Bool (is_zero r)))
  where
    never : (k : ℕ) (r : Reg) → slice_get (outputs i) k ≡ Some r → r ≡ zero_register → ⊥
    never k r at same =
        let within : k < length (outputs i) = slice_get_within (outputs i) k r at in
        let bound : k < length (isa.info i.form).out_sets = omega (arith, within, valid.output_count, set_count-bound (isa.info i.form).out_sets) in
        let set = element_at (isa.info i.form).out_sets k bound in
        let suits : suits_set (zero_register, set.0) ≡ true = subst (λ x. suits_set (x, set.0) ≡ true) same (list_all-at suits_set (zip (outputs i) (isa.info i.form).out_sets) k (r, set.0) valid.output_classes (zip-at (outputs i) (isa.info i.form).out_sets k r set.0 at set.1)) in
        let lacks : set_has set.0 zero_register ≡ false = list_any-at (λ x. set_has x zero_register) (isa.info i.form).out_sets k set.0 (lawful.writable i.form) set.1 in
        true≢false (sym suits ∙ lacks)

-- the memory has no part in what a register reads
read-memory : (s : State) (memory : FinMap nat_cmp ℕ) (r : Reg) → read (record { regs = s.regs; memory = memory }) r ≡ read s r
unfolding read
read-memory s memory r = refl

-- what a register reads after an instruction
pub read-exec : (isa : Isa) (i : Instr) (s : State) (r : Reg) → IsLawful isa → IsValid isa i → read (exec isa i s) r ≡ landed (place_from 0 r (outputs i)) (values_of isa i (operand_values i s) s.memory) (read s r)
unfolding exec
read-exec isa i s r lawful valid =
    let given : length (operand_values i s) ≡ length (operands i) = length-map (operands i) (read s) in
    let values : List ℕ = values_of isa i (operand_values i s) s.memory in
    let memory : FinMap nat_cmp ℕ = memory_after isa i (operand_values i s) s.memory in
    read-write_all (outputs i) values (record { regs = s.regs; memory = memory }) r (plain_outputs isa i lawful valid) valid.distinct (sym (length-values_of isa i (operand_values i s) s.memory lawful valid given))
    ∙ ap (λ v. landed (place_from 0 r (outputs i)) values v) (read-memory s memory r)

-- the memory after an instruction
pub exec-memory : (isa : Isa) (i : Instr) (s : State) → (exec isa i s).memory ≡ memory_after isa i (operand_values i s) s.memory
unfolding exec
exec-memory isa i s = write_all-memory (outputs i) (values_of isa i (operand_values i s) s.memory) (record { regs = s.regs; memory = memory_after isa i (operand_values i s) s.memory })

-- a run of a list and one more instruction
run-push : (isa : Isa) (items : List Instr) (i : Instr) (s : State) → run isa (items ++ i ∷ []) s ≡ exec isa i (run isa items s)
unfolding run
run-push isa [] i s = refl
run-push isa (j ∷ items) i s = run-push isa items i (exec isa j s)

-- and its accesses
touches-push : (isa : Isa) (items : List Instr) (i : Instr) (s : State) → touches isa (items ++ i ∷ []) s ≡ touches isa items s ++ touches_of isa i (operand_values i (run isa items s))
unfolding run touches
touches-push isa [] i s = append-nil (touches_of isa i (operand_values i s))
touches-push isa (j ∷ items) i s =
    ap (λ t. touches_of isa j (operand_values j s) ++ t) (touches-push isa items i (exec isa j s))
    ∙ sym (append_assoc (touches_of isa j (operand_values j s)) (touches isa items (exec isa j s)) (touches_of isa i (operand_values i (run isa items (exec isa j s)))))

-- a flow of an order and one more item
pub flow_from-push : (isa : Isa) (body : Body) (s : State) (flow : Flow) (order : List ℕ) (p : ℕ) → flow_from isa body s flow (order ++ p ∷ []) ≡ flow_item isa body s (flow_from isa body s flow order) p
unfolding flow_from
flow_from-push isa body s flow [] p = refl
flow_from-push isa body s flow (q ∷ order) p = flow_from-push isa body s (flow_item isa body s flow q) order p

-- the value of an earlier source stays, and that of an output is the one at its place
source_value-push : (s : State) (n : ℕ) (values : List ℕ) (all : List (ℕ × List ℕ)) (o : Option ℕ) (earlier : Source) → IsBefore n earlier → source_value s ((n, values) ∷ all) (output_or n o earlier) ≡ landed o values (source_value s all earlier)
unfolding output_value
source_value-push s n values all None (Entry r) before = refl
source_value-push s n values all None (Item item place) before =
    let other : n ≢ item = omega arith in
    ap (λ b. if b then slice_index values place else output_value item place all) (ne_eqb n item other)
source_value-push s n values all (Some place) earlier before = ap (λ b. if b then slice_index values place else output_value n place all) (eq-eqb n n refl)

-- how far the flow of a list's own body has come after so many items: it is the run of those
record Follows (isa : Isa) (items : List Instr) (s : State) (n : ℕ) (flow : Flow) : Type 0 where
  registers : (r : Reg) → read (run isa (take n items) s) r ≡ source_value s flow.values (source_of r (reverse (take n items)))
  memory : (run isa (take n items) s).memory ≡ flow.memory
  accesses : touches isa (take n items) s ≡ flow.touches

-- a flow before the first item
empty_flow : State → Flow
empty_flow s = record { values = []; memory = s.memory; touches = [] }

-- maps that agree give one list
map-agree : {A B : Type 0} (f g : A → B) (xs : List A) → ((x : A) → f x ≡ g x) → map f xs ≡ map g xs
map-agree f g xs same = ap (λ h. map h xs) (λ i x. same x i)

-- one more item
follows-next : (isa : Isa) (items : List Instr) (s : State) (n : ℕ) (flow : Flow) → IsLawful isa → IsValid isa (item_at items n) → n < length items → Follows isa items s n flow → Follows isa items s (suc n) (flow_item isa (own_body items) s flow n)
unfolding list_sources source_of
follows-next isa items s n flow lawful valid within so_far =
    let i : Instr = item_at items n in
    let above : List Instr = reverse (take n items) in
    let st : State = run isa (take n items) s in
    let ins : List ℕ = sources_values s flow.values (list_sources items n) in
    let split : take (suc n) items ≡ take n items ++ i ∷ [] = take-suc items n no_instr within in
    let turned : reverse (take (suc n) items) ≡ i ∷ above = ap reverse split ∙ reverse-append (take n items) (i ∷ []) in
    let ran : run isa (take (suc n) items) s ≡ exec isa i st = ap (λ l. run isa l s) split ∙ run-push isa (take n items) i s in
    let count : length above ≡ n = length-reverse (take n items) ∙ length-take-le n items (le_of_lt within) in
    let given : ins ≡ operand_values i st =
    map-map (source_value s flow.values) (λ r. source_of r above) (operands i)
    ∙ map-agree (λ r. source_value s flow.values (source_of r above)) (read st) (operands i) (λ r. sym (so_far.registers r)) in
    let values : List ℕ = values_of isa i ins flow.memory in
    record {
      registers = λ r.
          let place : Option ℕ = place_from 0 r (outputs i) in
          let earlier : Source = source_of r above in
          ap (λ state. read state r) ran
          ∙ read-exec isa i st r lawful valid
          ∙ ap (λ v. landed place (values_of isa i v st.memory) (read st r)) (sym given)
          ∙ ap (λ m. landed place (values_of isa i ins m) (read st r)) so_far.memory
          ∙ ap (λ v. landed place values v) (so_far.registers r)
          ∙ sym (source_value-push s n values flow.values place earlier (subst (λ m. IsBefore m earlier) count (IsBefore-source_of r above)))
          ∙ ap (λ m. source_value s ((n, values) ∷ flow.values) (output_or m place earlier)) (sym count)
          ∙ ap (λ l. source_value s ((n, values) ∷ flow.values) (source_of r l)) (sym turned);
      memory =
          ap (λ (state : State). state.memory) ran
          ∙ exec-memory isa i st
          ∙ ap (λ v. memory_after isa i v st.memory) (sym given)
          ∙ ap (λ m. memory_after isa i ins m) so_far.memory;
      accesses =
          ap (λ l. touches isa l s) split
          ∙ touches-push isa (take n items) i s
          ∙ ap (λ v. touches isa (take n items) s ++ touches_of isa i v) (sym given)
          ∙ ap (λ t. t ++ touches_of isa i ins) so_far.accesses;
    }

-- all items up to a number
follows-all : (isa : Isa) (items : List Instr) (s : State) → IsLawful isa → AreValid isa items → (n : ℕ) → n ≤ length items → Follows isa items s n (flow_from isa (own_body items) s (empty_flow s) (numbers_below n))
unfolding run touches source_of flow_from numbers_below empty_flow
follows-all isa items s lawful valid zero le = record { registers = λ r. refl; memory = refl; accesses = refl }
follows-all isa items s lawful valid (suc n) le =
    let within : n < length items = omega arith in
    subst (Follows isa items s (suc n)) (sym (flow_from-push isa (own_body items) s (empty_flow s) (numbers_below n) n))
    (follows-next isa items s n (flow_from isa (own_body items) s (empty_flow s) (numbers_below n)) lawful (valid n within) within
    (follows-all isa items s lawful valid n (le_of_lt within)))

-- The flow of a list's own body is its run.
pub own_flow-run : (isa : Isa) (items : List Instr) (s : State) → IsLawful isa → AreValid isa items → FlowIsRun isa items s
unfolding empty_flow
own_flow-run isa items s lawful valid =
    let whole : take (length items) items ≡ items = take_all (length items) items (le_refl (length items)) in
    let all : Follows isa items s (length items) (flow_of isa (own_body items) s) = follows-all isa items s lawful valid (length items) (le_refl (length items)) in
    record {
      registers = λ r. subst (λ l. read (run isa l s) r ≡ source_value s (flow_of isa (own_body items) s).values (source_of r (reverse l))) whole (all.registers r);
      memory = subst (λ l. (run isa l s).memory ≡ (flow_of isa (own_body items) s).memory) whole all.memory;
      accesses = subst (λ l. touches isa l s ≡ (flow_of isa (own_body items) s).touches) whole all.accesses;
    }
