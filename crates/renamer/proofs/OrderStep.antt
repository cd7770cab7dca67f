-- One step of a faithful order: what a run has reached, and what it reaches with the next choice.
use Rattle.std.proofs.Common.{◌≡◌, ℕ, ◌≤◌, true, false, not, ◌||◌, cond, eqb, ◌⊎◌, List, [], ◌∷◌, map, length, Option, Some, None, unwrap_or, slice_index, is_some, refl, sym, ◌∙◌, ap, subst, inl, inr, ⊎_elim, true≢false, arith}
use Rattle.std.specs.List.{list_all, filter_map, cons_option}
use Rattle.std.specs.Ordering.{nat_cmp}
use Rattle.std.specs.FinMap.{FinMap}
use Rattle.std.proofs.lemmas.Bool.{cases_Bool, and_parts, or_cases, or_left, or_right, not-true, both_ways, cond-false, eqb-true, eq-eqb}
use Rattle.sl_model.specs.declared.register.Reg.{Reg}
use Rattle.sl_model.specs.declared.instruction.Instr.{Instr}
use Rattle.sl_model.specs.declared.schedule.Choice.{Choice}
use Rattle.sl_model.specs.declared.schedule.Source.{Source}
use Rattle.sl_model.specs.Source.{operands, place_from, output_or}
use Rattle.sl_model.specs.State.{State, read, byte, load, write_all}
use Rattle.sl_model.specs.Isa.{Isa, op_of}
use Rattle.sl_model.specs.Exec.{has_access, is_load, address_of, loaded_by, values_of, memory_after, operand_values, exec}
use Rattle.sl_model.specs.Lawful.{IsLawful}
use Rattle.sl_model.specs.Program.{TagsHoldOf}
use Rattle.sl_model.specs.Body.{Body, flow_of, source_value, conflict, chosen, is_placed, held, given, holds_in, is_still_held, applied_item, above, stands_in, IsFaithfulNext}
use Rattle.renamer.specs.Faithful.{IsSound}
use Rattle.renamer.proofs.OrderLists.{below, below-stands}
use Rattle.renamer.proofs.OrderFold.{folded, folded-found, folded-placed}
use Rattle.renamer.proofs.OrderFlow.{byte-after, operands_of, left_at, found_by, found-bytes, flow-values}
use Rattle.renamer.proofs.OrderShare.{operand-count, Reaches, leaves-reaches, store-parts, leaves-conflict_first, leaves-conflict_second}
use Rattle.sl_laws.proofs.Sources.{same_source-true}
use Rattle.sl_laws.proofs.State.{IsWithin, landed, load-same, read-write_all, write_all-memory, length-loaded_by}
use Rattle.sl_laws.proofs.Elements.{length-filter_map}
use Rattle.sl_laws.proofs.Padded.{padded-back}
use Rattle.sl_laws.proofs.Orders.{above-stands, standing-passes}
use Rattle.sl_laws.proofs.Valid.{operands-few}
use Rattle.sl_model.specs.Machine.{space_of}

-- There is a value or there is none.
some_or_none : (o : Option ℕ) → (is_some o ≡ true) ⊎ (o ≡ None)
some_or_none None = inr refl
some_or_none (Some v) = inl refl

-- Values depend on no more of memory than what is loaded.
values-same : (isa : Isa) (i : Instr) (ins : List ℕ) (m n : FinMap nat_cmp ℕ) → ((at : ℕ) → is_load (isa.info i.form) ≡ true → IsWithin (space_of isa.name) (address_of isa i ins) (isa.info i.form).size at → byte m at ≡ byte n at) → values_of isa i ins m ≡ values_of isa i ins n
unfolding values_of loaded_by
values-same isa i ins m n same = ⊎_elim
    (λ (loads : is_load (isa.info i.form) ≡ true).
    let bytes : load (space_of isa.name) m (address_of isa i ins) (isa.info i.form).size ≡ load (space_of isa.name) n (address_of isa i ins) (isa.info i.form).size =
    load-same (space_of isa.name) m n (address_of isa i ins) (isa.info i.form).size (λ j inside. same _ loads (record { place = j; below = inside; is = refl })) in
    ap (λ xs. isa.values (op_of i) ins (cond (is_load (isa.info i.form)) xs [])) bytes)
    (λ (quiet : is_load (isa.info i.form) ≡ false).
    ap (isa.values (op_of i) ins) (cond-false (is_load (isa.info i.form)) (load (space_of isa.name) m (address_of isa i ins) (isa.info i.form).size) [] quiet
    ∙ sym (cond-false (is_load (isa.info i.form)) (load (space_of isa.name) n (address_of isa i ins) (isa.info i.form).size) [] quiet)))
    (cases_Bool (is_load (isa.info i.form)))

-- A load has an access.
load-access : (isa : Isa) (form : ℕ) → is_load (isa.info form) ≡ true → has_access (isa.info form) ≡ true
load-access isa form loads = ⊎_elim
    (λ (accesses : has_access (isa.info form) ≡ true). accesses)
    (λ (quiet : has_access (isa.info form) ≡ false). absurd (true≢false (sym loads ∙ cond-false (has_access (isa.info form)) (not (isa.info form).store) false quiet)))
    (cases_Bool (has_access (isa.info form)))

-- What a register holds has its value where an operand's source is still held.
given-value : (done : List Choice) (t : State) (value : Source → ℕ) (x : Source) (o : Option Reg) (ys : List Reg) → ((r : Reg) → read t r ≡ value (held done r)) → holds_in done x o ≡ true → map (read t) (cons_option o ys) ≡ value x ∷ map (read t) ys
given-value done t value x None ys registers holds = absurd (true≢false (sym holds))
given-value done t value x (Some r) ys registers holds = ap (λ v. v ∷ map (read t) ys) (registers r ∙ ap value (same_source-true (held done r) x holds))

-- So the registers given to sources that are still held have the values of the sources.
given-values : (done : List Choice) (t : State) (value : Source → ℕ) (xs : List Source) → ((r : Reg) → read t r ≡ value (held done r)) → list_all (is_still_held done) xs ≡ true → map (read t) (filter_map (given done) xs) ≡ map value xs
unfolding is_still_held
given-values done t value [] registers all = refl
given-values done t value (x ∷ xs) registers all =
    let parts = and_parts (is_still_held done x) (list_all (is_still_held done) xs) all in
    given-value done t value x (given done x) (filter_map (given done) xs) registers parts.0 ∙ ap (λ vs. value x ∷ vs) (given-values done t value xs registers parts.1)

-- What a run has reached with some choices: each register has the value of the source that it holds; each byte is the
-- last, in the body's own order, that a placed item stores; and of two items that conflict the lower isn't placed alone.
pub record Reached (isa : Isa) (body : Body) (s : State) (done : List Choice) (t : State) : Type 0 where
  pub registers : (r : Reg) → read t r ≡ source_value s (flow_of isa body s).values (held done r)
  pub bytes : (at : ℕ) → byte t.memory at ≡ folded (left_at isa body s at) (is_placed done) (byte s.memory at) body.order
  pub closed : (p q : ℕ) → stands_in q body.order ≡ true → is_placed done q ≡ true → stands_in p (above q body.order) ≡ true → conflict isa body p q ≡ true → is_placed done p ≡ true

-- A choice is placed.
pub placed-here : (c : Choice) (done : List Choice) → is_placed (c ∷ done) c.item ≡ true
unfolding is_placed
placed-here c done = or_left (eqb c.item c.item) (is_placed done c.item) (eq-eqb c.item c.item refl)

-- What was placed is placed.
pub placed-before : (c : Choice) (done : List Choice) (q : ℕ) → is_placed done q ≡ true → is_placed (c ∷ done) q ≡ true
unfolding is_placed
placed-before c done q h = or_right (eqb c.item q) (is_placed done q) h

-- Nothing else is.
pub placed-others : (c : Choice) (done : List Choice) (q : ℕ) → eqb c.item q ≡ false → is_placed (c ∷ done) q ≡ is_placed done q
unfolding is_placed
placed-others c done q other = ap (λ t. t || is_placed done q) other

module _ (isa : Isa) (body : Body) (s : State) (lawful : IsLawful isa) (sound : IsSound isa body) (tags : TagsHoldOf (space_of isa.name) (flow_of isa body s).touches)
    (done : List Choice) (t : State) (c : Choice) (reached : Reached isa body s done t) (next : IsFaithfulNext isa body done c) where
  -- The operands of the chosen item read the values of the flow.
  pub step-operands : operand_values (applied_item body done c) t ≡ operands_of isa body s c.item
  step-operands =
      let many : length (filter_map (given done) (body.sources c.item)) ≤ length (body.sources c.item) = length-filter_map (given done) (body.sources c.item) in
      let same : length (body.sources c.item) ≡ length (operands (body.instr c.item)) = sound.operands_have c.item next.known in
      let few : length (operands (body.instr c.item)) ≤ 4 = operands-few isa (body.instr c.item) (sound.items c.item next.known) in
      ap (map (read t)) (padded-back 4 (filter_map (given done) (body.sources c.item)) (omega arith))
      ∙ given-values done t (source_value s (flow_of isa body s).values) (body.sources c.item) reached.registers next.sources

  -- An item above the chosen one that conflicts with it is placed.
  placed-above : (q : ℕ) → stands_in q (above c.item body.order) ≡ true → conflict isa body q c.item ≡ true → is_placed done q ≡ true
  placed-above q up conflicts =
      let rule : (not (conflict isa body q c.item) || is_placed done q) ≡ true = standing-passes (λ p. not (conflict isa body p c.item) || is_placed done p) (above c.item body.order) q next.conflicts up in
      ⊎_elim
      (λ (apart : not (conflict isa body q c.item) ≡ true). absurd (both_ways (conflict isa body q c.item) (not-true _ apart) conflicts))
      (λ (placed : is_placed done q ≡ true). placed)
      (or_cases (not (conflict isa body q c.item)) (is_placed done q) rule)

  -- No item below the chosen one that is placed stores where the chosen one has its access.
  quiet-below : (at : ℕ) → has_access (isa.info (body.instr c.item).form) ≡ true → Reaches isa body s lawful sound tags c.item at → (q : ℕ) → stands_in q (below c.item body.order) ≡ true → is_placed done q ≡ true → left_at isa body s at q ≡ None
  quiet-below at accesses reaches q down placed =
      let place = below-stands c.item q body.order sound.once down in
      ⊎_elim
      (λ (leaves : is_some (left_at isa body s at q) ≡ true).
      absurd (both_ways (is_placed done c.item) next.fresh
      (reached.closed c.item q place.0 placed place.1 (leaves-conflict_second isa body s lawful sound tags c.item q at next.known place.0 accesses reaches leaves))))
      (λ (none : left_at isa body s at q ≡ None). none)
      (some_or_none (left_at isa body s at q))

  -- Each item above the chosen one that stores where it has its access is placed.
  known-above : (at : ℕ) → has_access (isa.info (body.instr c.item).form) ≡ true → Reaches isa body s lawful sound tags c.item at → (q : ℕ) → stands_in q (above c.item body.order) ≡ true → (is_placed done q ≡ true) ⊎ (left_at isa body s at q ≡ None)
  known-above at accesses reaches q up = ⊎_elim
      (λ (leaves : is_some (left_at isa body s at q) ≡ true).
      inl (placed-above q up (leaves-conflict_first isa body s lawful sound tags q c.item at (above-stands c.item q body.order up) next.known leaves accesses reaches)))
      (λ (none : left_at isa body s at q ≡ None). inr none)
      (some_or_none (left_at isa body s at q))

  -- Where it loads, the run's memory is the flow's.
  found-same : (at : ℕ) → is_load (isa.info (body.instr c.item).form) ≡ true → Reaches isa body s lawful sound tags c.item at → byte t.memory at ≡ byte (found_by isa body s c.item) at
  found-same at loads reaches =
      let accesses : has_access (isa.info (body.instr c.item).form) ≡ true = load-access isa (body.instr c.item).form loads in
      reached.bytes at
      ∙ folded-found (left_at isa body s at) (is_placed done) (byte s.memory at) c.item body.order next.known next.fresh (known-above at accesses reaches) (quiet-below at accesses reaches)
      ∙ sym (found-bytes isa body s sound c.item at)

  -- the values that the chosen item gives on the run's memory
  abbrev outs : List ℕ
  outs = values_of isa (body.instr c.item) (operands_of isa body s c.item) t.memory

  -- the run's state once its bytes are stored
  abbrev stored_state : State
  stored_state = record { regs = t.regs; memory = memory_after isa (body.instr c.item) (operands_of isa body s c.item) t.memory }

  -- So its outputs have the values of the flow,
  step-values : outs ≡ values_of isa (body.instr c.item) (operands_of isa body s c.item) (found_by isa body s c.item)
  step-values = values-same isa (body.instr c.item) (operands_of isa body s c.item) t.memory (found_by isa body s c.item) found-same

  -- as many as it has registers for.
  step-count : length (chosen c) ≡ length outs
  unfolding values_of
  step-count = next.outputs ∙ sym (lawful.value_count (body.instr c.item) (operands_of isa body s c.item) (loaded_by isa (body.instr c.item) (operands_of isa body s c.item) t.memory) (sound.items c.item next.known)
      (operand-count isa body s lawful sound tags c.item next.known) (length-loaded_by isa (body.instr c.item) (operands_of isa body s c.item) t.memory))

  -- what the chosen item does, said with the flow's operands
  abbrev written_state : State
  written_state = write_all (chosen c) outs
      stored_state

  -- An instruction of the schedule does what the item does with the flow's operands.
  step-is : exec isa (applied_item body done c) t ≡ written_state
  unfolding exec values_of loaded_by memory_after
  step-is = ap (λ ins. write_all (chosen c) (values_of isa (body.instr c.item) ins t.memory) (record { regs = t.regs; memory = memory_after isa (body.instr c.item) ins t.memory })) step-operands

  -- what a register holds after the item's outputs were written
  output-value : (o : Option ℕ) (r : Reg) → landed o outs (read t r) ≡ source_value s (flow_of isa body s).values (output_or c.item o (held done r))
  output-value None r = reached.registers r
  output-value (Some place) r = ap (λ xs. slice_index xs place) step-values ∙ sym (flow-values isa body s sound c.item place next.known)

  -- Each register has the value of the source that it holds then.
  step-registers : (r : Reg) → read written_state r ≡ source_value s (flow_of isa body s).values (held (c ∷ done) r)
  unfolding held read
  step-registers r =
      read-write_all (chosen c) outs stored_state r next.writable next.distinct step-count
      ∙ output-value (place_from 0 r (chosen c)) r

  -- No item below the chosen one that is placed stores where the chosen one stores.
  quiet-stores : (at v : ℕ) → left_at isa body s at c.item ≡ Some v → (q : ℕ) → stands_in q (below c.item body.order) ≡ true → is_placed done q ≡ true → left_at isa body s at q ≡ None
  quiet-stores at v leaves =
      let reaches = leaves-reaches isa body s lawful sound tags c.item at next.known (ap is_some leaves) in
      quiet-below at (store-parts (isa.info (body.instr c.item).form) reaches.0).0 reaches.1

  -- Each byte is the last, in the body's order, that a placed item stores.
  step-bytes : (at : ℕ) → byte written_state.memory at ≡ folded (left_at isa body s at) (is_placed (c ∷ done)) (byte s.memory at) body.order
  step-bytes at =
      ap (λ m. byte m at) (write_all-memory (chosen c) outs stored_state)
      ∙ byte-after isa (body.instr c.item) (operands_of isa body s c.item) t.memory at
      ∙ ap (unwrap_or (left_at isa body s at c.item)) (reached.bytes at)
      ∙ sym (folded-placed (left_at isa body s at) (is_placed done) (is_placed (c ∷ done)) (byte s.memory at) c.item body.order sound.once next.known next.fresh (placed-here c done) (placed-others c done) (quiet-stores at))

  -- Of two items that conflict, the lower is still not placed alone.
  step-closed : (p q : ℕ) → stands_in q body.order ≡ true → is_placed (c ∷ done) q ≡ true → stands_in p (above q body.order) ≡ true → conflict isa body p q ≡ true → is_placed (c ∷ done) p ≡ true
  step-closed p q there placed up conflicts = placed-before c done p (⊎_elim
      (λ (same : eqb c.item q ≡ true).
      let is : q ≡ c.item = sym (eqb-true c.item q same) in
      placed-above p (subst (λ x. stands_in p (above x body.order) ≡ true) is up) (subst (λ x. conflict isa body p x ≡ true) is conflicts))
      (λ (other : eqb c.item q ≡ false). reached.closed p q there (sym (placed-others c done q other) ∙ placed) up conflicts)
      (cases_Bool (eqb c.item q)))

  -- With the next choice, a run reaches the same of one choice more.
  pub step-reached : Reached isa body s (c ∷ done) (exec isa (applied_item body done c) t)
  step-reached = subst (Reached isa body s (c ∷ done)) (sym step-is) (record { registers = step-registers; bytes = step-bytes; closed = step-closed })
