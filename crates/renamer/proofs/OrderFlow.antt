-- What the flow of a body computes, item by item, with the operands' values taken from the whole flow.
use Rattle.std.proofs.Common.{◌≡◌, ℕ, ◌+◌, Bool, true, false, not, ◌||◌, cond, eqb, List, [], ◌∷◌, ◌++◌, Option, None, unwrap_or, slice_index, refl, sym, ◌∙◌, ap, ap₂, subst, inl, inr, ⊎_elim, arith, add_assoc}
use Rattle.std.specs.List.{list_all}
use Rattle.std.specs.Ordering.{nat_cmp}
use Rattle.std.specs.FinMap.{FinMap}
use Rattle.std.proofs.lemmas.Bool.{cases_Bool, and_parts, and_from, or_cases, or_left, or_right, or_parts, not-true, not_from_false, both_ways, cond-true, cond-false, eqb-true, eqb-false, eq-eqb}
use Rattle.sl_model.specs.declared.instruction.Instr.{Instr}
use Rattle.sl_model.specs.declared.schedule.Source.{Source}
use Rattle.sl_model.specs.declared.schedule.Source.TheVariants.{Entry, Item}
use Rattle.sl_model.specs.State.{State, byte, store}
use Rattle.sl_model.specs.Isa.{Isa, op_of}
use Rattle.sl_model.specs.Exec.{Touch, has_access, is_store, address_of, touch_of, touches_of, values_of, memory_after}
use Rattle.sl_model.specs.Program.{IsAmong, times_of}
use Rattle.sl_model.specs.Body.{Body, Flow, flow_item, flow_from, flow_of, output_value, source_value, sources_values, above, stands_in}
use Rattle.sl_model.specs.Graph.{IsOnce, comes_from}
use Rattle.renamer.specs.Faithful.{IsSound}
use Rattle.renamer.proofs.OrderFold.{folded, counted, everything}
use Rattle.sl_laws.proofs.State.{stored_at, byte-store}
use Rattle.sl_laws.proofs.Orders.{above-later, differs, stands-cases, stands-none, stands_behind, stands_first}
use Rattle.sl_model.specs.Machine.{space_of}

-- the byte that an instruction leaves at an address, if it stores one there
unfoldable pub leaves_byte : Isa → Instr → List ℕ → ℕ → Option ℕ
leaves_byte isa i ins at = cond (is_store (isa.info i.form)) (stored_at (space_of isa.name) (address_of isa i ins) (isa.stored (op_of i) ins) at) None

-- a byte after an instruction
pub byte-after : (isa : Isa) (i : Instr) (ins : List ℕ) (memory : FinMap nat_cmp ℕ) (at : ℕ) → byte (memory_after isa i ins memory) at ≡ unwrap_or (leaves_byte isa i ins at) (byte memory at)
unfolding memory_after leaves_byte
byte-after isa i ins memory at = ⊎_elim
    (λ (stores : is_store (isa.info i.form) ≡ true).
    ap (λ m. byte m at) (cond-true (is_store (isa.info i.form)) (store (space_of isa.name) (address_of isa i ins) (isa.stored (op_of i) ins) memory) memory stores)
    ∙ byte-store (space_of isa.name) (address_of isa i ins) (isa.stored (op_of i) ins) memory at
    ∙ ap (λ o. unwrap_or o (byte memory at)) (sym (cond-true (is_store (isa.info i.form)) (stored_at (space_of isa.name) (address_of isa i ins) (isa.stored (op_of i) ins) at) None stores)))
    (λ (stores : is_store (isa.info i.form) ≡ false).
    ap (λ m. byte m at) (cond-false (is_store (isa.info i.form)) (store (space_of isa.name) (address_of isa i ins) (isa.stored (op_of i) ins) memory) memory stores)
    ∙ ap (λ o. unwrap_or o (byte memory at)) (sym (cond-false (is_store (isa.info i.form)) (stored_at (space_of isa.name) (address_of isa i ins) (isa.stored (op_of i) ins) at) None stores)))
    (cases_Bool (is_store (isa.info i.form)))

-- accesses counted in two lists, one after the other
pub times_of-append : (a : Touch) (xs ys : List Touch) → times_of a (xs ++ ys) ≡ times_of a xs + times_of a ys
unfolding times_of
times_of-append a [] ys = omega arith
times_of-append a (x ∷ xs) ys =
    let rest : times_of a (xs ++ ys) ≡ times_of a xs + times_of a ys = times_of-append a xs ys in
    omega arith

-- an access among some is among more
among-left : (a : Touch) (xs ys : List Touch) → IsAmong a xs → IsAmong a (xs ++ ys)
among-left a [] ys h = absurd h
among-left a (x ∷ xs) ys h = ⊎_elim (λ (same : a ≡ x). inl same) (λ (rest : IsAmong a xs). inr (among-left a xs ys rest)) h

-- and the same behind others
among-right : (a : Touch) (xs ys : List Touch) → IsAmong a ys → IsAmong a (xs ++ ys)
among-right a [] ys h = h
among-right a (x ∷ xs) ys h = inr (among-right a xs ys h)

-- Is a source an entry, or no item of an order, or one of the items above?
abbrev is_grounded : List ℕ → List ℕ → Source → Bool
is_grounded order up (Entry r) = true
is_grounded order up (Item item place) = not (stands_in item order) || stands_in item up

-- The sources of each item of an order that are in the order stand above it.
abbrev Grounded : Body → List ℕ → Type 0
Grounded body order = (p : ℕ) → stands_in p order ≡ true → list_all (is_grounded order (above p order)) (body.sources p) ≡ true

-- sources that all pass a test all pass a weaker one
list_all-weaken : (f g : Source → Bool) (xs : List Source) → ((x : Source) → f x ≡ true → g x ≡ true) → list_all f xs ≡ true → list_all g xs ≡ true
list_all-weaken f g [] weaker h = refl
list_all-weaken f g (x ∷ xs) weaker h =
    let parts = and_parts (f x) (list_all f xs) h in
    and_from (g x) (list_all g xs) (weaker x parts.0) (list_all-weaken f g xs weaker parts.1)

-- nothing stands above the first item
above-first : (p : ℕ) (order : List ℕ) → above p (p ∷ order) ≡ []
unfolding above
above-first p order = cond-true (eqb p p) [] (p ∷ above p order) (eq-eqb p p refl)

-- A source that is grounded in an order is so in what is behind its first item.
grounded-later : (p q : ℕ) (order : List ℕ) → stands_in p order ≡ false → (x : Source) → is_grounded (p ∷ order) (p ∷ above q order) x ≡ true → is_grounded order (above q order) x ≡ true
grounded-later p q order fresh (Entry r) h = refl
grounded-later p q order fresh (Item item place) h = ⊎_elim
    (λ (there : stands_in item order ≡ true). ⊎_elim
    (λ (out : not (stands_in item (p ∷ order)) ≡ true). absurd (both_ways (stands_in item (p ∷ order)) (not-true _ out) (stands_behind p item order there)))
    (λ (up : stands_in item (p ∷ above q order) ≡ true). ⊎_elim
    (λ (same : p ≡ item). absurd (both_ways (stands_in item order) (subst (λ x. stands_in x order ≡ false) same fresh) there))
    (λ (rest : stands_in item (above q order) ≡ true). or_right (not (stands_in item order)) (stands_in item (above q order)) rest)
    (stands-cases p item (above q order) up))
    (or_cases (not (stands_in item (p ∷ order))) (stands_in item (p ∷ above q order)) h))
    (λ (out : stands_in item order ≡ false). or_left (not (stands_in item order)) (stands_in item (above q order)) (not_from_false _ out))
    (cases_Bool (stands_in item order))

-- So what is behind the first item of a grounded order is grounded.
grounded-rest : (body : Body) (p : ℕ) (order : List ℕ) → IsOnce (p ∷ order) → Grounded body (p ∷ order) → Grounded body order
grounded-rest body p order once h q there =
    let here : list_all (is_grounded (p ∷ order) (p ∷ above q order)) (body.sources q) ≡ true =
    subst (λ up. list_all (is_grounded (p ∷ order) up) (body.sources q) ≡ true) (above-later p q order (differs p q order once.0 there)) (h q (stands_behind p q order there)) in
    list_all-weaken (is_grounded (p ∷ order) (p ∷ above q order)) (is_grounded order (above q order)) (body.sources q) (grounded-later p q order once.0) here

-- A source that stands above is grounded.
grounded-above : (order up : List ℕ) (x : Source) → comes_from up x ≡ true → is_grounded order up x ≡ true
grounded-above order up (Entry r) h = refl
grounded-above order up (Item item place) h = or_right (not (stands_in item order)) (stands_in item up) h

module _ (isa : Isa) (body : Body) (s : State) where
  -- The outputs of an item that isn't one of an order stay what they are.
  kept : (flow : Flow) (order : List ℕ) (q place : ℕ) → stands_in q order ≡ false → output_value q place (flow_from isa body s flow order).values ≡ output_value q place flow.values
  unfolding flow_from output_value stands_in
  kept flow [] q place h = refl
  kept flow (p ∷ order) q place h =
      let parts = or_parts (eqb p q) (stands_in q order) h in
      kept (flow_item isa body s flow p) order q place parts.1
      ∙ cond-false (eqb p q) (slice_index (values_of isa (body.instr p) (sources_values s flow.values (body.sources p)) flow.memory) place) (output_value q place flow.values) parts.0

  -- So a source that is none of them keeps its value,
  kept_source : (flow : Flow) (order : List ℕ) (x : Source) → is_grounded order [] x ≡ true → source_value s flow.values x ≡ source_value s (flow_from isa body s flow order).values x
  kept_source flow order (Entry r) h = refl
  kept_source flow order (Item item place) h = ⊎_elim
      (λ (out : not (stands_in item order) ≡ true). sym (kept flow order item place (not-true _ out)))
      (λ (up : stands_in item [] ≡ true). absurd (stands-none item up))
      (or_cases (not (stands_in item order)) (stands_in item []) h)

  -- and so do several.
  kept_sources : (flow : Flow) (order : List ℕ) (xs : List Source) → list_all (is_grounded order []) xs ≡ true → sources_values s flow.values xs ≡ sources_values s (flow_from isa body s flow order).values xs
  kept_sources flow order [] h = refl
  kept_sources flow order (x ∷ xs) h =
      let parts = and_parts (is_grounded order [] x) (list_all (is_grounded order []) xs) h in
      ap₂ (λ v vs. v ∷ vs) (kept_source flow order x parts.0) (kept_sources flow order xs parts.1)

  -- From a flow on, the sources of each item have the values that they have among given ones.
  abbrev Settled : List (ℕ × List ℕ) → Flow → List ℕ → Type 0
  Settled values flow [] = Unit {0}
  Settled values flow (p ∷ order) = (sources_values s flow.values (body.sources p) ≡ sources_values s values (body.sources p)) × Settled values (flow_item isa body s flow p) order

  -- In a flow where sources stand above, the operands' values are final as they are taken.
  settled : (flow : Flow) (order : List ℕ) → IsOnce order → Grounded body order → Settled (flow_from isa body s flow order).values flow order
  unfolding flow_from
  settled flow [] once h = tt
  settled flow (p ∷ order) once h =
      let first : list_all (is_grounded (p ∷ order) []) (body.sources p) ≡ true = subst (λ up. list_all (is_grounded (p ∷ order) up) (body.sources p) ≡ true) (above-first p order) (h p (stands_first p order)) in
      (kept_sources flow (p ∷ order) (body.sources p) first, settled (flow_item isa body s flow p) order once.1 (grounded-rest body p order once h))

  -- what the operands of an item are among given values
  abbrev pub taken : List (ℕ × List ℕ) → ℕ → List ℕ
  taken values p = sources_values s values (body.sources p)

  -- the byte that an item leaves at an address
  abbrev pub leaves_at : List (ℕ × List ℕ) → ℕ → ℕ → Option ℕ
  leaves_at values at p = leaves_byte isa (body.instr p) (taken values p) at

  -- how often an item makes an access
  abbrev pub accessed : List (ℕ × List ℕ) → Touch → ℕ → ℕ
  accessed values a p = times_of a (touches_of isa (body.instr p) (taken values p))

  -- That is so up to an item.
  settled-above : (values : List (ℕ × List ℕ)) (flow : Flow) (order : List ℕ) (c : ℕ) → Settled values flow order → Settled values flow (above c order)
  unfolding above
  settled-above values flow [] c h = tt
  settled-above values flow (p ∷ order) c h = ⊎_elim
      (λ (here : eqb p c ≡ true). subst (λ t. Settled values flow (cond t [] (p ∷ above c order))) (sym here) tt)
      (λ (other : eqb p c ≡ false). subst (λ t. Settled values flow (cond t [] (p ∷ above c order))) (sym other) (h.0, settled-above values (flow_item isa body s flow p) order c h.1))
      (cases_Bool (eqb p c))

  -- The bytes that a flow leaves are those of the last stores.
  settled-bytes : (values : List (ℕ × List ℕ)) (flow : Flow) (order : List ℕ) (at : ℕ) → Settled values flow order → byte (flow_from isa body s flow order).memory at ≡ folded (leaves_at values at) everything (byte flow.memory at) order
  unfolding flow_from folded
  settled-bytes values flow [] at h = refl
  settled-bytes values flow (p ∷ order) at h =
      settled-bytes values (flow_item isa body s flow p) order at h.1
      ∙ ap (λ b. folded (leaves_at values at) everything b order) (byte-after isa (body.instr p) (sources_values s flow.values (body.sources p)) flow.memory at ∙ ap (λ ins. unwrap_or (leaves_byte isa (body.instr p) ins at) (byte flow.memory at)) h.0)

  -- A flow makes the accesses of its items.
  settled-touches : (values : List (ℕ × List ℕ)) (flow : Flow) (order : List ℕ) (a : Touch) → Settled values flow order → times_of a (flow_from isa body s flow order).touches ≡ times_of a flow.touches + counted (accessed values a) everything order
  unfolding flow_from counted
  settled-touches values flow [] a h = omega arith
  settled-touches values flow (p ∷ order) a h =
      let rest : times_of a (flow_from isa body s (flow_item isa body s flow p) order).touches ≡ times_of a (flow.touches ++ touches_of isa (body.instr p) (sources_values s flow.values (body.sources p))) + counted (accessed values a) everything order = settled-touches values (flow_item isa body s flow p) order a h.1 in
      let here : times_of a (flow.touches ++ touches_of isa (body.instr p) (sources_values s flow.values (body.sources p))) ≡ times_of a flow.touches + accessed values a p =
      times_of-append a flow.touches (touches_of isa (body.instr p) (sources_values s flow.values (body.sources p))) ∙ ap (λ ins. times_of a flow.touches + times_of a (touches_of isa (body.instr p) ins)) h.0 in
      rest ∙ ap (λ n. n + counted (accessed values a) everything order) here ∙ add_assoc (times_of a flow.touches) (accessed values a p) (counted (accessed values a) everything order)

  -- The outputs of the first item have the values that it gives.
  settled-first : (values : List (ℕ × List ℕ)) (flow : Flow) (q : ℕ) (order : List ℕ) (place : ℕ) → sources_values s flow.values (body.sources q) ≡ taken values q → stands_in q order ≡ false
      → output_value q place (flow_from isa body s (flow_item isa body s flow q) order).values ≡ slice_index (values_of isa (body.instr q) (taken values q) flow.memory) place
  unfolding output_value
  settled-first values flow q order place h fresh =
      kept (flow_item isa body s flow q) order q place fresh
      ∙ cond-true (eqb q q) (slice_index (values_of isa (body.instr q) (sources_values s flow.values (body.sources q)) flow.memory) place) (output_value q place flow.values) (eq-eqb q q refl)
      ∙ ap (λ ins. slice_index (values_of isa (body.instr q) ins flow.memory) place) h

  -- The outputs of an item have the values that it gives on the memory left by the items above it.
  settled-values : (values : List (ℕ × List ℕ)) (flow : Flow) (order : List ℕ) (p place : ℕ) → Settled values flow order → IsOnce order → stands_in p order ≡ true
      → output_value p place (flow_from isa body s flow order).values ≡ slice_index (values_of isa (body.instr p) (taken values p) (flow_from isa body s flow (above p order)).memory) place
  unfolding flow_from above output_value
  settled-values values flow [] p place h once there = absurd (stands-none p there)
  settled-values values flow (q ∷ order) p place h once there = ⊎_elim
      (λ (here : eqb q p ≡ true).
      subst (λ x. output_value x place (flow_from isa body s (flow_item isa body s flow q) order).values ≡ slice_index (values_of isa (body.instr x) (taken values x) flow.memory) place) (eqb-true q p here) (settled-first values flow q order place h.0 once.0)
      ∙ ap (λ xs. slice_index (values_of isa (body.instr p) (taken values p) (flow_from isa body s flow xs).memory) place) (sym (cond-true (eqb q p) [] (q ∷ above p order) here)))
      (λ (other : eqb q p ≡ false).
      let later : stands_in p order ≡ true = ⊎_elim (λ (same : q ≡ p). absurd (eqb-false q p other same)) (λ (rest : stands_in p order ≡ true). rest) (stands-cases q p order there) in
      settled-values values (flow_item isa body s flow q) order p place h.1 once.1 later
      ∙ ap (λ xs. slice_index (values_of isa (body.instr p) (taken values p) (flow_from isa body s flow xs).memory) place) (sym (cond-false (eqb q p) [] (q ∷ above p order) other)))
      (cases_Bool (eqb q p))

  -- Accesses that were made stay.
  touches-kept : (flow : Flow) (order : List ℕ) (a : Touch) → IsAmong a flow.touches → IsAmong a (flow_from isa body s flow order).touches
  unfolding flow_from
  touches-kept flow [] a h = h
  touches-kept flow (p ∷ order) a h = touches-kept (flow_item isa body s flow p) order a (among-left a flow.touches (touches_of isa (body.instr p) (sources_values s flow.values (body.sources p))) h)

  -- The access of each item is one of the flow's.
  settled-among : (values : List (ℕ × List ℕ)) (flow : Flow) (order : List ℕ) (p : ℕ) → Settled values flow order → stands_in p order ≡ true → has_access (isa.info (body.instr p).form) ≡ true
      → IsAmong (touch_of isa (body.instr p) (taken values p)) (flow_from isa body s flow order).touches
  unfolding flow_from
  settled-among values flow [] p h there accesses = absurd (stands-none p there)
  settled-among values flow (q ∷ order) p h there accesses = ⊎_elim
      (λ (same : q ≡ p).
      let first : IsAmong (touch_of isa (body.instr q) (taken values q)) (touches_of isa (body.instr q) (taken values q)) = subst (λ t. IsAmong (touch_of isa (body.instr q) (taken values q)) (cond t (touch_of isa (body.instr q) (taken values q) ∷ []) [])) (sym (subst (λ x. has_access (isa.info (body.instr x).form) ≡ true) (sym same) accesses)) (inl refl) in
      let second : IsAmong (touch_of isa (body.instr q) (taken values q)) (touches_of isa (body.instr q) (sources_values s flow.values (body.sources q))) = subst (λ ins. IsAmong (touch_of isa (body.instr q) (taken values q)) (touches_of isa (body.instr q) ins)) (sym h.0) first in
      let third : IsAmong (touch_of isa (body.instr q) (taken values q)) (flow_from isa body s (flow_item isa body s flow q) order).touches = touches-kept (flow_item isa body s flow q) order (touch_of isa (body.instr q) (taken values q)) (among-right (touch_of isa (body.instr q) (taken values q)) flow.touches (touches_of isa (body.instr q) (sources_values s flow.values (body.sources q))) second) in
      subst (λ x. IsAmong (touch_of isa (body.instr x) (taken values x)) (flow_from isa body s (flow_item isa body s flow q) order).touches) same third)
      (λ (rest : stands_in p order ≡ true). settled-among values (flow_item isa body s flow q) order p h.1 rest accesses)
      (stands-cases q p order there)

  -- where the flow of a body begins
  abbrev start : Flow
  start = record { values = []; memory = s.memory; touches = [] }

  -- what each item of the body takes in its flow
  abbrev pub operands_of : ℕ → List ℕ
  operands_of p = taken (flow_of isa body s).values p

  -- the byte that each item of the body leaves at an address
  abbrev pub left_at : ℕ → ℕ → Option ℕ
  left_at at p = leaves_at (flow_of isa body s).values at p

  -- how often each item of the body makes an access
  abbrev pub access_count : Touch → ℕ → ℕ
  access_count a p = accessed (flow_of isa body s).values a p

  -- A sound body is grounded.
  grounded : IsSound isa body → Grounded body body.order
  grounded sound p there = list_all-weaken (comes_from (above p body.order)) (is_grounded body.order (above p body.order)) (body.sources p) (grounded-above body.order (above p body.order)) (sound.sources_above p there)

  -- In the flow of a sound body, the operands' values are final as they are taken.
  whole : IsSound isa body → Settled (flow_of isa body s).values start body.order
  whole sound = settled start body.order sound.once (grounded sound)

  -- The bytes of the flow.
  pub flow-bytes : IsSound isa body → (at : ℕ) → byte (flow_of isa body s).memory at ≡ folded (left_at at) everything (byte s.memory at) body.order
  flow-bytes sound at = settled-bytes (flow_of isa body s).values start body.order at (whole sound)

  -- The accesses of the flow.
  pub flow-touches : IsSound isa body → (a : Touch) → times_of a (flow_of isa body s).touches ≡ counted (access_count a) everything body.order
  unfolding times_of
  flow-touches sound a =
      let all : times_of a (flow_of isa body s).touches ≡ 0 + counted (access_count a) everything body.order = settled-touches (flow_of isa body s).values start body.order a (whole sound) in
      omega arith

  -- the memory that an item of the body finds in its flow
  pub found_by : ℕ → FinMap nat_cmp ℕ
  found_by c = (flow_from isa body s start (above c body.order)).memory

  -- its bytes: what all items above leave
  pub found-bytes : IsSound isa body → (c at : ℕ) → byte (found_by c) at ≡ folded (left_at at) everything (byte s.memory at) (above c body.order)
  unfolding found_by
  found-bytes sound c at = settled-bytes (flow_of isa body s).values start (above c body.order) at (settled-above (flow_of isa body s).values start body.order c (whole sound))

  -- The outputs of an item.
  pub flow-values : IsSound isa body → (c place : ℕ) → stands_in c body.order ≡ true → output_value c place (flow_of isa body s).values ≡ slice_index (values_of isa (body.instr c) (operands_of c) (found_by c)) place
  unfolding found_by
  flow-values sound c place there = settled-values (flow_of isa body s).values start body.order c place (whole sound) sound.once there

  -- The access of each item is one of the flow's.
  pub flow-among : IsSound isa body → (c : ℕ) → stands_in c body.order ≡ true → has_access (isa.info (body.instr c).form) ≡ true → IsAmong (touch_of isa (body.instr c) (operands_of c)) (flow_of isa body s).touches
  flow-among sound c there accesses = settled-among (flow_of isa body s).values start body.order c (whole sound) there accesses
