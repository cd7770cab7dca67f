-- Two accesses of a flow that share a byte, one of them a store, conflict.
use Rattle.std.proofs.Common.{◌≡◌, ℕ, zero, suc, true, false, not, ◌&&◌, ◌||◌, cond, List, [], ◌∷◌, map, length, Option, Some, None, slice_get, slice_index, option_and_then, is_some, refl, sym, ◌∙◌, ap, subst, ⊎_elim, true≢false}
use Rattle.std.proofs.lemmas.List.{length-map}
use Rattle.std.proofs.lemmas.Bool.{cases_Bool, and_parts, and_from, or_cases, or_left, or_right, not_from_false, false_from_ne_true, cond-true, cond-false}
use Rattle.sl_model.specs.declared.instruction.FormInfo.{FormInfo}
use Rattle.sl_model.specs.declared.schedule.Source.{Source}
use Rattle.sl_model.specs.Source.{operands}
use Rattle.sl_model.specs.State.{State}
use Rattle.sl_model.specs.Isa.{Isa, op_of, address_at}
use Rattle.sl_model.specs.Exec.{base_value, has_access, is_store, address_of, touch_of}
use Rattle.sl_model.specs.Lawful.{IsLawful}
use Rattle.sl_model.specs.Program.{TagsHoldOf}
use Rattle.sl_model.specs.Body.{Body, flow_of, source_value, base_source, same_base, tags_differ, ranges_disjoint, are_apart, conflict, stands_in}
use Rattle.renamer.specs.Faithful.{IsSound}
use Rattle.renamer.proofs.OrderAddress.{IsSmall, ranges-apart}
use Rattle.renamer.proofs.OrderFlow.{leaves_byte, operands_of, left_at, flow-among}
use Rattle.sl_laws.proofs.Sources.{same_source-true}
use Rattle.sl_laws.proofs.State.{stored_at, IsWithin, stored_at-within}
use Rattle.sl_model.specs.Machine.{space_of}
use Rattle.sl_laws.proofs.Machines.{space-large}

-- the value at the place where a source stands
value-at : (value : Source → ℕ) (xs : List Source) (k : ℕ) (x : Source) → slice_get xs k ≡ Some x → slice_index (map value xs) k ≡ value x
value-at value [] k x e = cc
value-at value (y ∷ xs) zero x e = let same : y ≡ x = cc in ap value same
value-at value (y ∷ xs) (suc k) x e = value-at value xs k x e

-- the value of a base is that of its source
base-at : (value : Source → ℕ) (xs : List Source) (base : Option ℕ) (x : Source) → option_and_then (slice_get xs) base ≡ Some x → base_value base (map value xs) ≡ value x
base-at value xs None x e = cc
base-at value xs (Some k) x e = value-at value xs k x e

-- bases that have the same source, with their values
same_base-values : (value : Source → ℕ) (xs ys : List Source) (base other : Option ℕ) (a b : Option Source) → option_and_then (slice_get xs) base ≡ a → option_and_then (slice_get ys) other ≡ b → same_base a b ≡ true → base_value base (map value xs) ≡ base_value other (map value ys)
same_base-values value xs ys base other (Some x) (Some y) ex ey same = base-at value xs base x ex ∙ ap value (same_source-true x y same) ∙ sym (base-at value ys other y ey)
same_base-values value xs ys base other (Some x) None ex ey same = absurd (true≢false (sym same))
same_base-values value xs ys base other None b ex ey same = absurd (true≢false (sym same))

-- a store has an access
pub store-parts : (info : FormInfo) → is_store info ≡ true → (has_access info ≡ true) × (info.store ≡ true)
store-parts info stores = ⊎_elim
    (λ (accesses : has_access info ≡ true). (accesses, sym (cond-true (has_access info) info.store false accesses) ∙ stores))
    (λ (quiet : has_access info ≡ false). absurd (true≢false (sym stores ∙ cond-false (has_access info) info.store false quiet)))
    (cases_Bool (has_access info))

module _ (isa : Isa) (body : Body) (s : State) (lawful : IsLawful isa) (sound : IsSound isa body) (tags : TagsHoldOf (space_of isa.name) (flow_of isa body s).touches) where
  -- an address that the access of an item of the body has a byte at
  abbrev pub Reaches : ℕ → ℕ → Type 0
  Reaches p at = IsWithin (space_of isa.name) (address_of isa (body.instr p) (operands_of isa body s p)) (isa.info (body.instr p).form).size at

  -- the offset and the size of an item's access are small
  small : (p : ℕ) → stands_in p body.order ≡ true → IsSmall (isa.offset (op_of (body.instr p))) (isa.info (body.instr p).form).size
  small p there =
      let valid : isa.valid (op_of (body.instr p)) ≡ true = (sound.items p there).op in
      record { low = lawful.offset_low (op_of (body.instr p)) valid; high = lawful.offset_high (op_of (body.instr p)) valid; short = lawful.sizes (body.instr p).form }

  -- each item has as many operands as its instruction
  pub operand-count : (p : ℕ) → stands_in p body.order ≡ true → length (operands_of isa body s p) ≡ length (operands (body.instr p))
  operand-count p there = length-map (body.sources p) (source_value s (flow_of isa body s).values) ∙ sound.operands_have p there

  -- Accesses of a flow at one address are not apart.
  not_apart : (p q at : ℕ) → stands_in p body.order ≡ true → stands_in q body.order ≡ true → has_access (isa.info (body.instr p).form) ≡ true → has_access (isa.info (body.instr q).form) ≡ true
      → Reaches p at → Reaches q at → are_apart isa body p q ≡ true → ⊥
  unfolding are_apart
  not_apart p q at p_there q_there p_accesses q_accesses p_at q_at apart = ⊎_elim
      (λ (differ : tags_differ (body.instr p).tag (body.instr q).tag ≡ true).
      tags (touch_of isa (body.instr p) (operands_of isa body s p)) (touch_of isa (body.instr q) (operands_of isa body s q))
      (flow-among isa body s sound p p_there p_accesses) (flow-among isa body s sound q q_there q_accesses) differ
      (p_at.place, q_at.place, p_at.below, q_at.below, p_at.is ∙ sym q_at.is))
      (λ (disjoint : (same_base (base_source isa body p) (base_source isa body q) && ranges_disjoint (isa.offset (op_of (body.instr p))) (isa.info (body.instr p).form).size (isa.offset (op_of (body.instr q))) (isa.info (body.instr q).form).size) ≡ true).
      let parts = and_parts (same_base (base_source isa body p) (base_source isa body q)) (ranges_disjoint (isa.offset (op_of (body.instr p))) (isa.info (body.instr p).form).size (isa.offset (op_of (body.instr q))) (isa.info (body.instr q).form).size) disjoint in
      let base : base_value (isa.info (body.instr p).form).base (operands_of isa body s p) ≡ base_value (isa.info (body.instr q).form).base (operands_of isa body s q) =
      same_base-values (source_value s (flow_of isa body s).values) (body.sources p) (body.sources q) (isa.info (body.instr p).form).base (isa.info (body.instr q).form).base (base_source isa body p) (base_source isa body q) refl refl parts.0 in
      ranges-apart (space_of isa.name) (base_value (isa.info (body.instr q).form).base (operands_of isa body s q)) (isa.info (body.instr p).form).size (isa.info (body.instr q).form).size at
      (isa.offset (op_of (body.instr p))) (isa.offset (op_of (body.instr q))) (space-large isa.name) (small p p_there) (small q q_there) parts.1
      (subst (λ b. IsWithin (space_of isa.name) (address_at (space_of isa.name) b (isa.offset (op_of (body.instr p)))) (isa.info (body.instr p).form).size at) base p_at) q_at)
      (or_cases (tags_differ (body.instr p).tag (body.instr q).tag) (same_base (base_source isa body p) (base_source isa body q) && ranges_disjoint (isa.offset (op_of (body.instr p))) (isa.info (body.instr p).form).size (isa.offset (op_of (body.instr q))) (isa.info (body.instr q).form).size) apart)

  -- Two accesses at one address conflict where one of them is a store.
  pub shared-conflict : (p q at : ℕ) → stands_in p body.order ≡ true → stands_in q body.order ≡ true → has_access (isa.info (body.instr p).form) ≡ true → has_access (isa.info (body.instr q).form) ≡ true
      → ((isa.info (body.instr p).form).store || (isa.info (body.instr q).form).store) ≡ true → Reaches p at → Reaches q at → conflict isa body p q ≡ true
  unfolding conflict
  shared-conflict p q at p_there q_there p_accesses q_accesses stores p_at q_at =
      let apart : are_apart isa body p q ≡ false = false_from_ne_true (are_apart isa body p q) (not_apart p q at p_there q_there p_accesses q_accesses p_at q_at) in
      and_from (has_access (isa.info (body.instr p).form) && has_access (isa.info (body.instr q).form)) (((isa.info (body.instr p).form).store || (isa.info (body.instr q).form).store) && not (are_apart isa body p q))
      (and_from (has_access (isa.info (body.instr p).form)) (has_access (isa.info (body.instr q).form)) p_accesses q_accesses)
      (and_from ((isa.info (body.instr p).form).store || (isa.info (body.instr q).form).store) (not (are_apart isa body p q)) stores (not_from_false _ apart))

  -- An item that leaves a byte at an address is a store, and its access has a byte there.
  pub leaves-reaches : (p at : ℕ) → stands_in p body.order ≡ true → is_some (left_at isa body s at p) ≡ true → (is_store (isa.info (body.instr p).form) ≡ true) × Reaches p at
  unfolding leaves_byte
  leaves-reaches p at there leaves = ⊎_elim
      (λ (stores : is_store (isa.info (body.instr p).form) ≡ true).
      let put : is_some (stored_at (space_of isa.name) (address_of isa (body.instr p) (operands_of isa body s p)) (isa.stored (op_of (body.instr p)) (operands_of isa body s p)) at) ≡ true =
      subst (λ t. is_some (cond t (stored_at (space_of isa.name) (address_of isa (body.instr p) (operands_of isa body s p)) (isa.stored (op_of (body.instr p)) (operands_of isa body s p)) at) None) ≡ true) stores leaves in
      let size : length (isa.stored (op_of (body.instr p)) (operands_of isa body s p)) ≡ (isa.info (body.instr p).form).size =
      lawful.stored_count (body.instr p) (operands_of isa body s p) (sound.items p there) stores (operand-count p there) in (
        stores,
        subst (λ n. IsWithin (space_of isa.name) (address_of isa (body.instr p) (operands_of isa body s p)) n at) size
            (stored_at-within (space_of isa.name) (address_of isa (body.instr p) (operands_of isa body s p)) (isa.stored (op_of (body.instr p)) (operands_of isa body s p)) at put),
      ))
      (λ (quiet : is_store (isa.info (body.instr p).form) ≡ false).
      let none : false ≡ true = subst (λ t. is_some (cond t (stored_at (space_of isa.name) (address_of isa (body.instr p) (operands_of isa body s p)) (isa.stored (op_of (body.instr p)) (operands_of isa body s p)) at) None) ≡ true) quiet leaves in
      absurd (true≢false (sym none)))
      (cases_Bool (is_store (isa.info (body.instr p).form)))

  -- A store that leaves a byte where another access has one conflicts with it, whichever of them is named first.
  pub leaves-conflict_first : (q c at : ℕ) → stands_in q body.order ≡ true → stands_in c body.order ≡ true → is_some (left_at isa body s at q) ≡ true → has_access (isa.info (body.instr c).form) ≡ true → Reaches c at → conflict isa body q c ≡ true
  leaves-conflict_first q c at q_there c_there leaves accesses c_at =
      let q_at = leaves-reaches q at q_there leaves in
      let parts = store-parts (isa.info (body.instr q).form) q_at.0 in
      shared-conflict q c at q_there c_there parts.0 accesses (or_left (isa.info (body.instr q).form).store (isa.info (body.instr c).form).store parts.1) q_at.1 c_at

  -- and the other way round
  pub leaves-conflict_second : (c q at : ℕ) → stands_in c body.order ≡ true → stands_in q body.order ≡ true → has_access (isa.info (body.instr c).form) ≡ true → Reaches c at → is_some (left_at isa body s at q) ≡ true → conflict isa body c q ≡ true
  leaves-conflict_second c q at c_there q_there accesses c_at leaves =
      let q_at = leaves-reaches q at q_there leaves in
      let parts = store-parts (isa.info (body.instr q).form) q_at.0 in
      shared-conflict c q at c_there q_there accesses parts.0 (or_right (isa.info (body.instr c).form).store (isa.info (body.instr q).form).store parts.1) c_at q_at.1
