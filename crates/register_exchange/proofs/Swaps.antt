-- Two registers that change names with each other.
use Rattle.std.proofs.Common.{◌≡◌, ℕ, zero, suc, ◌+◌, ◌⊎◌, Bool, true, false, ◌&&◌, not, List, [], ◌∷◌, map, length, slice_get, Option, Some, None, is_some, cond, if◌then◌else◌, inl, inr, ⊎_elim, refl, sym, ap, ◌∙◌, subst, true≢false}
use Rattle.std.specs.List.{filter_map}
use Rattle.std.proofs.lemmas.Bool.{cases_Bool, and_parts, cond-true, cond-false, false_from_ne_true, both_ways}
use Rattle.sl_model.specs.declared.register.Reg.{Reg}
use Rattle.sl_model.specs.declared.schedule.Choice.{Choice}
use Rattle.sl_model.specs.Register.{same_reg}
use Rattle.sl_model.specs.Source.{padded, place_from}
use Rattle.sl_model.specs.Body.{chosen, all_differ}
use Rattle.sl_laws.proofs.Registers.{same_reg-true, same_reg-refl}
use Rattle.register_exchange.proofs.Lists.{bool_same}

-- Two registers change their names with each other, and all others keep theirs.
unfoldable pub swap : Reg → Reg → Reg → Reg
swap a b r = if same_reg a r then b else (if same_reg b r then a else r)

-- the same of a place for a register
abbrev pub swap_some : Reg → Reg → Option Reg → Option Reg
swap_some a b None = None
swap_some a b (Some r) = Some (swap a b r)

-- and of a choice
abbrev pub swap_choice : Reg → Reg → Choice → Choice
swap_choice a b c = record { item = c.item; unit = c.unit; outs = map (swap_some a b) c.outs }

-- equal registers are one
pub same_reg-from : (a b : Reg) → a ≡ b → same_reg a b ≡ true
same_reg-from a b e = subst (λ x. same_reg a x ≡ true) e (same_reg-refl a)

-- two registers are equal or not
pub decide_reg : (a b : Reg) → (a ≡ b) ⊎ (a ≡ b → ⊥)
decide_reg a b = ⊎_elim
    (λ (yes_same : same_reg a b ≡ true). inl (same_reg-true a b yes_same))
    (λ (other : same_reg a b ≡ false). inr (λ (e : a ≡ b). both_ways (same_reg a b) other (same_reg-from a b e)))
    (cases_Bool (same_reg a b))

module _ (a b : Reg) where
  -- the first gets the name of the second
  pub swap-first : swap a b a ≡ b
  unfolding swap
  swap-first = cond-true (same_reg a a) b _ (same_reg-refl a)

  -- the second that of the first
  pub swap-second : swap a b b ≡ a
  unfolding swap
  swap-second = ⊎_elim
      (λ (e : a ≡ b). cond-true (same_reg a b) b _ (same_reg-from a b e) ∙ sym e)
      (λ (ne : a ≡ b → ⊥). cond-false (same_reg a b) b _ (false_from_ne_true (same_reg a b) (λ s. ne (same_reg-true a b s))) ∙ cond-true (same_reg b b) a b (same_reg-refl b))
      (decide_reg a b)

  -- and others keep theirs
  pub swap-other : (r : Reg) → (a ≡ r → ⊥) → (b ≡ r → ⊥) → swap a b r ≡ r
  unfolding swap
  swap-other r na nb =
      cond-false (same_reg a r) b _ (false_from_ne_true (same_reg a r) (λ s. na (same_reg-true a r s)))
      ∙ cond-false (same_reg b r) a r (false_from_ne_true (same_reg b r) (λ s. nb (same_reg-true b r s)))

  -- what holds of each register where it holds of the two and of those that keep their names
  pub by_swap : (P : Reg → Reg → Type 0) → P a b → P b a → ((r : Reg) → (a ≡ r → ⊥) → (b ≡ r → ⊥) → P r r) → (r : Reg) → P r (swap a b r)
  by_swap P pa pb other r = ⊎_elim
      (λ (e : a ≡ r). subst (λ x. P x (swap a b x)) e (subst (P a) (sym swap-first) pa))
      (λ (na : a ≡ r → ⊥). ⊎_elim
      (λ (e : b ≡ r). subst (λ x. P x (swap a b x)) e (subst (P b) (sym swap-second) pb))
      (λ (nb : b ≡ r → ⊥). subst (P r) (sym (swap-other r na nb)) (other r na nb))
      (decide_reg b r))
      (decide_reg a r)

  -- twice changed is unchanged
  pub swap-back : (r : Reg) → swap a b (swap a b r) ≡ r
  swap-back r = by_swap (λ x y. swap a b y ≡ x) swap-second swap-first swap-other r

  -- the test of registers sees no change of both
  pub same_reg-swap : (x y : Reg) → same_reg (swap a b x) (swap a b y) ≡ same_reg x y
  same_reg-swap x y = bool_same (same_reg (swap a b x) (swap a b y)) (same_reg x y)
      (λ s. same_reg-from x y (sym (swap-back x) ∙ ap (swap a b) (same_reg-true (swap a b x) (swap a b y) s) ∙ swap-back y))
      (λ s. same_reg-from (swap a b x) (swap a b y) (ap (swap a b) (same_reg-true x y s)))

  -- and a change of one as that of the other
  pub same_reg-across : (x y : Reg) → same_reg (swap a b x) y ≡ same_reg x (swap a b y)
  same_reg-across x y = sym (same_reg-swap (swap a b x) y) ∙ ap (λ z. same_reg z (swap a b y)) (swap-back x)

  -- the place of a register among changed ones
  pub place_from-swap : (k : ℕ) (r : Reg) (outs : List Reg) → place_from k r (map (swap a b) outs) ≡ place_from k (swap a b r) outs
  unfolding place_from
  place_from-swap k r [] = refl
  place_from-swap k r (out ∷ outs) =
      ap (λ t. cond t (Some k) (place_from (k + 1) r (map (swap a b) outs))) (same_reg-across out r)
      ∙ ap (λ t. cond (same_reg out (swap a b r)) (Some k) t) (place_from-swap (k + 1) r outs)

  -- changed registers differ where the registers do
  pub all_differ-swap : (regs : List Reg) → all_differ (map (swap a b) regs) ≡ all_differ regs
  unfolding all_differ
  all_differ-swap [] = refl
  all_differ-swap (r ∷ regs) =
      ap (λ t. not (is_some t) && all_differ (map (swap a b) regs)) (place_from-swap 0 (swap a b r) regs ∙ ap (λ z. place_from 0 z regs) (swap-back r))
      ∙ ap (λ t. not (is_some (place_from 0 r regs)) && t) (all_differ-swap regs)

  chosen-swap_outs : (outs : List (Option Reg)) → filter_map (λ r. r) (map (swap_some a b) outs) ≡ map (swap a b) (filter_map (λ r. r) outs)
  chosen-swap_outs [] = refl
  chosen-swap_outs (None ∷ outs) = chosen-swap_outs outs
  chosen-swap_outs (Some r ∷ outs) = ap (λ t. swap a b r ∷ t) (chosen-swap_outs outs)

  -- the outputs of a changed choice
  pub chosen-swap : (c : Choice) → chosen (swap_choice a b c) ≡ map (swap a b) (chosen c)
  chosen-swap c = chosen-swap_outs c.outs

  -- the same of padded outputs, of a place and of the length
  pub padded-swap : (n : ℕ) (regs : List Reg) → padded n (map (swap a b) regs) ≡ map (swap_some a b) (padded n regs)
  padded-swap zero regs = refl
  padded-swap (suc n) [] = ap (λ t. None ∷ t) (padded-swap n [])
  padded-swap (suc n) (r ∷ regs) = ap (λ t. Some (swap a b r) ∷ t) (padded-swap n regs)

  pub get-swap : (n : ℕ) (regs : List Reg) → slice_get (map (swap a b) regs) n ≡ swap_some a b (slice_get regs n)
  get-swap n [] = refl
  get-swap zero (r ∷ regs) = refl
  get-swap (suc n) (r ∷ regs) = get-swap n regs

  pub length-swap : (regs : List Reg) → length (map (swap a b) regs) ≡ length regs
  length-swap [] = refl
  length-swap (r ∷ regs) = ap suc (length-swap regs)

-- a register that stands once stands at one place
past : (k i : ℕ) (r : Reg) (regs : List Reg) → slice_get regs i ≡ Some r → is_some (place_from k r regs) ≡ true
unfolding place_from
past k i r [] at = absurd (cc)
past k zero r (x ∷ regs) at =
    let same : x ≡ r = cc in
    ap is_some (cond-true (same_reg x r) (Some k) (place_from (k + 1) r regs) (same_reg-from x r same))
past k (suc i) r (x ∷ regs) at = by (same_reg x r) (past (k + 1) i r regs at)
  where
    by : (t : Bool) → is_some (place_from (k + 1) r regs) ≡ true → is_some (cond t (Some k) (place_from (k + 1) r regs)) ≡ true
    by true rest = refl
    by false rest = rest

pub placed_at : (k i : ℕ) (r : Reg) (regs : List Reg) → slice_get regs i ≡ Some r → is_some (place_from k r regs) ≡ true
placed_at k i r regs at = past k i r regs at

-- registers that differ stand at one place each
pub differ-at : (i j : ℕ) (r : Reg) (regs : List Reg) → all_differ regs ≡ true → slice_get regs i ≡ Some r → slice_get regs j ≡ Some r → i ≡ j
unfolding all_differ
differ-at i j r [] differ at at' = absurd (cc)
differ-at zero zero r (x ∷ regs) differ at at' = refl
differ-at zero (suc j) r (x ∷ regs) differ at at' = absurd (clash x r j regs (cc) (and_parts (not (is_some (place_from 0 x regs))) (all_differ regs) differ).0 at')
  where
    clash : (x r : Reg) (j : ℕ) (regs : List Reg) → x ≡ r → not (is_some (place_from 0 x regs)) ≡ true → slice_get regs j ≡ Some r → ⊥
    clash x r j regs same none at = true≢false (sym none ∙ ap not (ap (λ z. is_some (place_from 0 z regs)) same ∙ past 0 j r regs at))
differ-at (suc i) zero r (x ∷ regs) differ at at' = absurd (clash x r i regs (cc) (and_parts (not (is_some (place_from 0 x regs))) (all_differ regs) differ).0 at)
  where
    clash : (x r : Reg) (j : ℕ) (regs : List Reg) → x ≡ r → not (is_some (place_from 0 x regs)) ≡ true → slice_get regs j ≡ Some r → ⊥
    clash x r j regs same none at = true≢false (sym none ∙ ap not (ap (λ z. is_some (place_from 0 z regs)) same ∙ past 0 j r regs at))
differ-at (suc i) (suc j) r (x ∷ regs) differ at at' = ap suc (differ-at i j r regs (and_parts (not (is_some (place_from 0 x regs))) (all_differ regs) differ).1 at at')
