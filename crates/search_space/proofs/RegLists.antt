-- Lists of registers of the machine: which there are, and their order.
use Rattle.std.proofs.Common.{◌≡◌, ℕ, zero, suc, ◌∷◌, List, [], map, length, inl, inr, ⊎_elim, refl, sym, ap, ◌∙◌, subst}
use Rattle.std.specs.Ordering.{nat_cmp, ordering_then}
use Rattle.std.specs.declared.cmp.Ordering.TheVariants.{Less}
use Rattle.std.specs.Cmp.Lexicographic.{slice_cmp}
use Rattle.sl_model.specs.declared.register.Reg.{Reg}
use Rattle.search_space.specs.Next.{machine_regs, reg_lists}
use Rattle.sl_laws.proofs.MachineRegs.{bit, Lower, ordered-machine}
use Rattle.sl_laws.proofs.Members.{Has, Ordered, from-map, has-map, has-flat_map, from-flat_map, ordered-map, ordered-flat_map}
use Rattle.search_space.proofs.Keys.{nat_cmp-same, nat_cmp-below}

-- each list of registers of the machine is one of its length
pub has-regs : (regs : List Reg) → ((r : Reg) → Has r regs → Has r machine_regs) → Has regs (reg_lists (length regs))
unfolding reg_lists
has-regs [] each = inl refl
has-regs (r ∷ regs) each =
    has-flat_map (λ r. map (λ rest. r ∷ rest) (reg_lists (length regs))) (r ∷ regs) r machine_regs (each r (inl refl))
    (has-map (λ rest. r ∷ rest) regs (reg_lists (length regs)) (has-regs regs (λ s h. each s (inr h))))

-- the lists of a length have it
pub length-regs : (n : ℕ) (regs : List Reg) → Has regs (reg_lists n) → length regs ≡ n
unfolding reg_lists
length-regs zero regs h = ⊎_elim (λ (e : [] ≡ regs). ap length (sym e)) (λ (no : ⊥). absurd no) h
length-regs (suc n) regs h =
    let r = from-flat_map (λ r. map (λ rest. r ∷ rest) (reg_lists n)) regs machine_regs h in
    let m = from-map (λ rest. r.0 ∷ rest) regs (reg_lists n) r.2 in
    ap length (sym m.2) ∙ ap suc (length-regs n m.0 m.1)

-- Lists of registers, all of one length, go by their first difference.
pub record RegsBefore (n : ℕ) (a b : List Reg) : Type 0 where
  pub left : length a ≡ n
  pub right : length b ≡ n
  pub less : slice_cmp nat_cmp (map bit a) (map bit b) ≡ Less

-- They are listed so.
pub ordered-regs : (n : ℕ) → Ordered (RegsBefore n) (reg_lists n)
unfolding reg_lists
ordered-regs zero = (λ y h. absurd h, tt)
ordered-regs (suc n) =
    ordered-flat_map Lower (RegsBefore (suc n)) (λ r. map (λ regs. r ∷ regs) (reg_lists n)) machine_regs ordered-machine
    (λ r h. ordered-map (RegsBefore n) (RegsBefore (suc n)) (λ regs. r ∷ regs) (reg_lists n) (ordered-regs n)
    (λ a b before. record {
      left = ap suc before.left;
      right = ap suc before.right;
      less = ap (λ o. ordering_then o (slice_cmp nat_cmp (map bit a) (map bit b))) (nat_cmp-same (bit r)) ∙ before.less;
    }))
    (λ r s a b lower ha hb.
    let x = from-map (λ regs. r ∷ regs) a (reg_lists n) ha in
    let y = from-map (λ regs. s ∷ regs) b (reg_lists n) hb in
    record {
      left = ap length (sym x.2) ∙ ap suc (length-regs n x.0 x.1);
      right = ap length (sym y.2) ∙ ap suc (length-regs n y.0 y.1);
      less = subst (λ z. slice_cmp nat_cmp (map bit z) (map bit b) ≡ Less) x.2
          (subst (λ z. slice_cmp nat_cmp (bit r ∷ map bit x.0) (map bit z) ≡ Less) y.2
          (ap (λ o. ordering_then o (slice_cmp nat_cmp (map bit x.0) (map bit y.0))) (nat_cmp-below (bit r) (bit s) lower)));
    })
