-- Four items in an order of their own are each once in it, and each source stands above.
use Rattle.std.proofs.Common.{◌≡◌, ℕ, zero, suc, ◌<◌, ◌⊎◌, inl, inr, List, [], ◌∷◌, true, length, slice_index_or, refl, sym, arith}
use Rattle.std.specs.List.{list_all}
use Rattle.sl_model.specs.declared.instruction.Instr.{Instr}
use Rattle.sl_model.specs.declared.register.Reg.{Reg}
use Rattle.sl_model.specs.declared.schedule.Source.{Source}
use Rattle.sl_model.specs.declared.schedule.Source.TheVariants.{Entry, Item}
use Rattle.sl_model.specs.Source.{operands, item_at}
use Rattle.sl_model.specs.Isa.{Isa}
use Rattle.sl_model.specs.Lawful.{IsValid, AreValid}
use Rattle.sl_model.specs.Body.{above, stands_in}
use Rattle.sl_model.specs.Graph.{AreSources, comes_from}
use Rattle.sl_laws.proofs.Orders.{standing-has}

-- a list of four
pub four-valid : (isa : Isa) (a b c d : Instr) → IsValid isa a → IsValid isa b → IsValid isa c → IsValid isa d → AreValid isa (a ∷ b ∷ c ∷ d ∷ [])
four-valid isa a b c d va vb vc vd zero within = va
four-valid isa a b c d va vb vc vd (suc zero) within = vb
four-valid isa a b c d va vb vc vd (suc (suc zero)) within = vc
four-valid isa a b c d va vb vc vd (suc (suc (suc zero))) within = vd
four-valid isa a b c d va vb vc vd (suc (suc (suc (suc p)))) within = absurd (omega arith)

-- the second item stands first
abbrev pub order : List ℕ
order = 1 ∷ 0 ∷ 2 ∷ 3 ∷ []

-- what each reads
abbrev pub rows : Reg → Reg → List (List Source)
rows q r = (Item 1 0 ∷ []) ∷ (Entry q ∷ Entry r ∷ []) ∷ (Item 0 0 ∷ []) ∷ (Item 2 0 ∷ Item 2 1 ∷ []) ∷ []

pub four-sources : (a b c d : Instr) (q r : Reg) → length (operands a) ≡ 1 → length (operands b) ≡ 2 → length (operands c) ≡ 1 → length (operands d) ≡ 2
    → AreSources (a ∷ b ∷ c ∷ d ∷ []) (1 ∷ 0 ∷ 2 ∷ 3 ∷ [])
    (rows q r)
unfolding above stands_in
four-sources a b c d q r la lb lc ld = record {
  known = λ p stands. below p (standing-has p order stands);
  each = each;
  once = (refl, (refl, (refl, (refl, tt))));
  count = refl;
  operands_have = have q r;
  sources_above = stand q r;
}
  where
    below : (p : ℕ) → (1 ≡ p) ⊎ ((0 ≡ p) ⊎ ((2 ≡ p) ⊎ ((3 ≡ p) ⊎ ⊥))) → p < 4
    below p (inl e) = omega arith
    below p (inr (inl e)) = omega arith
    below p (inr (inr (inl e))) = omega arith
    below p (inr (inr (inr (inl e)))) = omega arith
    below p (inr (inr (inr (inr e)))) = absurd e

    each : (p : ℕ) → p < 4 → stands_in p order ≡ true
    each zero within = refl
    each (suc zero) within = refl
    each (suc (suc zero)) within = refl
    each (suc (suc (suc zero))) within = refl
    each (suc (suc (suc (suc p)))) within = absurd (omega arith)

    have : (q r : Reg) (p : ℕ) → p < 4 → length (slice_index_or (rows q r) p []) ≡ length (operands (item_at (a ∷ b ∷ c ∷ d ∷ []) p))
    have q r zero within = sym la
    have q r (suc zero) within = sym lb
    have q r (suc (suc zero)) within = sym lc
    have q r (suc (suc (suc zero))) within = sym ld
    have q r (suc (suc (suc (suc p)))) within = absurd (omega arith)

    stand : (q r : Reg) (p : ℕ) → p < 4 → list_all (comes_from (above p order)) (slice_index_or (rows q r) p []) ≡ true
    stand q r zero within = refl
    stand q r (suc zero) within = refl
    stand q r (suc (suc zero)) within = refl
    stand q r (suc (suc (suc zero))) within = refl
    stand q r (suc (suc (suc (suc p)))) within = absurd (omega arith)
