-- The last number of an order, and those before it.
use Rattle.std.proofs.Common.{◌≡◌, ℕ, true, eqb, List, [], ◌∷◌, ◌++◌, None, reverse, refl, ap, ◌∙◌}
use Rattle.std.proofs.lemmas.Bool.{or_left, or_right, eq-eqb}
use Rattle.std.proofs.lemmas.List.{reverse-append}
use Rattle.sl_model.specs.declared.register.Reg.{Reg}
use Rattle.sl_model.specs.declared.instruction.Instr.{Instr}
use Rattle.sl_model.specs.Source.{outputs, item_at, place_from, output_or}
use Rattle.sl_model.specs.Body.{stands_in}
use Rattle.sl_model.specs.Graph.{last_of}
use Rattle.sl_laws.proofs.Orders.{stands_in-push}

-- the last number stands in an order, and so do those before it
pub stands-last : (before : List ℕ) (last : ℕ) → stands_in last (before ++ last ∷ []) ≡ true
stands-last before last = stands_in-push last before last ∙ or_right (stands_in last before) (eqb last last) (eq-eqb last last refl)

pub stands-before : (before : List ℕ) (last p : ℕ) → stands_in p before ≡ true → stands_in p (before ++ last ∷ []) ≡ true
stands-before before last p stands = stands_in-push p before last ∙ or_left (stands_in p before) (eqb last p) stands

-- an item that doesn't write a register leaves what stands there before it
pub passed : (items : List Instr) (before : List ℕ) (last : ℕ) (r : Reg) → place_from 0 r (outputs (item_at items last)) ≡ None
    → last_of items (reverse (before ++ last ∷ [])) r ≡ last_of items (reverse before) r
unfolding last_of
passed items before last r none =
    ap (λ order. last_of items order r) (reverse-append before (last ∷ []))
    ∙ ap (λ o. output_or last o (last_of items (reverse before) r)) none
