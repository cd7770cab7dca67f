-- The items of a straight problem may all write the same registers.
use Rattle.std.proofs.Common.{◌≡◌, ℕ, zero, suc, ◌<◌, List, [], ◌∷◌, map, length, slice_index_or, refl, sym, ap, ◌∙◌, true, arith}
use Rattle.sl_model.specs.declared.frame.Frame.{Frame}
use Rattle.sl_model.specs.declared.instruction.Instr.{Instr}
use Rattle.sl_model.specs.declared.register.RegSet.{RegSet}
use Rattle.sl_model.specs.RegSets.{set_has}
use Rattle.sl_model.specs.Body.{stands_in}
use Rattle.sl_model.specs.Cycles.{CostTable}
use Rattle.sl_model.specs.Isa.{Isa}
use Rattle.sl_model.specs.Legal.{straight_problem, allowed_in}
use Rattle.search_space.specs.Searchable.{IsSearchable}
use Rattle.register_exchange.specs.AsGood.{AllowsAlike}

-- one set for each element of a list
constant-at : (set d : RegSet) (items : List Instr) (p : ℕ) → p < length items → slice_index_or (map (λ i. set) items) p d ≡ set
constant-at set d [] p less = absurd (omega arith)
constant-at set d (i ∷ items) zero less = refl
constant-at set d (i ∷ items) (suc p) less = constant-at set d items p (omega arith)

-- So it is of a straight problem.
pub straight-alike : (isa : Isa) (items : List Instr) (frame : Frame) (costs : CostTable) → IsSearchable (straight_problem isa items frame costs) → AllowsAlike (straight_problem isa items frame costs)
straight-alike isa items frame costs search = record {
  alike = λ p q r hp hq loose. ap (λ set. set_has set r) (at p hp ∙ sym (at q hq));
}
  where
    at : (p : ℕ) → stands_in p (straight_problem isa items frame costs).graph.order ≡ true → allowed_in (straight_problem isa items frame costs) p ≡ frame.allowed
    at p hp = constant-at frame.allowed (record { bits = 0 }) items p (search.sources.known p hp)
