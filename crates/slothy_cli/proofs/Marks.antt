-- The instructions of a schedule are marked as its items are.
use Rattle.std.proofs.Common.{◌≡◌, ℕ, zero, suc, ◌<◌, true, nat_lt, List, [], ◌∷◌, length, refl, arith, ltb-true}
use Rattle.std.specs.List.{list_all}
use Rattle.std.proofs.lemmas.Bool.{and_parts, and_from}
use Rattle.sl_model.specs.declared.instruction.Instr.{Instr}
use Rattle.sl_model.specs.declared.schedule.Choice.{Choice}
use Rattle.sl_model.specs.Isa.{Isa}
use Rattle.sl_model.specs.Body.{applied_from, applied}
use Rattle.sl_model.specs.Graph.{Graph, body_of}
use Rattle.sl_model.specs.Source.{item_at}
use Rattle.asm_reader.specs.Regions.{is_marked_right}

-- an item with right marks
marked-at : (isa : Isa) (count : ℕ) (items : List Instr) (p : ℕ) → list_all (is_marked_right isa count) items ≡ true → p < length items → is_marked_right isa count (item_at items p) ≡ true
marked-at isa count [] p right within = absurd (omega arith)
marked-at isa count (i ∷ items) zero right within = (and_parts (is_marked_right isa count i) (list_all (is_marked_right isa count) items) right).0
marked-at isa count (i ∷ items) (suc p) right within =
    marked-at isa count items p (and_parts (is_marked_right isa count i) (list_all (is_marked_right isa count) items) right).1 (omega arith)

marked-from : (isa : Isa) (count : ℕ) (graph : Graph) (done choices : List Choice) → list_all (is_marked_right isa count) graph.items ≡ true → list_all (λ c. nat_lt c.item (length graph.items)) choices ≡ true
    → list_all (is_marked_right isa count) (applied_from (body_of graph) done choices) ≡ true
unfolding applied_from
marked-from isa count graph done [] right known = refl
marked-from isa count graph done (c ∷ choices) right known =
    let parts = and_parts (nat_lt c.item (length graph.items)) (list_all (λ c. nat_lt c.item (length graph.items)) choices) known in
    and_from (is_marked_right isa count (item_at graph.items c.item)) (list_all (is_marked_right isa count) (applied_from (body_of graph) (c ∷ done) choices))
    (marked-at isa count graph.items c.item right (ltb-true c.item (length graph.items) parts.0))
    (marked-from isa count graph (c ∷ done) choices right parts.1)

-- the marks of a schedule's instructions are right, where those of the items are
pub applied-marked : (isa : Isa) (count : ℕ) (graph : Graph) (schedule : List Choice) → list_all (is_marked_right isa count) graph.items ≡ true → list_all (λ c. nat_lt c.item (length graph.items)) schedule ≡ true
    → list_all (is_marked_right isa count) (applied (body_of graph) schedule) ≡ true
applied-marked isa count graph schedule right known = marked-from isa count graph [] schedule right known
