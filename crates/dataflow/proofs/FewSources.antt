-- There are few sources of an item's operands.
use Rattle.std.proofs.Common.{◌≡◌, ℕ, ◌<◌, ◌≤◌, List, [], length, get_or, ⊎_elim, ap, arith}
use Rattle.std.proofs.lemmas.Bool.{cases_lt}
use Rattle.sl_model.specs.declared.instruction.Instr.{Instr}
use Rattle.sl_model.specs.declared.schedule.Source.{Source}
use Rattle.sl_model.specs.Source.{operands, item_at}
use Rattle.sl_model.specs.Isa.{Isa}
use Rattle.sl_model.specs.Lawful.{AreValid}
use Rattle.sl_model.specs.Graph.{AreSources}
use Rattle.std.proofs.lemmas.List.{get_or_past}
use Rattle.sl_laws.proofs.Valid.{operands-few}

-- each valid item has at most four operands, and so many sources
pub few-sources : (isa : Isa) (items : List Instr) (order : List ℕ) (sources : List (List Source)) → AreValid isa items → AreSources items order sources
    → (p : ℕ) → length (get_or sources p []) ≤ 4
few-sources isa items order sources valid are p = ⊎_elim
    (λ (within : p < length items).
    let few : length (operands (item_at items p)) ≤ 4 = operands-few isa (item_at items p) (valid p within) in
    let same : length (get_or sources p []) ≡ length (operands (item_at items p)) = are.operands_have p within in
    omega arith)
    (λ (behind : length items ≤ p).
    let count : length sources ≡ length items = are.count in
    let none : length (get_or sources p []) ≡ 0 = ap length (get_or_past sources p [] (omega arith)) in
    omega arith)
    (cases_lt p (length items))
