-- Instructions of a set.
use Rattle.std.proofs.Common.{◌++◌, ◌+◌, [], get_or, ap, sym, ◌∙◌, ⊎_elim, ◌≡◌, ℕ, ◌≤◌, Bool, Option, length, arith, suc, ◌<◌, List, ◌∷◌, subst}
use Rattle.sl_model.specs.declared.instruction.Instr.{Instr}
use Rattle.sl_model.specs.Source.{operands, item_at}
use Rattle.sl_model.specs.Isa.{Isa}
use Rattle.std.proofs.lemmas.Bool.{cases_lt}
use Rattle.std.proofs.lemmas.List.{get_or_append_left, length_push}
use Rattle.std.proofs.Math.Seq.{get_or-append_seam}
use Rattle.sl_model.specs.Source.{no_instr}
use Rattle.sl_model.specs.Lawful.{IsValid, AreValid}
use Rattle.sl_laws.proofs.Elements.{length-filter_map}
use Rattle.sl_laws.proofs.Padded.{length-padded}

-- An instruction has at most four operands.
pub operands-few : (isa : Isa) (i : Instr) → IsValid isa i → length (operands i) ≤ 4
operands-few isa i valid =
    let most : length (operands i) ≤ length i.ins = length-filter_map (λ r. r) i.ins in
    let places : length i.ins ≡ 4 = ap (λ xs. length xs) valid.ins_shape ∙ length-padded 4 (operands i) in
    omega arith

-- An instruction is one of the set whatever its line.
pub valid-on_line : (isa : Isa) (i : Instr) (line : ℕ) → IsValid isa i → IsValid isa (record i { line = line })
valid-on_line isa i line valid = record {
  op = valid.op;
  ins_shape = valid.ins_shape;
  outs_shape = valid.outs_shape;
  operand_count = valid.operand_count;
  output_count = valid.output_count;
  operand_classes = valid.operand_classes;
  output_classes = valid.output_classes;
  distinct = valid.distinct;
  tied = valid.tied;
  base_apart = valid.base_apart;
}

-- And whatever its tag and its marks.
pub valid-marked : (isa : Isa) (i : Instr) (tag : Option ℕ) (early late : Bool) → IsValid isa i → IsValid isa (record i { tag = tag; early = early; late = late })
valid-marked isa i tag early late valid = record {
  op = valid.op;
  ins_shape = valid.ins_shape;
  outs_shape = valid.outs_shape;
  operand_count = valid.operand_count;
  output_count = valid.output_count;
  operand_classes = valid.operand_classes;
  output_classes = valid.output_classes;
  distinct = valid.distinct;
  tied = valid.tied;
  base_apart = valid.base_apart;
}

-- what holds of all items holds of those behind the first
pub valid-rest : (isa : Isa) (i : Instr) (items all : List Instr) → all ≡ i ∷ items → AreValid isa all → AreValid isa items
valid-rest isa i items all is valid = λ p within.
    subst (λ l. (k : ℕ) → k < length l → IsValid isa (item_at l k)) is valid (suc p) (omega arith)

-- what holds of all items, and of one more, holds of all
pub valid-push : (isa : Isa) (items : List Instr) (i : Instr) → AreValid isa items → IsValid isa i → AreValid isa (items ++ i ∷ [])
valid-push isa items i valid more p within = ⊎_elim
    (λ (before : p < length items). subst (IsValid isa) (sym (get_or_append_left items (i ∷ []) no_instr p before)) (valid p before))
    (λ (past : length items ≤ p).
    let count : length (items ++ i ∷ []) ≡ length items + 1 = length_push items i in
    let last : length items ≡ p = omega arith in
    subst (IsValid isa) (sym (ap (λ k. get_or (items ++ i ∷ []) k no_instr) (sym last) ∙ get_or-append_seam items i [] no_instr)) more)
    (cases_lt p (length items))
