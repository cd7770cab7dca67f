-- An instruction in other registers has none that its class hasn't.
use Rattle.std.proofs.Common.{◌≡◌, ◌∙◌, sym, ap, ◌<◌, ◌≤◌, true, false, cond, length, true≢false, arith, get_or, zip}
use Rattle.std.specs.Prelude.{slice_get, Some}
use Rattle.std.proofs.lemmas.Bool.{not-true}
use Rattle.std.proofs.lemmas.Option.{slice_get-get_or, slice_get_within}
use Rattle.sl_model.specs.declared.register.Reg.{Reg}
use Rattle.sl_model.specs.declared.register.RegSet.{RegSet}
use Rattle.sl_model.specs.declared.instruction.Instr.{Instr}
use Rattle.sl_model.specs.declared.instruction.FormInfo.{FormInfo}
use Rattle.sl_model.specs.RegSets.{set_has, set_count}
use Rattle.sl_model.specs.Source.{operands}
use Rattle.sl_model.specs.Isa.{op_of}
use Rattle.sl_model.specs.Lawful.{IsValid, suits_set, is_of_bank}
use Rattle.sl_isa.specs.Language.{IsRenaming, is_concrete}
use Rattle.arm64_table.specs.Arm64.{arm64}
use Rattle.arm64_table.specs.Laws.{arm64_lawful}
use Rattle.sl_laws.proofs.Elements.{list_all-at, zip-at}
use Rattle.sl_laws.proofs.RegSets.{set_count-bound}

-- an instruction has a form of the table
pub known-form : (i : Instr) → IsValid arm64.isa i → i.form < arm64.isa.forms
known-form i valid = arm64_lawful.set.known (op_of i) valid.op

-- where the class of the second input hasn't a register, no instruction in other registers has it there
pub never-there : (i j : Instr) (r : Reg) (d : RegSet) → IsRenaming arm64.isa i j → set_has (get_or (arm64.isa.info i.form).in_sets 1 d) r ≡ false
    → slice_get (operands j) 1 ≡ Some r → ⊥
never-there i j r d renaming none there =
    let info : FormInfo = arm64.isa.info j.form in
    let set : RegSet = get_or info.in_sets 1 d in
    let same : i.form ≡ j.form = ap (λ (k : Instr). k.form) renaming.same in
    let inside : 1 < length (operands j) = slice_get_within (operands j) 1 r there in
    let count : length (operands j) ≡ set_count info.in_sets = renaming.valid.operand_count in
    let bound : set_count info.in_sets ≤ length info.in_sets = set_count-bound info.in_sets in
    let beside : slice_get info.in_sets 1 ≡ Some set = slice_get-get_or info.in_sets 1 d (omega arith) in
    let suits : suits_set (r, set) ≡ true =
    list_all-at suits_set (zip (operands j) info.in_sets) 1 (r, set) renaming.valid.operand_classes (zip-at (operands j) info.in_sets 1 r set there beside) in
    let plain : is_concrete r ≡ true = list_all-at is_concrete (operands j) 1 r renaming.concrete.operands_concrete there in
    let has : set_has set r ≡ true = sym (ap (λ b. cond b (is_of_bank r.bank set) (set_has set r)) (not-true r.symbolic plain)) ∙ suits in
    true≢false (sym has ∙ sym (ap (λ n. set_has (get_or (arm64.isa.info n).in_sets 1 d) r) same) ∙ none)
