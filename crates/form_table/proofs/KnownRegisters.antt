-- The registers of an instruction that was read are the machine's, or have names.
use Rattle.std.proofs.Common.{◌≡◌, ◌∙◌, ap, subst, refl, ℕ, Bool, true, false, cond, ◌&&◌, List, [], ◌∷◌, eq-eqb}
use Rattle.std.specs.Prelude.{Option, Some, None, slice_get}
use Rattle.std.specs.List.{list_all, filter_map}
use Rattle.std.proofs.lemmas.Bool.{and_parts}
use Rattle.sl_model.specs.declared.register.Reg.{Reg}
use Rattle.sl_model.specs.declared.instruction.Instr.{Instr}
use Rattle.sl_model.specs.Source.{operands}
use Rattle.sl_isa.specs.Steps.{flags_register}
use Rattle.sl_isa.specs.Symbols.{Pair, is_pair_of, is_named}
use Rattle.sl_isa.specs.Language.{IsNamed}
use Rattle.form_table.specs.Rows.{row_operands}
use Rattle.form_table.specs.Reads.{is_picked, kept, picked, placed, all_placed, flags_placed, inputs, results, instr_of}
use Rattle.form_table.specs.declared.rows.Operand.{Operand}
use Rattle.form_table.specs.declared.rows.Row.{Row}
use Rattle.form_table.specs.declared.spells.Held.{Held}
use Rattle.form_table.specs.declared.reader.Pick.{Pick}
use Rattle.form_table.specs.declared.reader.Pick.TheVariants as pick
use Rattle.form_table.proofs.Names.{knows_pair, knows_register, knows_optional, knows_held, name_of_number}
use Rattle.form_table.proofs.ReadAgain.{IsReadBy, judged_is}

-- registers of places
abbrev standing : List (Option Reg) → List Reg
standing places = filter_map (λ r. r) places

-- All of some registers are known.
abbrev AreKnown : List Pair → List Reg → Type 0
AreKnown pairs regs = list_all (knows_register pairs) regs ≡ true

more_known : (pairs : List Pair) (r : Reg) (regs : List Reg) → knows_register pairs r ≡ true → AreKnown pairs regs → AreKnown pairs (r ∷ regs)
more_known pairs r regs e all = ap (λ b. b && list_all (knows_register pairs) regs) e ∙ all

-- ---- the registers that operands hold

kept_known : (pairs : List Pair) (picks : Bool) (o : Option Reg) (regs : List Reg) → knows_optional pairs o ≡ true → AreKnown pairs regs
    → AreKnown pairs (kept picks o regs)
kept_known pairs false o regs e all = all
kept_known pairs true None regs e all = all
kept_known pairs true (Some r) regs e all = more_known pairs r regs e all

picked_known : (pairs : List Pair) (which : Pick) (operands : List Operand) (helds : List Held) → list_all (knows_held pairs) helds ≡ true
    → AreKnown pairs (picked which operands helds)
unfolding picked
picked_known pairs which [] helds e = refl
picked_known pairs which (operand ∷ operands) [] e = refl
picked_known pairs which (operand ∷ operands) (held ∷ helds) e =
    let parts = and_parts (knows_held pairs held) (list_all (knows_held pairs) helds) e in
    kept_known pairs (is_picked which operand.role) held.register (picked which operands helds) parts.0 (picked_known pairs which operands helds parts.1)

-- ---- the places of an instruction

placed_known : (pairs : List Pair) (places : List (Option Reg)) (r : Reg) → knows_register pairs r ≡ true → AreKnown pairs (standing places)
    → AreKnown pairs (standing (placed places r))
unfolding placed
placed_known pairs [] r e all = refl
placed_known pairs (None ∷ places) r e all = more_known pairs r (standing places) e all
placed_known pairs (Some q ∷ places) r e all =
    let parts = and_parts (knows_register pairs q) (list_all (knows_register pairs) (standing places)) all in
    more_known pairs q (standing (placed places r)) parts.0 (placed_known pairs places r e parts.1)

all_placed_known : (pairs : List Pair) (places : List (Option Reg)) (regs : List Reg) → AreKnown pairs regs → AreKnown pairs (standing places)
    → AreKnown pairs (standing (all_placed places regs))
unfolding all_placed
all_placed_known pairs places [] e all = all
all_placed_known pairs places (r ∷ regs) e all =
    let parts = and_parts (knows_register pairs r) (list_all (knows_register pairs) regs) e in
    all_placed_known pairs (placed places r) regs parts.1 (placed_known pairs places r parts.0 all)

flags_known : (pairs : List Pair) (places : List (Option Reg)) (wanted : Bool) → AreKnown pairs (standing places) → AreKnown pairs (standing (flags_placed places wanted))
flags_known pairs places false all = all
flags_known pairs places true all = placed_known pairs places flags_register refl all

inputs_known : (pairs : List Pair) (row : Row) (helds : List Held) → list_all (knows_held pairs) helds ≡ true → AreKnown pairs (standing (inputs row helds))
unfolding inputs
inputs_known pairs row helds e =
    flags_known pairs _ row.reads_flags
    (all_placed_known pairs _ (picked pick.Tied (row_operands row) helds) (picked_known pairs pick.Tied (row_operands row) helds e)
    (all_placed_known pairs (None ∷ None ∷ None ∷ None ∷ []) (picked pick.Read (row_operands row) helds) (picked_known pairs pick.Read (row_operands row) helds e) refl))

results_known : (pairs : List Pair) (row : Row) (helds : List Held) → list_all (knows_held pairs) helds ≡ true → AreKnown pairs (standing (results row helds))
unfolding results
results_known pairs row helds e =
    flags_known pairs _ row.sets_flags
    (all_placed_known pairs _ (picked pick.Back (row_operands row) helds) (picked_known pairs pick.Back (row_operands row) helds e)
    (all_placed_known pairs (None ∷ None ∷ None ∷ []) (picked pick.Written (row_operands row) helds) (picked_known pairs pick.Written (row_operands row) helds e) refl))

-- ---- what is known is named

known_named : (pairs : List Pair) (r : Reg) → knows_register pairs r ≡ true → is_named pairs r ≡ true
known_named pairs r e = by r.symbolic e
  where
    by : (b : Bool) → cond b (knows_pair pairs r.bank r.number (slice_get pairs r.number)) true ≡ true → cond b (is_pair_of r.bank (slice_get pairs r.number)) true ≡ true
    by true e = let h = name_of_number pairs r.bank r.number e in ap (is_pair_of r.bank) h.at ∙ eq-eqb _ _ h.same_bank
    by false e = refl

all_named : (pairs : List Pair) (regs : List Reg) → AreKnown pairs regs → list_all (is_named pairs) regs ≡ true
all_named pairs [] e = refl
all_named pairs (r ∷ regs) e =
    let parts = and_parts (knows_register pairs r) (list_all (knows_register pairs) regs) e in
    ap (λ b. b && list_all (is_named pairs) regs) (known_named pairs r parts.0) ∙ all_named pairs regs parts.1

made_named : (pairs : List Pair) (form : ℕ) (row : Row) (helds : List Held) → list_all (knows_held pairs) helds ≡ true → IsNamed pairs (instr_of form row helds)
unfolding instr_of
made_named pairs form row helds e = record {
  operands_named = all_named pairs (standing (inputs row helds)) (inputs_known pairs row helds e);
  outputs_named = all_named pairs (standing (results row helds)) (results_known pairs row helds e);
}

-- The registers of an instruction that was read are the machine's, or have names.
pub read_named : (table : List Row) (pairs : List Pair) (i : Instr) → IsReadBy table pairs i → IsNamed pairs i
read_named table pairs i r =
    subst (λ (j : Instr). IsNamed pairs j) (judged_is r.fit.form r.kept.row r.fit.helds i r.judges).1
    (made_named pairs r.fit.form r.kept.row r.fit.helds r.known)
