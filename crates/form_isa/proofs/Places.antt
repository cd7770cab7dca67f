-- Registers in so many places.
use Rattle.std.proofs.Common.{◌≡◌, ◌∙◌, sym, ap, refl, ℕ, zero, suc, ◌+◌, ◌≤◌, Bool, true, false, cond, not, ◌&&◌, List, [], ◌∷◌, ◌++◌, length, arith}
use Rattle.std.specs.Prelude.{Some, None, is_some}
use Rattle.std.proofs.lemmas.List.{append_assoc, append-nil}
use Rattle.sl_model.specs.declared.register.Reg.{Reg}
use Rattle.sl_model.specs.Register.{same_reg}
use Rattle.sl_model.specs.Source.{padded, place_from}
use Rattle.sl_model.specs.Body.{all_differ}
use Rattle.sl_isa.specs.Steps.{flags_register}
use Rattle.form_table.specs.Rows.{row_operands}
use Rattle.form_table.specs.Reads.{picked, placed, all_placed, flags_placed, inputs, results, stands_in, repeats}
use Rattle.form_table.specs.declared.rows.Row.{Row}
use Rattle.form_table.specs.declared.spells.Held.{Held}
use Rattle.form_table.specs.declared.reader.Pick.TheVariants as pick
use Rattle.sl_laws.proofs.Tests.{neither_parts}

-- one more stands behind them, if there is a place
placed-padded : (n : ℕ) (regs : List Reg) (r : Reg) → placed (padded n regs) r ≡ padded n (regs ++ r ∷ [])
unfolding placed
placed-padded zero regs r = refl
placed-padded (suc n) [] r = refl
placed-padded (suc n) (q ∷ regs) r = ap (λ places. Some q ∷ places) (placed-padded n regs r)

pub all_placed-padded : (n : ℕ) (regs more : List Reg) → all_placed (padded n regs) more ≡ padded n (regs ++ more)
unfolding all_placed
all_placed-padded n regs [] = ap (padded n) (sym (append-nil regs))
all_placed-padded n regs (r ∷ more) =
    ap (λ places. all_placed places more) (placed-padded n regs r)
    ∙ (all_placed-padded n (regs ++ r ∷ []) more ∙ ap (padded n) (append_assoc regs (r ∷ []) more))

-- the flags as registers
abbrev pub flags_among : Bool → List Reg
flags_among false = []
flags_among true = flags_register ∷ []

flags_placed-padded : (n : ℕ) (regs : List Reg) (wanted : Bool) →
    flags_placed (padded n regs) wanted ≡ padded n (regs ++ flags_among wanted)
flags_placed-padded n regs false = ap (padded n) (sym (append-nil regs))
flags_placed-padded n regs true = placed-padded n regs flags_register

three-placed : (n : ℕ) (first second : List Reg) (wanted : Bool) →
    flags_placed (all_placed (all_placed (padded n []) first) second) wanted ≡ padded n (first ++ (second ++ flags_among wanted))
three-placed n first second wanted =
    ap (λ places. flags_placed (all_placed places second) wanted) (all_placed-padded n [] first)
    ∙ (ap (λ places. flags_placed places wanted) (all_placed-padded n first second)
    ∙ (flags_placed-padded n (first ++ second) wanted ∙ ap (padded n) (append_assoc first second (flags_among wanted))))

-- the registers that are read, and those that are written
abbrev pub read_regs : Row → List Held → List Reg
read_regs row helds =
    picked pick.Read (row_operands row) helds ++ (picked pick.Tied (row_operands row) helds ++ flags_among row.reads_flags)

abbrev pub written_regs : Row → List Held → List Reg
written_regs row helds =
    picked pick.Written (row_operands row) helds ++ (picked pick.Back (row_operands row) helds ++ flags_among row.sets_flags)

pub inputs-padded : (row : Row) (helds : List Held) → inputs row helds ≡ padded 4 (read_regs row helds)
unfolding inputs
inputs-padded row helds =
    three-placed 4 (picked pick.Read (row_operands row) helds) (picked pick.Tied (row_operands row) helds) row.reads_flags

pub results-padded : (row : Row) (helds : List Held) → results row helds ≡ padded 3 (written_regs row helds)
unfolding results
results-padded row helds =
    three-placed 3 (picked pick.Written (row_operands row) helds) (picked pick.Back (row_operands row) helds) row.sets_flags

-- a register that stands at no place has none
no-place : (n : ℕ) (r : Reg) (regs : List Reg) (from : ℕ) → length regs ≤ n → stands_in r (padded n regs) ≡ false →
    place_from from r regs ≡ None
unfolding stands_in place_from
no-place n r [] from few e = refl
no-place zero r (q ∷ regs) from few e = absurd (omega arith)
no-place (suc n) r (q ∷ regs) from few e =
    let parts = neither_parts (same_reg q r) (stands_in r (padded n regs)) e in
    ap (λ b. cond b (Some from) (place_from (from + 1) r regs)) parts.0 ∙ no-place n r regs (from + 1) (omega arith) parts.1

-- Registers of which none stands at two places differ.
pub repeats-differ : (n : ℕ) (regs : List Reg) → length regs ≤ n → repeats (padded n regs) ≡ false → all_differ regs ≡ true
unfolding repeats all_differ
repeats-differ n [] few e = refl
repeats-differ zero (r ∷ regs) few e = absurd (omega arith)
repeats-differ (suc n) (r ∷ regs) few e =
    let parts = neither_parts (stands_in r (padded n regs)) (repeats (padded n regs)) e in
    let less : length regs ≤ n = omega arith in
    ap (λ o. not (is_some o) && all_differ regs) (no-place n r regs 0 less parts.0) ∙ repeats-differ n regs less parts.1
