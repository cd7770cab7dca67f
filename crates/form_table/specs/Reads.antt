-- The instruction that the words of a line spell, over any table of rows, or the first reason why
-- they spell none. Source: this project's own format, for the order of the reasons and for the
-- order of an instruction's inputs and outputs.
use Rattle.std.specs.Prelude.{ℕ, ℤ, pos, is_some, unwrap_or, ◌+◌, ◌-◌, ◌+ℤ◌, ◌%◌, ◌==◌, Bool, true, false, not, int_le, unsigned_abs, List, [], ◌∷◌, slice_get, slice_index_or, slice_set, Option, None, Some, Result, Ok, Err, if◌then◌else◌}
use Rattle.std.specs.List.{list_any}
use Rattle.std.specs.Str.{str_eq_ignore_ascii_case}
use Rattle.sl_model.specs.declared.register.Reg.{Reg}
use Rattle.sl_model.specs.declared.instruction.Instr.{Instr}
use Rattle.sl_model.specs.Register.{same_reg}
use Rattle.sl_model.specs.Lawful.{suits_set}
use Rattle.sl_model.specs.Token.{Lexeme}
use Rattle.sl_isa.specs.Steps.{flags_register}
use Rattle.sl_isa.specs.Symbols.{Pair}
use Rattle.form_table.specs.Items.{Item, items_from}
use Rattle.sl_model.specs.TokenTests.{is_word, marks, touches}
use Rattle.form_table.specs.Rows.{row_operands, mnemonic_text}
use Rattle.form_table.specs.Spells.{empty, fill}
use Rattle.form_table.specs.declared.rows.Role.{Role}
use Rattle.form_table.specs.declared.rows.Role.TheVariants.{In, Out, Tied, Base, Back}
use Rattle.form_table.specs.declared.rows.Range.{Range}
use Rattle.form_table.specs.declared.rows.Operand.{Operand}
use Rattle.form_table.specs.declared.rows.Alias.{Alias}
use Rattle.form_table.specs.declared.rows.Alias.TheVariants as alias
use Rattle.form_table.specs.declared.rows.Sum.{Sum}
use Rattle.form_table.specs.declared.rows.Sum.TheVariants as sum
use Rattle.form_table.specs.declared.rows.Row.{Row}
use Rattle.sl_isa.specs.declared.reasons.FormReason.{FormReason}
use Rattle.sl_isa.specs.declared.reasons.FormReason.TheVariants.{UnknownMnemonic, BadOperand, ImmediateRange, RegisterClass, SameRegister}
use Rattle.form_table.specs.declared.spells.Held.{Held}
use Rattle.form_table.specs.declared.reader.Fit.{Fit}
use Rattle.form_table.specs.declared.reader.Pick.{Pick}
use Rattle.form_table.specs.declared.reader.Pick.TheVariants as pick

-- Has a row this mnemonic, in letters of either case?
abbrev pub has_mnemonic : List ℕ → Row → Bool
has_mnemonic text row = str_eq_ignore_ascii_case text (mnemonic_text row)

-- what the operands of a row hold, if it has the mnemonic and takes the items
abbrev pub fit_row : List ℕ → List Item → Row → Option (List Held)
fit_row text items row = if has_mnemonic text row then fill row items else None

-- a form with what its operands hold, where these are known, else what a later row gives
abbrev pub fit_or : ℕ → Option (List Held) → Option Fit → Option Fit
fit_or form (Some helds) later = Some (record { form = form; helds = helds })
fit_or form None later = later

-- the row of this mnemonic that takes the items, among rows that are numbered from one on
unfoldable pub fit_from : ℕ → List Row → List ℕ → List Item → Option Fit
fit_from form [] text items = None
fit_from form (row ∷ rows) text items =
    fit_or form (fit_row text items row) (fit_from (form + 1) rows text items)

-- what an operand holds
abbrev pub held_at : List Held → ℕ → Held
held_at helds place = slice_index_or helds place empty

-- Is there a number, and is it 0?
abbrev pub is_zero : Option ℤ → Bool
is_zero None = false
is_zero (Some n) = unsigned_abs n == 0

-- what operands hold without the number of one of them
abbrev pub without_number : List Held → ℕ → List Held
without_number helds place =
    slice_set helds place (record { register = (held_at helds place).register; number = None })

-- what operands hold where the first of them stands twice
abbrev pub twice_first : List Held → List Held
twice_first helds =
    held_at helds 0 ∷ held_at helds 0 ∷ held_at helds 1 ∷ held_at helds 2 ∷ held_at helds 3 ∷ []

-- the form that is kept where the number of the operand at a place is 0
abbrev pub without_zero : ℕ → ℕ → Fit → Fit
without_zero form place fit =
    if is_zero (held_at fit.helds place).number
    then record { form = form; helds = without_number fit.helds place }
    else fit

-- the form under which a spelling is kept, with what that form's operands hold
unfoldable pub settled : Alias → Fit → Fit
settled alias.Own fit = fit
settled (alias.As form) fit = record { form = form; helds = fit.helds }
settled (alias.Repeat form) fit = record { form = form; helds = twice_first fit.helds }
settled (alias.ZeroAs form place) fit = without_zero form place fit

-- Is a number a multiple of a step?
abbrev pub is_multiple : ℕ → ℕ → Bool
is_multiple step n = if step == 0 then false else n % step == 0

-- Is a number one of a range?
unfoldable pub in_range : Range → ℤ → Bool
in_range range n =
    if int_le range.least n
    then (if int_le n range.most then is_multiple range.step (unsigned_abs n) else false)
    else false

-- Does an operand take the number that it holds, if it holds one?
abbrev pub number_suits : Operand → Option ℤ → Bool
number_suits operand None = true
number_suits operand (Some n) = in_range operand.range n

-- Do operands take the numbers that they hold?
unfoldable pub numbers_suit : List Operand → List Held → Bool
numbers_suit [] helds = true
numbers_suit (operand ∷ operands) [] = true
numbers_suit (operand ∷ operands) (held ∷ helds) =
    if number_suits operand held.number then numbers_suit operands helds else false

-- Does an operand take the register that it holds, if it holds one?
abbrev pub register_suits : Operand → Option Reg → Bool
register_suits operand None = true
register_suits operand (Some r) = suits_set (r, operand.class)

-- Do they take the registers?
unfoldable pub registers_suit : List Operand → List Held → Bool
registers_suit [] helds = true
registers_suit (operand ∷ operands) [] = true
registers_suit (operand ∷ operands) (held ∷ helds) =
    if register_suits operand held.register then registers_suit operands helds else false

-- Which roles are picked: inputs where they stand, which are data or bases; inputs that come
-- last; outputs that come first; and a base that is written back.
abbrev pub is_picked : Pick → Role → Bool
is_picked pick.Read In = true
is_picked pick.Read Base = true
is_picked pick.Read Back = true
is_picked pick.Data In = true
is_picked pick.Base Base = true
is_picked pick.Base Back = true
is_picked pick.Tied Tied = true
is_picked pick.Written Out = true
is_picked pick.Written Tied = true
is_picked pick.Back Back = true
is_picked _ _ = false

-- a register among others
abbrev pub kept : Bool → Option Reg → List Reg → List Reg
kept false r regs = regs
kept true None regs = regs
kept true (Some r) regs = r ∷ regs

-- the registers of the operands whose roles are picked, in their order
unfoldable pub picked : Pick → List Operand → List Held → List Reg
picked pick [] helds = []
picked pick (operand ∷ operands) [] = []
picked pick (operand ∷ operands) (held ∷ helds) =
    kept (is_picked pick operand.role) held.register (picked pick operands helds)

-- a register in the first place that is free
unfoldable pub placed : List (Option Reg) → Reg → List (Option Reg)
placed [] r = []
placed (None ∷ places) r = Some r ∷ places
placed (Some q ∷ places) r = Some q ∷ placed places r

-- registers, one after the other
unfoldable pub all_placed : List (Option Reg) → List Reg → List (Option Reg)
all_placed places [] = places
all_placed places (r ∷ regs) = all_placed (placed places r) regs

-- the flags, placed where an instruction has them
abbrev pub flags_placed : List (Option Reg) → Bool → List (Option Reg)
flags_placed places false = places
flags_placed places true = placed places flags_register

-- the inputs: in the order of the spelling, then the tied ones, then the flags
unfoldable pub inputs : Row → List Held → List (Option Reg)
inputs row helds =
    flags_placed (all_placed
    (all_placed (None ∷ None ∷ None ∷ None ∷ []) (picked pick.Read (row_operands row) helds))
    (picked pick.Tied (row_operands row) helds)) row.reads_flags

-- the outputs: in the order of the spelling, then a base that is written back, then the flags
unfoldable pub results : Row → List Held → List (Option Reg)
results row helds =
    flags_placed (all_placed
    (all_placed (None ∷ None ∷ None ∷ []) (picked pick.Written (row_operands row) helds))
    (picked pick.Back (row_operands row) helds)) row.sets_flags

-- the number of operands that stands at a place, counted from 0, and 0 where there are fewer
unfoldable pub number_at : ℕ → List Held → ℤ
number_at place [] = pos 0
number_at place (held ∷ helds) =
    if is_some held.number
    then (if place == 0 then unwrap_or held.number (pos 0) else number_at (place - 1) helds)
    else number_at place helds

-- an instruction of a row, without line and tag, and neither early nor late
unfoldable pub instr_of : ℕ → Row → List Held → Instr
instr_of form row helds = record {
  form = form;
  wide = false;
  imms = number_at 0 helds ∷ number_at 1 helds ∷ number_at 2 helds ∷ [];
  ins = inputs row helds;
  outs = results row helds;
  tag = None;
  early = false;
  late = false;
  line = 0;
}

-- Does a register stand among places?
unfoldable pub stands_in : Reg → List (Option Reg) → Bool
stands_in r [] = false
stands_in r (None ∷ places) = stands_in r places
stands_in r (Some q ∷ places) = if same_reg q r then true else stands_in r places

-- Is there a register, and does it stand among places?
abbrev pub optional_stands_in : Option Reg → List (Option Reg) → Bool
optional_stands_in None places = false
optional_stands_in (Some r) places = stands_in r places

-- Does a register stand at two places?
unfoldable pub repeats : List (Option Reg) → Bool
repeats [] = false
repeats (r ∷ places) = if optional_stands_in r places then true else repeats places

-- Is a base that is written back also an operand of another kind? The first place is the base's.
abbrev pub base_repeats : List (Option Reg) → List (Option Reg) → Bool
base_repeats [] others = false
base_repeats (base ∷ bases) others = optional_stands_in base others

-- Is a base that a row writes back also an input that is no base?
unfoldable pub shares_base : Row → List Held → Bool
shares_base row helds =
    base_repeats (all_placed (None ∷ []) (picked pick.Back (row_operands row) helds))
    (all_placed (None ∷ None ∷ None ∷ None ∷ []) (picked pick.Data (row_operands row) helds))

-- Does a row take the sum of the first two numbers?
abbrev pub sum_suits : Sum → ℤ → ℤ → Bool
sum_suits sum.Free a b = true
sum_suits (sum.AtMost most) a b = int_le (a +ℤ b) (pos most)

-- the instruction of a row whose operands hold these, or the first reason why there is none
unfoldable pub judged : ℕ → Row → List Held → Result Instr FormReason
judged form row helds =
    if not (numbers_suit (row_operands row) helds) then Err ImmediateRange
    else (if not (sum_suits row.sum (number_at 0 helds) (number_at 1 helds)) then Err ImmediateRange
    else (if not (registers_suit (row_operands row) helds) then Err RegisterClass
    else (if repeats (results row helds) then Err SameRegister
    else (if shares_base row helds then Err SameRegister else Ok (instr_of form row helds)))))

-- the same where the row may be missing
abbrev pub judged_at : Option Row → Fit → Result Instr FormReason
judged_at None fit = Err BadOperand
judged_at (Some row) fit = judged fit.form row fit.helds

-- the form under which a spelling of a row is kept, where there is the row
abbrev pub settled_at : Option Row → Fit → Fit
settled_at None fit = fit
settled_at (Some row) fit = settled row.alias fit

-- what is read of a row that fits, under the form that keeps its spelling
abbrev pub with_fit : List Row → Option Fit → Result Instr FormReason
with_fit table None = Err BadOperand
with_fit table (Some fit) =
    judged_at (slice_get table (settled_at (slice_get table fit.form) fit).form)
    (settled_at (slice_get table fit.form) fit)

-- Do a dot and a word stand directly behind a word? Then they belong to the mnemonic.
unfoldable pub is_suffixed : Lexeme → List Lexeme → Bool
is_suffixed first [] = false
is_suffixed first (dot ∷ []) = false
is_suffixed first (dot ∷ word ∷ tokens) =
    if marks 46 dot then
    (if is_word word.kind then (if touches first dot then touches dot word else false) else false)
    else false

-- Is this a mnemonic of the table, with what stands behind it?
abbrev pub knows : List Row → Lexeme → List Lexeme → Bool
knows table first tokens =
    if is_word first.kind
    then (if is_suffixed first tokens then false else list_any (has_mnemonic first.text) table)
    else false

-- the instruction that the tokens of a line spell, without comments, where symbolic registers have
-- the numbers of these pairs, or the first reason why they spell none
unfoldable pub reads : List Row → List Pair → List Lexeme → Result Instr FormReason
reads table pairs [] = Err UnknownMnemonic
reads table pairs (first ∷ tokens) =
    if knows table first tokens
    then with_fit table (fit_from 0 table first.text (items_from pairs first 0 tokens))
    else Err UnknownMnemonic
