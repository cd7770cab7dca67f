-- What a row says of its form: the registers of its operands and outputs, which outputs are
-- tied, and its access. Source: this project's own format.
use Rattle.std.specs.Prelude.{ℕ, ◌+◌, ◌^◌, Bool, true, false, zero, suc, List, [], ◌∷◌, ◌++◌, length, map, slice_get, Option, None, Some, if◌then◌else◌}
use Rattle.sl_model.specs.declared.register.RegSet.{RegSet}
use Rattle.sl_model.specs.declared.instruction.FormInfo.{FormInfo}
use Rattle.sl_isa.specs.declared.meaning.Meaning.{Meaning}
use Rattle.sl_isa.specs.declared.meaning.Meaning.TheVariants as meaning
use Rattle.form_table.specs.Rows.{row_operands}
use Rattle.form_table.specs.Reads.{is_picked}
use Rattle.form_table.specs.Printed.{has_register}
use Rattle.form_table.specs.declared.rows.Operand.{Operand}
use Rattle.form_table.specs.declared.rows.Row.{Row}
use Rattle.form_table.specs.declared.reader.Pick.{Pick}
use Rattle.form_table.specs.declared.reader.Pick.TheVariants as pick
use Rattle.form_isa.specs.Access.{transfer_size}

-- the class of no register
abbrev pub no_register : RegSet
no_register = record { bits = 0 }

-- the class of the flags
abbrev pub the_flags : RegSet
the_flags = record { bits = 2 ^ 64 }

-- Has an operand a register, in one of the roles that are picked?
abbrev pub is_taken : Pick → Operand → Bool
is_taken pick operand = if has_register operand.shape then is_picked pick operand.role else false

-- the classes of the operands whose roles are picked, in their order
unfoldable pub classes : Pick → List Operand → List RegSet
classes pick [] = []
classes pick (operand ∷ operands) =
    if is_taken pick operand then operand.class ∷ classes pick operands else classes pick operands

-- the flags, where there are any
abbrev pub flags_if : Bool → List RegSet
flags_if false = []
flags_if true = the_flags ∷ []

-- the classes of a row's inputs, in the order of an instruction's registers
unfoldable pub input_classes : Row → List RegSet
input_classes row =
    classes pick.Read (row_operands row)
    ++ (classes pick.Tied (row_operands row) ++ flags_if row.reads_flags)

-- the classes of its outputs, in their order
unfoldable pub output_classes : Row → List RegSet
output_classes row =
    classes pick.Written (row_operands row)
    ++ (classes pick.Back (row_operands row) ++ flags_if row.sets_flags)

-- classes in so many places, and none in the last ones
unfoldable pub padded_classes : ℕ → List RegSet → List RegSet
padded_classes zero sets = []
padded_classes (suc n) [] = no_register ∷ padded_classes n []
padded_classes (suc n) (set ∷ sets) = set ∷ padded_classes n sets

-- the inputs that the outputs are tied to, where the next tied input has a number
unfoldable pub ties : ℕ → List Operand → List (Option ℕ)
ties next [] = []
ties next (operand ∷ operands) =
    if is_taken pick.Tied operand then Some next ∷ ties (next + 1) operands
    else (if is_taken pick.Written operand then None ∷ ties next operands else ties next operands)

-- the places of operands whose roles are picked, counted among the inputs from a place on
unfoldable pub places_of : Pick → ℕ → List Operand → List ℕ
places_of which place [] = []
places_of which place (operand ∷ operands) =
    if is_taken which operand then place ∷ places_of which (place + 1) operands
    else (if is_taken pick.Read operand then places_of which (place + 1) operands
    else places_of which place operands)

-- the inputs that all outputs are tied to: a base that is written back stands behind the others
unfoldable pub all_ties : List Operand → List (Option ℕ)
all_ties operands =
    ties (length (classes pick.Read operands)) operands
    ++ map (λ place. Some place) (places_of pick.Back 0 operands)

-- the place of a written-back base among the outputs, where so many are written before it
abbrev pub back_place : List RegSet → ℕ → Option ℕ
back_place [] written = None
back_place (set ∷ sets) written = Some written

-- the bytes of the access of a meaning
abbrev pub size_of : Meaning → ℕ
size_of (meaning.Scalar op size) = 0
size_of (meaning.Vector op) = 0
size_of (meaning.Word op) = 0
size_of (meaning.Copy b) = 0
size_of (meaning.Memory transfer) = transfer_size transfer

-- Does a meaning store?
abbrev pub stores : Meaning → Bool
stores (meaning.Scalar op size) = false
stores (meaning.Vector op) = false
stores (meaning.Word op) = false
stores (meaning.Copy b) = false
stores (meaning.Memory transfer) = transfer.store

-- ties of so many outputs, where the last ones have none
unfoldable pub padded_ties : ℕ → List (Option ℕ) → List (Option ℕ)
padded_ties zero places = []
padded_ties (suc n) [] = None ∷ padded_ties n []
padded_ties (suc n) (place ∷ places) = place ∷ padded_ties n places

-- what a row says of its form
unfoldable pub info_of : Row → FormInfo
info_of row = record {
  class = row.class;
  in_sets = padded_classes 4 (input_classes row);
  out_sets = padded_classes 3 (output_classes row);
  tied = padded_ties 3 (all_ties (row_operands row));
  back =
      back_place (classes pick.Back (row_operands row))
      (length (classes pick.Written (row_operands row)));
  base = slice_get (places_of pick.Base 0 (row_operands row)) 0;
  store = stores row.meaning;
  size = size_of row.meaning;
}

-- and of a form that isn't there
abbrev pub no_info : FormInfo
no_info = record {
  class = 0;
  in_sets = padded_classes 4 [];
  out_sets = padded_classes 3 [];
  tied = padded_ties 3 [];
  back = None;
  base = None;
  store = false;
  size = 0;
}

-- what is said of a form whose row may be missing
abbrev pub info_at : Option Row → FormInfo
info_at None = no_info
info_at (Some row) = info_of row
