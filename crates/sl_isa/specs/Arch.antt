-- What the calls of an architecture answer, beside what the instruction set says.
use Rattle.std.specs.Prelude.{ℕ, true, zero, suc, ◌≡◌, List, [], ◌∷◌, length, Option, None, Some, if◌then◌else◌}
use Rattle.sl_model.specs.declared.text.Comments.{Comments}
use Rattle.sl_model.specs.declared.text.Comments.TheVariants.{Slash, SlashAt}
use Rattle.sl_model.specs.declared.instruction.Access.{Access}
use Rattle.sl_model.specs.declared.instruction.ArchName.{ArchName}
use Rattle.sl_model.specs.declared.instruction.ArchName.TheVariants.{Arm64, M4}
use Rattle.sl_model.specs.declared.instruction.Instr.{Instr}
use Rattle.sl_model.specs.Source.{operands}
use Rattle.sl_model.specs.Isa.{Isa, op_of}
use Rattle.sl_model.specs.Exec.{has_access, is_store, address_of}
use Rattle.sl_model.specs.Lawful.{fit}
use Rattle.sl_isa.specs.declared.reasons.FormReason.{FormReason}
use Rattle.sl_isa.specs.declared.reasons.FormErr.{FormErr}
use Rattle.sl_isa.specs.declared.reasons.FormErr.TheVariants as error

-- which characters start a comment in the text of an architecture
abbrev pub comments_of : ArchName → Comments
comments_of Arm64 = Slash
comments_of M4 = SlashAt

-- a list in so many places: where it is shorter, the last places are 0
unfoldable pub padded_values : ℕ → List ℕ → List ℕ
padded_values zero values = []
padded_values (suc n) [] = 0 ∷ padded_values n []
padded_values (suc n) (value ∷ values) = value ∷ padded_values n values

-- the access of an instruction whose operands have these values, if its form has one
unfoldable pub access_of : Isa → Instr → List ℕ → Option Access
access_of isa i ins =
    if has_access (isa.info i.form) then
    Some (record {
      store = (isa.info i.form).store;
      address = address_of isa i ins;
      size = (isa.info i.form).size;
    })
    else None

-- the bytes that an instruction stores, none where it is no store
unfoldable pub stored_by : Isa → Instr → List ℕ → List ℕ
stored_by isa i ins = if is_store (isa.info i.form) then isa.stored (op_of i) ins else []

-- Values for the operands of an instruction: one for each, and each fits its register.
pub record AreOperands (isa : Isa) (i : Instr) (ins : List ℕ) : Type 0 where
  pub count : length ins ≡ length (operands i)
  pub fitting : fit isa (operands i) ins ≡ true

-- why words spell no instruction, and nothing for want of memory
abbrev pub reason_of : FormErr → Option FormReason
reason_of (error.Refused reason) = Some reason
reason_of error.NoMemory = None
