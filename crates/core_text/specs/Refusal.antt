-- Why a core table is refused, and at which key. Source: this project's own core tables.
use Rattle.std.specs.Prelude.{ℕ, Bool, true, false, List, Option, None, Some, Result, Ok, Err}
use Rattle.core_text.specs.declared.reasons.CoreReason.{CoreReason}
use Rattle.core_text.specs.declared.reasons.CoreErr.{CoreErr}
use Rattle.core_text.specs.declared.reasons.CoreErr.TheVariants.{Refused, NoMemory}

-- a text, by its bytes
abbrev pub Text : Type 0
Text = List ℕ

-- a reason, and the key that is named beside it
pub record Refusal : Type 0 where
  pub reason : CoreReason
  pub key : Text

-- a refusal in place of what was to be read
abbrev pub refuse : {X : Type 0} → CoreReason → Text → Result X Refusal
refuse reason key = Err (record { reason = reason; key = key })

-- what is there, or a refusal
abbrev pub or_refused : {X : Type 0} → CoreReason → Text → Option X → Result X Refusal
or_refused reason key None = refuse reason key
or_refused reason key (Some x) = Ok x

-- a refusal where a test fails
abbrev pub allowed : Bool → CoreReason → Text → Result (Unit {0}) Refusal
allowed true reason key = Ok tt
allowed false reason key = refuse reason key

-- the refusal that a failure is: want of memory is none
abbrev pub refusal_of : CoreErr → Option Refusal
refusal_of (Refused reason key) = Some (record { reason = reason; key = key })
refusal_of NoMemory = None
