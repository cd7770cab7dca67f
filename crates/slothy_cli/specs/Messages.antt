-- The status of each ending, and the line that it puts on standard error.
use Rattle.std.specs.Prelude.{ℕ, List, [], ◌∷◌, codes}
use Rattle.std.specs.Fmt.{decimal}
use Rattle.sl_model.specs.Text.{joined}
use Rattle.core_text.specs.declared.reasons.CoreReason.{CoreReason}
use Rattle.core_text.specs.declared.reasons.CoreReason.TheVariants as cores
use Rattle.sl_isa.specs.declared.reasons.FormReason.{FormReason}
use Rattle.sl_isa.specs.declared.reasons.FormReason.TheVariants as forms
use Rattle.slothy_cli.specs.declared.stop.Reason.{Reason}
use Rattle.slothy_cli.specs.declared.stop.Reason.TheVariants as reasons
use Rattle.slothy_cli.specs.declared.stop.File.{File}
use Rattle.slothy_cli.specs.declared.stop.File.TheVariants as files
use Rattle.slothy_cli.specs.declared.stop.Quantity.{Quantity}
use Rattle.slothy_cli.specs.declared.stop.Quantity.TheVariants as quantities
use Rattle.slothy_cli.specs.declared.stop.Stop.{Stop}
use Rattle.slothy_cli.specs.declared.stop.Stop.TheVariants as stops
use Rattle.slothy_cli.specs.declared.status.Status.{Status}
use Rattle.slothy_cli.specs.declared.status.Status.TheVariants as statuses
use Rattle.slothy_cli.specs.declared.status.Ending.{Ending}
use Rattle.slothy_cli.specs.declared.status.Ending.TheVariants as endings

-- the number that the program ends with
abbrev pub code_of : Status → ℕ
code_of statuses.Done = 0
code_of statuses.Infeasible = 1
code_of statuses.Usage = 2
code_of statuses.Refused = 3
code_of statuses.Budget = 4
code_of statuses.ReadFault = 5
code_of statuses.WriteFault = 6
code_of statuses.NoMemory = 7
code_of statuses.CheckNo = 8
code_of statuses.TooLarge = 9
code_of statuses.TurnsSpent = 10

-- the status of a reason to stop
abbrev pub stop_status : Stop → Status
stop_status (stops.CoreRefused reason key) = statuses.Refused
stop_status (stops.Refused file line reason) = statuses.Refused
stop_status (stops.TooLarge file line quantity limit) = statuses.TooLarge
stop_status (stops.Infeasible most) = statuses.Infeasible
stop_status (stops.Budget level tree) = statuses.Budget

-- the status of an ending
abbrev pub status_of : Ending → Status
status_of endings.Done = statuses.Done
status_of endings.Usage = statuses.Usage
status_of (endings.Stopped stop) = stop_status stop
status_of (endings.ReadFault file) = statuses.ReadFault
status_of (endings.WriteFault sent) = statuses.WriteFault
status_of endings.NoMemory = statuses.NoMemory

-- the word for what is wrong with an instruction
abbrev pub form_text : FormReason → List ℕ
form_text forms.UnknownMnemonic = codes "UnknownMnemonic"
form_text forms.BadOperand = codes "BadOperand"
form_text forms.ImmediateRange = codes "ImmediateRange"
form_text forms.RegisterClass = codes "RegisterClass"
form_text forms.SameRegister = codes "SameRegister"

-- the word for what is wrong with a core table
abbrev pub core_reason_text : CoreReason → List ℕ
core_reason_text cores.NotToml = codes "NotToml"
core_reason_text cores.Missing = codes "Missing"
core_reason_text cores.KeyUnknown = codes "KeyUnknown"
core_reason_text cores.UnitUnknown = codes "UnitUnknown"
core_reason_text cores.ClassUnknown = codes "ClassUnknown"
core_reason_text cores.NumberRange = codes "NumberRange"
core_reason_text cores.NameBad = codes "NameBad"
core_reason_text cores.Twice = codes "Twice"
core_reason_text cores.ArchOther = codes "ArchOther"

-- the word for why a file is refused
abbrev pub reason_text : Reason → List ℕ
reason_text reasons.NotText = codes "NotText"
reason_text reasons.NoStart = codes "NoStart"
reason_text reasons.NoEnd = codes "NoEnd"
reason_text reasons.Twice = codes "Twice"
reason_text reasons.NoEndm = codes "NoEndm"
reason_text reasons.MacroTwice = codes "MacroTwice"
reason_text reasons.MacroShape = codes "MacroShape"
reason_text reasons.ArgCount = codes "ArgCount"
reason_text reasons.ParamUnknown = codes "ParamUnknown"
reason_text reasons.AliasTwice = codes "AliasTwice"
reason_text reasons.AliasUnknown = codes "AliasUnknown"
reason_text reasons.TagBad = codes "TagBad"
reason_text reasons.SymbolUnset = codes "SymbolUnset"
reason_text reasons.NotYet = codes "NotYet"
reason_text (reasons.Form form) = form_text form
reason_text reasons.StateBad = codes "StateBad"
reason_text reasons.ClassMissing = codes "ClassMissing"

-- the word for what there is too much of
abbrev pub quantity_text : Quantity → List ℕ
quantity_text quantities.File = codes "file"
quantity_text quantities.Items = codes "items"
quantity_text quantities.Depth = codes "depth"
quantity_text quantities.Expansion = codes "expansion"
quantity_text quantities.Trees = codes "trees"

-- the names of a command's files
pub record Names : Type 0 where
  pub core : List ℕ
  pub input : List ℕ
  pub state : List ℕ

-- the name of one of a command's files
abbrev pub name_in : Names → File → List ℕ
name_in names files.Core = names.core
name_in names files.Input = names.input
name_in names files.State = names.state

-- what stands before a key: a blank, and nothing before an empty one
abbrev pub key_gap : List ℕ → List ℕ
key_gap [] = []
key_gap (c ∷ key) = codes " "

-- the line that says why a file has no text
abbrev pub stop_message : Names → Stop → List ℕ
stop_message names (stops.CoreRefused reason key) =
    joined (codes "slothy: " ∷ name_in names files.Core ∷ codes ": refused: " ∷ core_reason_text reason
    ∷ key_gap key ∷ key ∷ codes "\n" ∷ [])
stop_message names (stops.Refused file line reason) =
    joined (codes "slothy: " ∷ name_in names file ∷ codes ":" ∷ decimal line ∷ codes ": refused: "
    ∷ reason_text reason ∷ codes "\n" ∷ [])
stop_message names (stops.TooLarge file line quantity limit) =
    joined (codes "slothy: " ∷ name_in names file ∷ codes ":" ∷ decimal line ∷ codes ": too large: "
    ∷ quantity_text quantity ∷ codes " limit=" ∷ decimal limit ∷ codes "\n" ∷ [])
stop_message names (stops.Infeasible most) =
    joined (codes "slothy: infeasible up to " ∷ decimal most ∷ codes " stalls\n" ∷ [])
stop_message names (stops.Budget level tree) =
    joined (codes "slothy: budget: level=" ∷ decimal level ∷ codes " tree=" ∷ decimal tree
    ∷ codes "\n" ∷ [])

-- the line on standard error of an ending, where the files have these names;
-- there is none where all went well
unfoldable pub message_of : Names → Ending → List ℕ
message_of names endings.Done = joined []
message_of names endings.Usage =
    joined (codes "slothy: usage: slothy MODE [INPUT] [OPTIONS]\n" ∷ [])
message_of names (endings.Stopped stop) = stop_message names stop
message_of names (endings.ReadFault file) =
    joined (codes "slothy: read fault: " ∷ name_in names file ∷ codes "\n" ∷ [])
message_of names (endings.WriteFault sent) =
    joined (codes "slothy: write fault after " ∷ decimal sent ∷ codes " bytes\n" ∷ [])
message_of names endings.NoMemory = joined (codes "slothy: no memory\n" ∷ [])
