-- What the bytes of the files hold: a core, a text, a region, a state; and what a region costs. Source: the format of each file, in the
-- order of its refusals.
use Rattle.std.specs.Prelude.{ℕ, List, Option, None, Some, Result, Ok, Err}
use Rattle.sl_model.specs.declared.instruction.Instr.{Instr}
use Rattle.sl_model.specs.declared.text.CutRefusal.TheVariants as cuts
use Rattle.sl_model.specs.ResultSteps.{◌>>=◌}
use Rattle.sl_model.specs.Text.{bad_line}
use Rattle.sl_model.specs.Cycles.{CostTable}
use Rattle.sl_model.specs.Source.{item_at}
use Rattle.core_text.specs.Core.{CoreTable}
use Rattle.core_text.specs.Reading.{core_from}
use Rattle.core_text.specs.Refusal as core_text
use Rattle.core_models.specs.Costs.{Lacking, costs_of}
use Rattle.sl_isa.specs.Language.{Language}
use Rattle.macro_expand.specs.declared.reasons.ExpandReason.{ExpandReason}
use Rattle.macro_expand.specs.declared.reasons.ExpandReason.TheVariants as expanding
use Rattle.asm_reader.specs.declared.reasons.Reason as reading
use Rattle.asm_reader.specs.declared.reasons.Reason.TheVariants as why
use Rattle.asm_reader.specs.declared.reasons.Refusal.{Refusal}
use Rattle.asm_reader.specs.Reading.{Region, text_region}
use Rattle.state_text.specs.Running.{run_text}
use Rattle.slothy_cli.specs.declared.stop.Reason.TheVariants as reasons
use Rattle.slothy_cli.specs.declared.stop.Quantity.TheVariants as quantities
use Rattle.slothy_cli.specs.declared.stop.Stop.{Stop}
use Rattle.slothy_cli.specs.declared.stop.Stop.TheVariants.{CoreRefused, Refused, TooLarge}
use Rattle.slothy_cli.specs.declared.stop.File.{File}
use Rattle.slothy_cli.specs.declared.stop.File.TheVariants as files
use Rattle.slothy_cli.specs.Command.{Command, Job, line_for, region_wants}

-- a core, or its refusal as a reason to stop
abbrev pub core_or : Result CoreTable core_text.Refusal → Result CoreTable Stop
core_or (Ok core) = Ok core
core_or (Err refusal) = Err (CoreRefused refusal.reason refusal.key)

-- the core of the language's architecture that the bytes of its file tell
unfoldable pub file_core : Language → List ℕ → Result CoreTable Stop
file_core language bytes = core_or (core_from language.isa.name bytes)

-- the bytes of a file, unless a line of it is bad: it holds what is no character
abbrev pub text_or : File → List ℕ → Option ℕ → Result (List ℕ) Stop
text_or file bytes None = Ok bytes
text_or file bytes (Some line) = Err (Refused file line reasons.NotText)

-- the bytes as a text, which is UTF-8
abbrev pub text_from : File → List ℕ → Result (List ℕ) Stop
text_from file bytes = text_or file bytes (bad_line bytes)

-- why a region isn't expanded, as a reason to stop
abbrev pub expand_stop : ℕ → ExpandReason → Stop
expand_stop line expanding.NoEndm = Refused files.Input line reasons.NoEndm
expand_stop line expanding.MacroTwice = Refused files.Input line reasons.MacroTwice
expand_stop line expanding.MacroShape = Refused files.Input line reasons.MacroShape
expand_stop line expanding.ArgCount = Refused files.Input line reasons.ArgCount
expand_stop line expanding.ParamUnknown = Refused files.Input line reasons.ParamUnknown
expand_stop line expanding.AliasTwice = Refused files.Input line reasons.AliasTwice
expand_stop line expanding.AliasUnknown = Refused files.Input line reasons.AliasUnknown
expand_stop line (expanding.Depth limit) = TooLarge files.Input line quantities.Depth limit
expand_stop line (expanding.ExpansionSize limit) =
    TooLarge files.Input line quantities.Expansion limit

-- why a text gives no region, as a reason to stop
abbrev pub stop_at : ℕ → reading.Reason → Stop
stop_at line (why.Cut cuts.NoStart) = Refused files.Input line reasons.NoStart
stop_at line (why.Cut cuts.NoEnd) = Refused files.Input line reasons.NoEnd
stop_at line (why.Cut (cuts.Twice second)) = Refused files.Input line reasons.Twice
stop_at line (why.Expand reason) = expand_stop line reason
stop_at line (why.Form form) = Refused files.Input line (reasons.Form form)
stop_at line why.TagBad = Refused files.Input line reasons.TagBad
stop_at line why.SymbolUnset = Refused files.Input line reasons.SymbolUnset
stop_at line why.NotYet = Refused files.Input line reasons.NotYet
stop_at line (why.TooMany limit) = TooLarge files.Input line quantities.Items limit

-- a region, or its refusal as a reason to stop
abbrev pub region_or : Result Region Refusal → Result Region Stop
region_or (Ok region) = Ok region
region_or (Err refusal) = Err (stop_at refusal.line refusal.reason)

-- the region of a text, between the markers of a command
abbrev pub region_from : Language → Command → List ℕ → Result Region Stop
region_from language c text =
    region_or (text_region language region_wants c.start c.end text)

-- the region of a command's file with these bytes
unfoldable pub file_region : Language → Command → List ℕ → Result Region Stop
file_region language c bytes = do
  text ← text_from files.Input bytes
  region_from language c text

-- what the items of a region cost; or the first whose class has no entry, as a reason to stop
abbrev pub costs_or : Job → Region → Result CostTable Lacking → Result CostTable Stop
costs_or job region (Ok costs) = Ok costs
costs_or job region (Err lacking) =
    Err (Refused files.Input (line_for job (item_at region.items lacking.item).line)
    reasons.ClassMissing)

-- what the items of a job's region cost on a core
unfoldable pub region_costs : Language → Job → CoreTable → Region → Result CostTable Stop
region_costs language job core region =
    costs_or job region (costs_of core language.isa region.items)

-- the text that a run leaves, or the first bad line of the state file
abbrev pub state_or : Result (List ℕ) ℕ → Result (List ℕ) Stop
state_or (Ok text) = Ok text
state_or (Err line) = Err (Refused files.State line reasons.StateBad)

-- what a run answers to the items of a region and the bytes of the state file
unfoldable pub run_answer : Language → List Instr → List ℕ → Result (List ℕ) Stop
run_answer language items bytes = do
  text ← text_from files.State bytes
  state_or (run_text language.isa items text)
