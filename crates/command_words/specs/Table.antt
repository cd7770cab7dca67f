-- The options, and which mode takes them. Source: this project's own command line.
use Rattle.std.specs.Prelude.{ℕ, Bool, true, not, is_some, List, [], ◌∷◌, map, codes, Option}
use Rattle.std.specs.List.{list_all}
use Rattle.command_words.specs.declared.options.Mode.{Mode}
use Rattle.command_words.specs.declared.options.Mode.TheVariants.{Cost, Opt, Run, Demo}
use Rattle.command_words.specs.declared.table.Use.{Use}
use Rattle.command_words.specs.declared.table.Use.TheVariants.{Refused, Taken, Required}

-- a text, as the list of its bytes
abbrev pub Text : Type 0
Text = List ℕ

-- an option, and what each mode makes of it
pub record OptionLine : Type 0 where
  pub name : Text
  pub cost : Use
  pub opt : Use
  pub run : Use
  pub demo : Use

-- an option with its uses by `cost`, `opt`, `run` and `demo`
abbrev pub line : Text → Use → Use → Use → Use → OptionLine
line name cost opt run demo =
    record { name = name; cost = cost; opt = opt; run = run; demo = demo }

-- all options: their uses by `cost`, `opt`, `run` and `demo`
unfoldable pub option_lines : List OptionLine
option_lines =
    line (codes "arch") Taken Taken Taken Taken
    ∷ line (codes "core") Required Required Refused Required
    ∷ line (codes "start") Taken Taken Taken Refused
    ∷ line (codes "end") Taken Taken Taken Refused
    ∷ line (codes "live") Refused Taken Refused Refused
    ∷ line (codes "free") Refused Taken Refused Refused
    ∷ line (codes "max-stalls") Refused Taken Refused Taken
    ∷ line (codes "budget") Refused Taken Refused Taken
    ∷ line (codes "workers") Refused Taken Refused Taken
    ∷ line (codes "state") Refused Refused Required Refused
    ∷ line (codes "turns") Refused Refused Taken Refused
    ∷ line (codes "key") Refused Refused Refused Required
    ∷ line (codes "count") Refused Refused Refused Required
    ∷ []

-- their names
unfoldable pub option_names : List Text
option_names = map (λ line. line.name) option_lines

-- what a mode makes of an option
abbrev pub use_by : Mode → OptionLine → Use
use_by Cost line = line.cost
use_by Opt line = line.opt
use_by Run line = line.run
use_by Demo line = line.demo

-- Is a use kept, where the option is said or not?
abbrev pub keeps : Use → Bool → Bool
keeps Refused said = not said
keeps Taken said = true
keeps Required said = said

-- Does a mode take what is said, and is all said that it needs?
unfoldable pub suits : Mode → (Text → Option Text) → Bool
suits mode look =
    list_all (λ line. keeps (use_by mode line) (is_some (look line.name))) option_lines
