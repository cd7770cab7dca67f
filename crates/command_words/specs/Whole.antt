-- What holds of all that a command asks for. Source: the ranges of this project's own command line.
use Rattle.std.specs.Prelude.{◌≡◌, ◌≢◌, ◌≤◌, ◌<◌, ℕ, Bool, true, false, not, is_some, [], IfSome}
use Rattle.sl_model.specs.declared.limits.TheConstants.{TURNS}
use Rattle.sl_model.specs.declared.register.Bank.{Bank}
use Rattle.sl_model.specs.declared.register.Bank.TheVariants.{General, Vector, Flags, Stack}
use Rattle.sl_model.specs.declared.register.Reg.{Reg}
use Rattle.sl_model.specs.declared.register.RegSet.{RegSet}
use Rattle.sl_model.specs.RegSets.{set_has}
use Rattle.command_words.specs.declared.options.Mode.{Mode}
use Rattle.command_words.specs.declared.options.Mode.TheVariants.{Cost, Opt, Run, Demo}
use Rattle.command_words.specs.declared.options.CoreWord.{CoreWord}
use Rattle.command_words.specs.declared.options.CoreWord.TheVariants.{Plain, File}
use Rattle.command_words.specs.declared.options.Options.{Options}
use Rattle.command_words.specs.declared.options.TheConstants.{LATENCY, MOST_STALLS, MOST_BUDGET, MOST_WORKERS, MOST_COUNT}

-- A latency is from 1 to 255, and the name of a file isn't empty.
abbrev pub IsWholeCore : CoreWord → Type 0
IsWholeCore (Plain latency) = (1 ≤ latency) × (latency ≤ LATENCY)
IsWholeCore (File name) = name ≢ []

-- how many registers of a bank lists may name: `x0` to `x30`, `v0` to `v31`, and the flags
abbrev pub listed_count : Bank → ℕ
listed_count General = 31
listed_count Vector = 32
listed_count Flags = 1
listed_count Stack = 0

-- A set has no other registers than those that lists may name.
abbrev pub IsListedSet : RegSet → Type 0
IsListedSet set = (r : Reg) → set_has set r ≡ true → r.number < listed_count r.bank

-- Does a mode need a core?
abbrev pub needs_core : Mode → Bool
needs_core Cost = true
needs_core Opt = true
needs_core Run = false
needs_core Demo = true

-- What holds of all that a command asks for.
pub record IsWhole (o : Options) : Type 0 where
  -- the input isn't empty
  pub input : o.input ≢ []
  -- there is a core exactly where the mode needs one, and it is in range
  pub needed : is_some o.core ≡ needs_core o.mode
  pub core : IfSome o.core IsWholeCore
  -- there is a state exactly for `run`, and its name isn't empty
  pub runs : is_some o.state ≡ not (needs_core o.mode)
  pub state : IfSome o.state (λ name. name ≢ [])
  -- the labels are not empty, and differ
  pub start : o.start ≢ []
  pub end : o.end ≢ []
  pub differ : o.start ≢ o.end
  -- registers are those that lists may name
  pub live : IfSome o.live IsListedSet
  pub free : IsListedSet o.free
  -- numbers are in their ranges
  pub most : o.most ≤ MOST_STALLS
  pub budget : o.budget ≤ MOST_BUDGET
  pub workers : (1 ≤ o.workers) × (o.workers ≤ MOST_WORKERS)
  pub turns : o.turns ≤ TURNS
  pub count : o.count ≤ MOST_COUNT
