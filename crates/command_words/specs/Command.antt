-- What the words of a command ask for. Source: this project's own command line; names of registers
-- are those of DDI 0487 (A64) and DDI 0403 (Armv7-M).
use Rattle.std.specs.Prelude.{ℕ, Bool, true, false, ◌==◌, ◌||◌, ◌-◌, ◌^◌, nat_eq, nat_le, List, [], ◌∷◌, length, drop, codes, Option, None, Some, Result, Ok, Err, if◌then◌else◌}
use Rattle.std.specs.List.{starts_with, list_all, slice_split}
use Rattle.std.specs.Str.{bytes_eq}
use Rattle.std.specs.Char.{is_ascii_alphabetic, is_ascii_alphanumeric}
use Rattle.sl_model.specs.declared.instruction.ArchName.{ArchName}
use Rattle.sl_model.specs.declared.instruction.ArchName.TheVariants.{Arm64, M4}
use Rattle.sl_model.specs.declared.limits.TheConstants.{STALLS, TURNS}
use Rattle.sl_model.specs.declared.register.Bank.{Bank}
use Rattle.sl_model.specs.declared.register.Bank.TheVariants.{General, Vector, Flags, Stack}
use Rattle.sl_model.specs.declared.register.Reg.{Reg}
use Rattle.sl_model.specs.declared.register.RegSet.{RegSet}
use Rattle.sl_model.specs.Digits.{decimal_number}
use Rattle.sl_model.specs.RegisterNames.{register_in, register_named}
use Rattle.sl_model.specs.RegSets.{set_of}
use Rattle.sl_model.specs.ResultSteps.{◌>>=◌}
use Rattle.command_words.specs.declared.options.Mode.{Mode}
use Rattle.command_words.specs.declared.options.Mode.TheVariants.{Cost, Opt, Run, Demo}
use Rattle.command_words.specs.declared.options.CoreWord.{CoreWord}
use Rattle.command_words.specs.declared.options.CoreWord.TheVariants.{Plain, File}
use Rattle.command_words.specs.declared.options.Options.{Options}
use Rattle.command_words.specs.declared.options.TheConstants.{LATENCY, MOST_STALLS, MOST_BUDGET, MOST_WORKERS, MOST_COUNT, BUDGET_UNSAID, TURNS_UNSAID}
use Rattle.command_words.specs.Answer.{WrongUse, wrong_use}
use Rattle.command_words.specs.Saying.{said_by}
use Rattle.command_words.specs.Table.{Text, suits}

-- ---- single values

-- a number from one to another
abbrev pub within : ℕ → ℕ → Option ℕ → Result ℕ WrongUse
within least most None = Err wrong_use
within least most (Some n) =
    if nat_le least n then (if nat_le n most then Ok n else Err wrong_use) else Err wrong_use

-- the number that a word spells, from one to another
unfoldable pub number_in : ℕ → ℕ → Text → Result ℕ WrongUse
number_in least most word = within least most (decimal_number word)

-- the same, or another number where nothing is said
abbrev pub number_or : ℕ → ℕ → ℕ → Option Text → Result ℕ WrongUse
number_or least unsaid most None = Ok unsaid
number_or least unsaid most (Some word) = number_in least most word

-- the name of a file: neither empty nor `-`
unfoldable pub file_name : Text → Result Text WrongUse
file_name word =
    if length word == 0 then Err wrong_use
    else (if bytes_eq word (codes "-") then Err wrong_use else Ok word)

-- a core by its latency
abbrev pub plain_core : Text → Result CoreWord WrongUse
plain_core digits = do
  latency ← number_in 1 LATENCY digits
  Ok (Plain latency)

-- a core by the name of its file
abbrev pub file_core : Text → Result CoreWord WrongUse
file_core word = do
  name ← file_name word
  Ok (File name)

-- a core: `one:` and a latency, or the name of a file
unfoldable pub core_named : Text → Result CoreWord WrongUse
core_named word =
    if starts_with nat_eq word (codes "one:") then plain_core (drop 4 word) else file_core word

-- a letter, a digit or `_`
abbrev pub is_label_byte : ℕ → Bool
is_label_byte c = is_ascii_alphanumeric c || c == 95

-- a letter or `_`, then letters, digits or `_`
unfoldable pub is_label : Text → Bool
is_label [] = false
is_label (c ∷ rest) =
    if is_ascii_alphabetic c || c == 95 then list_all is_label_byte rest else false

-- a label, or another one where nothing is said
abbrev pub label_or : Text → Option Text → Result Text WrongUse
label_or unsaid None = Ok unsaid
label_or unsaid (Some word) = if is_label word then Ok word else Err wrong_use

-- ---- lists of registers

-- Has a bank registers that lists name by their numbers?
abbrev pub is_listed_bank : Bank → Bool
is_listed_bank General = true
is_listed_bank Vector = true
is_listed_bank Flags = false
is_listed_bank Stack = false

-- a general or a vector register
abbrev pub numbered : Option Reg → Result Reg WrongUse
numbered None = Err wrong_use
numbered (Some r) = if is_listed_bank r.bank then Ok r else Err wrong_use

-- the register that a name of a list names: `flags`, or one of `x0` to `x30` and `v0` to `v31`, or
-- of `r0` to `r12`, `lr` and `s0` to `s31`
unfoldable pub listed_register : ArchName → Text → Result Reg WrongUse
listed_register arch name =
    if bytes_eq name (codes "flags") then Ok (register_in Flags 0)
    else numbered (register_named arch name)

-- the registers that names name
unfoldable pub listed_registers : ArchName → List Text → Result (List Reg) WrongUse
listed_registers arch [] = Ok []
listed_registers arch (name ∷ names) = do
  r ← listed_register arch name
  regs ← listed_registers arch names
  Ok (r ∷ regs)

-- the set of registers that names name, between commas
abbrev pub set_listed : ArchName → Text → Result RegSet WrongUse
set_listed arch word = do
  regs ← listed_registers arch (slice_split (λ c. c == 44) word)
  Ok (set_of regs)

-- the set of a list of registers, which may be `none`
unfoldable pub register_set : ArchName → Text → Result RegSet WrongUse
register_set arch word =
    if bytes_eq word (codes "none") then Ok (set_of []) else set_listed arch word

-- ---- what is said of each name

-- the mode of a name
abbrev pub mode_named : Text → Result Mode WrongUse
mode_named word =
    if bytes_eq word (codes "cost") then Ok Cost
    else (if bytes_eq word (codes "opt") then Ok Opt
    else (if bytes_eq word (codes "run") then Ok Run
    else (if bytes_eq word (codes "demo") then Ok Demo else Err wrong_use)))

-- the mode
unfoldable pub mode_of : Option Text → Result Mode WrongUse
mode_of None = Err wrong_use
mode_of (Some word) = mode_named word

-- a mode that takes what is said, and has what it needs
unfoldable pub suited : (Text → Option Text) → Mode → Result Mode WrongUse
suited look mode = if suits mode look then Ok mode else Err wrong_use

-- the architecture of a name
abbrev pub architecture_named : Text → Result ArchName WrongUse
architecture_named word =
    if bytes_eq word (codes "arm64") then Ok Arm64
    else (if bytes_eq word (codes "m4") then Ok M4 else Err wrong_use)

-- Has a mode regions of an architecture? The kernel of `demo` is one of AArch64.
abbrev pub has_regions_of : Mode → ArchName → Bool
has_regions_of Demo M4 = false
has_regions_of mode arch = true

-- an architecture of which a mode has regions
abbrev pub architecture_for : Mode → ArchName → Result ArchName WrongUse
architecture_for mode arch = if has_regions_of mode arch then Ok arch else Err wrong_use

-- the architecture: `arm64` where nothing is said
unfoldable pub architecture : Mode → Option Text → Result ArchName WrongUse
architecture mode None = Ok Arm64
architecture mode (Some word) = do
  arch ← architecture_named word
  architecture_for mode arch

-- the name of an input: a word that isn't empty
abbrev pub input_named : Option Text → Result Text WrongUse
input_named None = Err wrong_use
input_named (Some word) = if length word == 0 then Err wrong_use else Ok word

-- no input, for which the kernel of `demo` stands
abbrev pub no_input : Option Text → Result Text WrongUse
no_input None = Ok (codes "demo")
no_input (Some word) = Err wrong_use

-- the input: a word that isn't empty; `demo` takes none
unfoldable pub input_of : Mode → Option Text → Result Text WrongUse
input_of Cost word = input_named word
input_of Opt word = input_named word
input_of Run word = input_named word
input_of Demo word = no_input word

-- the core, where one is said
unfoldable pub core_of : Option Text → Result (Option CoreWord) WrongUse
core_of None = Ok None
core_of (Some word) = do
  core ← core_named word
  Ok (Some core)

-- the state file, where one is said
unfoldable pub state_of : Option Text → Result (Option Text) WrongUse
state_of None = Ok None
state_of (Some word) = do
  name ← file_name word
  Ok (Some name)

-- two labels that differ
abbrev pub two_labels : Text → Text → Result (Text × Text) WrongUse
two_labels start end = if bytes_eq start end then Err wrong_use else Ok (start, end)

-- the labels at the start and at the end of the region
unfoldable pub labels_of : Option Text → Option Text → Result (Text × Text) WrongUse
labels_of first last = do
  start ← label_or (codes "slothy_start") first
  end ← label_or (codes "slothy_end") last
  two_labels start end

-- the registers that live on, where they are said
unfoldable pub live_of : ArchName → Option Text → Result (Option RegSet) WrongUse
live_of arch None = Ok None
live_of arch (Some word) = do
  set ← register_set arch word
  Ok (Some set)

-- the registers that are free: none where nothing is said
unfoldable pub free_of : ArchName → Option Text → Result RegSet WrongUse
free_of arch None = Ok (set_of [])
free_of arch (Some word) = register_set arch word

-- ---- the command

-- the mode that words say, where everything beside it suits it
unfoldable pub mode_by : (Text → Option Text) → Result Mode WrongUse
mode_by look = do
  mode ← mode_of (look (codes "MODE"))
  suited look mode

-- the files: the input, the core and the state
unfoldable pub files_by : Mode → (Text → Option Text)
    → Result (Text × Option CoreWord × Option Text) WrongUse
files_by mode look = do
  input ← input_of mode (look (codes "INPUT"))
  core ← core_of (look (codes "core"))
  state ← state_of (look (codes "state"))
  Ok (input, core, state)

-- the registers: those that live on, and those that are free
unfoldable pub registers_by : ArchName → (Text → Option Text)
    → Result (Option RegSet × RegSet) WrongUse
registers_by arch look = do
  live ← live_of arch (look (codes "live"))
  free ← free_of arch (look (codes "free"))
  Ok (live, free)

-- the numbers: the most stalls, the budget, the workers, and the most turns
unfoldable pub numbers_by : (Text → Option Text) → Result (ℕ × ℕ × ℕ × ℕ) WrongUse
numbers_by look = do
  stalls ← number_or 0 STALLS MOST_STALLS (look (codes "max-stalls"))
  budget ← number_or 1 BUDGET_UNSAID MOST_BUDGET (look (codes "budget"))
  workers ← number_or 1 1 MOST_WORKERS (look (codes "workers"))
  turns ← number_or 0 TURNS_UNSAID TURNS (look (codes "turns"))
  Ok (stalls, budget, workers, turns)

-- the key of a kernel, and how many items it has
unfoldable pub kernel_by : (Text → Option Text) → Result (ℕ × ℕ) WrongUse
kernel_by look = do
  key ← number_or 0 0 (2 ^ 64 - 1) (look (codes "key"))
  count ← number_or 1 1 MOST_COUNT (look (codes "count"))
  Ok (key, count)

-- what is asked for by what is said of each name
unfoldable pub options_of : (Text → Option Text) → Result Options WrongUse
options_of look = do
  mode ← mode_by look
  arch ← architecture mode (look (codes "arch"))
  files ← files_by mode look
  labels ← labels_of (look (codes "start")) (look (codes "end"))
  registers ← registers_by arch look
  numbers ← numbers_by look
  kernel ← kernel_by look
  Ok (record {
    mode = mode;
    arch = arch;
    input = files.0;
    core = files.1;
    start = labels.0;
    end = labels.1;
    live = registers.0;
    free = registers.1;
    most = numbers.0;
    budget = numbers.1;
    workers = numbers.2;
    state = files.2;
    turns = numbers.3;
    key = kernel.0;
    count = kernel.1;
  })

-- what a command's words ask for, or wrong use
unfoldable pub command_of : List Text → Result Options WrongUse
command_of words = do
  look ← said_by words
  options_of look
