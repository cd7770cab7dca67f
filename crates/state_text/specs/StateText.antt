-- State files: how states are read, and how they are printed. A text is the list of its bytes.
-- Source: this project's own format.
use Rattle.std.specs.Prelude.{ℕ, zero, suc, Bool, true, false, ◌+◌, ◌-◌, ◌*◌, ◌/◌, ◌%◌, ◌^◌, ◌==◌, nat_eq, nat_lt, List, [], ◌∷◌, ◌++◌, length, drop, codes, slice_index, Option, None, Some, is_some, Result, Ok, Err, if◌then◌else◌}
use Rattle.std.specs.Char.{digit_char}
use Rattle.std.specs.List.{starts_with, position_or_len, before_first, after_first}
use Rattle.std.specs.Str.{bytes_eq}
use Rattle.std.specs.FinMap.{empty, get, entries}
use Rattle.sl_model.specs.declared.register.Bank.{Bank}
use Rattle.sl_model.specs.declared.register.Bank.TheVariants.{General, Vector, Flags, Stack}
use Rattle.sl_model.specs.declared.register.Reg.{Reg}
use Rattle.sl_model.specs.declared.instruction.ArchName.{ArchName}
use Rattle.sl_model.specs.declared.instruction.ArchName.TheVariants.{Arm64, M4}
use Rattle.sl_model.specs.Machine.{space_of, limit_of}
use Rattle.sl_model.specs.State.{State, reg_key, read, write, put}
use Rattle.sl_model.specs.Text.{skip_blanks, numbered_lines}
use Rattle.sl_model.specs.OptionSteps.{◌>>=◌}
use Rattle.sl_model.specs.RegisterNames.{name_of, machine_registers, register_named}
use Rattle.sl_model.specs.Digits.{digit_of, some_digits}

-- ---- reading

-- the text behind a word, if it begins with the word
unfoldable pub behind : List ℕ → List ℕ → Option (List ℕ)
behind word text = if starts_with nat_eq text word then Some (drop (length word) text) else None

-- a number that is below a limit
abbrev pub below : ℕ → ℕ → Option ℕ
below limit number = if nat_lt number limit then Some number else None

-- a number behind `0x`, below a limit
unfoldable pub number_below : ℕ → List ℕ → Option ℕ
number_below limit text = do
  digits ← behind (codes "0x") text
  number ← some_digits 16 digits
  below limit number

-- the value of a flag's digit
abbrev pub bit_value : ℕ → Option ℕ
bit_value c = if c == 48 then Some 0 else (if c == 49 then Some 1 else None)

-- the flags by four digits, the first of which is the highest bit
unfoldable pub flags_value : List ℕ → Option ℕ
flags_value text = if length text == 4 then (do
  n ← bit_value (slice_index text 0)
  z ← bit_value (slice_index text 1)
  c ← bit_value (slice_index text 2)
  v ← bit_value (slice_index text 3)
  Some (8 * n + 4 * z + 2 * c + v)) else None

-- the value of a register
unfoldable pub value_below : ℕ → Bank → List ℕ → Option ℕ
value_below limit General text = number_below limit text
value_below limit Vector text = number_below limit text
value_below limit Flags text = flags_value text
value_below limit Stack text = number_below limit text

-- A state in which a register has a value, which had none before.
unfoldable pub with_register : Reg → ℕ → State → Option State
with_register r value s = if is_some (get s.regs (reg_key r)) then None else Some (write r value s)

-- A state in which a byte stands at an address of the machine, where none stood before.
unfoldable pub with_byte : ArchName → ℕ → ℕ → State → Option State
with_byte arch address value s =
    if nat_lt address (space_of arch) then
    (if is_some (get s.memory address) then None
    else Some (record { regs = s.regs; memory = put address value s.memory }))
    else None

-- Bytes stand from an address on, each spelled by two digits.
unfoldable pub with_bytes : ArchName → ℕ → List ℕ → State → Option State
with_bytes arch address [] s = Some s
with_bytes arch address (c ∷ []) s = None
with_bytes arch address (c ∷ d ∷ text) s = do
  high ← digit_of 16 c
  low ← digit_of 16 d
  t ← with_byte arch address (16 * high + low) s
  with_bytes arch (address + 1) text t

-- at least one byte
abbrev pub with_some_bytes : ArchName → ℕ → List ℕ → State → Option State
with_some_bytes arch address [] s = None
with_some_bytes arch address (c ∷ text) s = with_bytes arch address (c ∷ text) s

-- Is this a space?
abbrev pub is_space : ℕ → Bool
is_space c = c == 32

-- what stands before the first space of a text, and what stands behind it
unfoldable pub first_word : List ℕ → Option (List ℕ × List ℕ)
first_word text =
    if nat_lt (position_or_len is_space text) (length text) then
    Some (before_first is_space text, after_first is_space text)
    else None

-- an entry of memory behind its word `mem`, as `0x1000 = 0a0b`
unfoldable pub with_memory : ArchName → List ℕ → State → Option State
with_memory arch text s = do
  words ← first_word text
  address ← number_below (space_of arch) words.0
  bytes ← behind (codes "= ") words.1
  with_some_bytes arch address bytes s

-- an entry of a register behind its name, as `= 0x7`
unfoldable pub with_value : ArchName → List ℕ → List ℕ → State → Option State
with_value arch name text s = do
  r ← register_named arch name
  digits ← behind (codes "= ") text
  value ← value_below (limit_of arch r.bank) r.bank digits
  with_register r value s

-- an entry
unfoldable pub with_entry : ArchName → List ℕ → State → Option State
with_entry arch line s = do
  words ← first_word line
  if bytes_eq words.0 (codes "mem") then with_memory arch words.1 s else with_value arch words.0 words.1 s

-- Is a line passed over: nothing but blanks, or a comment from its first column on?
unfoldable pub is_passed : List ℕ → Bool
is_passed line =
    if length (skip_blanks line) == 0 then true else starts_with nat_eq line (codes "//")

-- a line
unfoldable pub with_line : ArchName → List ℕ → State → Option State
with_line arch line s = if is_passed line then Some s else with_entry arch line s

-- what the lines behind a line give, or the number of that line where it is bad
abbrev pub going_on : ℕ → Option State → (State → Result State ℕ) → Result State ℕ
going_on number None lines = Err number
going_on number (Some s) lines = lines s

-- numbered lines, one after the other
unfoldable pub with_lines : ArchName → List (ℕ × List ℕ) → State → Result State ℕ
with_lines arch [] s = Ok s
with_lines arch (line ∷ lines) s =
    going_on line.0 (with_line arch line.1 s) (λ t. with_lines arch lines t)

-- the state that a text says, or the number of its first bad line
unfoldable pub read_state : ArchName → List ℕ → Result State ℕ
read_state arch text =
    with_lines arch (numbered_lines 1 text) (record { regs = empty; memory = empty })

-- ---- printing

-- the last digits of a number in lower case, so many
unfoldable pub hex_digits : ℕ → ℕ → List ℕ
hex_digits zero number = []
hex_digits (suc count) number = digit_char (number / 2 ^ (4 * count) % 16) ∷ hex_digits count number

-- how many digits the value of a register has
abbrev pub digit_count : ArchName → Bank → ℕ
digit_count Arm64 General = 16
digit_count Arm64 Vector = 32
digit_count Arm64 Flags = 1
digit_count Arm64 Stack = 16
digit_count M4 General = 8
digit_count M4 Vector = 8
digit_count M4 Flags = 1
digit_count M4 Stack = 8

-- how many digits an address has
abbrev pub address_count : ArchName → ℕ
address_count Arm64 = 16
address_count M4 = 8

-- the flags as four digits
abbrev pub flags_text : ℕ → List ℕ
flags_text flags =
    (48 + flags / 8 % 2) ∷ (48 + flags / 4 % 2) ∷ (48 + flags / 2 % 2) ∷ (48 + flags % 2) ∷ []

-- the value of a register
unfoldable pub value_text : ArchName → Bank → ℕ → List ℕ
value_text arch General value = codes "0x" ++ hex_digits (digit_count arch General) value
value_text arch Vector value = codes "0x" ++ hex_digits (digit_count arch Vector) value
value_text arch Flags value = flags_text value
value_text arch Stack value = codes "0x" ++ hex_digits (digit_count arch Stack) value

-- the line of a register that was set
unfoldable pub register_text : ArchName → Reg → State → List ℕ
register_text arch r s =
    if is_some (get s.regs (reg_key r)) then
    name_of arch r ++ (codes " = " ++ (value_text arch r.bank (read s r) ++ codes "\n"))
    else []

-- the lines of registers
unfoldable pub registers_text : ArchName → List Reg → State → List ℕ
registers_text arch [] s = []
registers_text arch (r ∷ regs) s = register_text arch r s ++ registers_text arch regs s

-- the begin of a line of bytes, up to its first one
unfoldable pub bytes_start : ArchName → ℕ × ℕ → List ℕ
bytes_start arch entry =
    codes "mem 0x" ++ (hex_digits (address_count arch) entry.0
    ++ (codes " = " ++ hex_digits 2 entry.1))

-- Does a byte go on a line with room for so many more, behind which an address is the next one?
abbrev pub goes_on : ℕ → ℕ → ℕ → Bool
goes_on room next address = if room == 0 then false else address == next

-- what a byte adds: it goes on the line, or ends it and begins another one
unfoldable pub byte_text : ArchName → ℕ → ℕ → ℕ × ℕ → List ℕ
byte_text arch room next entry =
    if goes_on room next entry.0 then hex_digits 2 entry.1 else codes "\n" ++ bytes_start arch entry

-- the room that is left behind it
abbrev pub room_behind : ℕ → ℕ → ℕ → ℕ
room_behind room next address = if goes_on room next address then room - 1 else 15

-- bytes behind a line with room for so many more, behind which an address is the next one
unfoldable pub bytes_behind : ArchName → ℕ → ℕ → List (ℕ × ℕ) → List ℕ
bytes_behind arch room next [] = codes "\n"
bytes_behind arch room next (entry ∷ more) =
    byte_text arch room next entry
    ++ bytes_behind arch (room_behind room next entry.0) (entry.0 + 1) more

-- the lines of bytes that stand at rising addresses
unfoldable pub bytes_text : ArchName → List (ℕ × ℕ) → List ℕ
bytes_text arch [] = []
bytes_text arch (entry ∷ more) = bytes_start arch entry ++ bytes_behind arch 15 (entry.0 + 1) more

-- a state as it is printed
unfoldable pub state_text : ArchName → State → List ℕ
state_text arch s =
    registers_text arch (machine_registers arch) s ++ bytes_text arch (entries s.memory)
