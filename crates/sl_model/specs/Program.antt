-- What programs mean, and when one leaves what another leaves. Source: DDI 0487 and
-- DDI 0403; a loop counts a register down to 0 at its end.
use Rattle.std.specs.Prelude.{ℕ, Bool, true, ◌+◌, ◌%◌, ◌<◌, ◌≡◌, ◌==◌, ◌&&◌, ◌||◌, zero, suc, ◌⊎◌, is_some, false, List, [], ◌∷◌, ◌++◌, if◌then◌else◌}
use Rattle.sl_model.specs.declared.frame.Frame.{Frame}
use Rattle.sl_model.specs.declared.register.Reg.{Reg}
use Rattle.sl_model.specs.declared.instruction.Instr.{Instr}
use Rattle.sl_model.specs.Register.{same_bool}
use Rattle.sl_model.specs.RegSets.{set_has}
use Rattle.sl_model.specs.State.{State, read, byte}
use Rattle.sl_model.specs.Isa.{Isa}
use Rattle.sl_model.specs.Exec.{Touch, run, touches}
use Rattle.sl_model.specs.Source.{place_from}
use Rattle.sl_model.specs.Legal.{written}
use Rattle.sl_model.specs.Body.{tags_differ}
use Rattle.sl_model.specs.Machine.{space_of}

-- A program: a straight list, or a loop whose body runs, and whose counter falls by one, until the
-- counter is 0. `flagged` says that the decrement writes the flags.
pub data Program : Type 0 where
  Straight : List Instr → Program
  Loop : List Instr → List Instr → Reg → Bool → List Instr → Program

-- a list so many times
unfoldable pub copies : ℕ → List Instr → List Instr
copies zero items = []
copies (suc n) items = items ++ copies n items

-- how often a loop's body runs where the counter has a value: 0 stands for
-- as many as there are addresses
abbrev pub turns_at : ℕ → ℕ → ℕ
turns_at space count = if count == 0 then space else count

-- The instructions that a program runs from a state, in order.
-- `decrement` takes one from a counter.
abbrev pub trace : Isa → (Bool → Reg → Instr) → Program → State → List Instr
trace isa decrement (Straight items) s = items
trace isa decrement (Loop before body counter flagged after) s =
    before ++ (copies (turns_at (space_of isa.name) (read (run isa before s) counter))
    (body ++ decrement flagged counter ∷ []) ++ after)

-- the state that a program leaves
abbrev pub end_of : Isa → (Bool → Reg → Instr) → Program → State → State
end_of isa decrement program s = run isa (trace isa decrement program s) s

-- its accesses, in order
abbrev pub accesses : Isa → (Bool → Reg → Instr) → Program → State → List Touch
accesses isa decrement program s = touches isa (trace isa decrement program s) s

-- Two accesses share a byte.
abbrev pub ShareByte : ℕ → Touch → Touch → Type 0
ShareByte space a b =
    (j k : ℕ) × (j < a.size) × (k < b.size) × ((a.address + j) % space ≡ (b.address + k) % space)

-- Is this one of these accesses?
abbrev pub IsAmong : Touch → List Touch → Type 0
IsAmong a [] = ⊥
IsAmong a (b ∷ all) = (a ≡ b) ⊎ IsAmong a all

-- No two of these accesses whose tags differ share a byte.
abbrev pub TagsHoldOf : ℕ → List Touch → Type 0
TagsHoldOf space all =
    (a b : Touch) → IsAmong a all → IsAmong b all → tags_differ a.tag b.tag ≡ true
    → ShareByte space a b → ⊥

-- Are two accesses the same, tags aside?
abbrev pub is_access : Touch → Touch → Bool
is_access a b = same_bool a.store b.store && (a.address == b.address && a.size == b.size)

-- how often an access occurs among others, tags aside
unfoldable pub times_of : Touch → List Touch → ℕ
times_of a [] = 0
times_of a (b ∷ all) = (if is_access a b then 1 else 0) + times_of a all

-- the registers that a program writes
abbrev pub writes : (Bool → Reg → Instr) → Program → List Reg
writes decrement (Straight items) = written items
writes decrement (Loop before body counter flagged after) =
    written (before ++ (body ++ (decrement flagged counter ∷ after)))

-- the counter of a loop
abbrev pub counter_of : Program → List Reg
counter_of (Straight items) = []
counter_of (Loop before body counter flagged after) = counter ∷ []

-- Is a register one of these?
abbrev pub is_one_of : Reg → List Reg → Bool
is_one_of r regs = is_some (place_from 0 r regs)

-- Is a register live behind a program: is it one of the frame's, or the counter of a loop?
abbrev pub is_live : Frame → Program → Reg → Bool
is_live frame program r = set_has frame.live r || is_one_of r (counter_of program)

-- May a register be changed: does the program write it, or is it live or allowed?
abbrev pub may_change : (Bool → Reg → Instr) → Frame → Program → Reg → Bool
may_change decrement frame program r =
    is_one_of r (writes decrement program) || (set_has frame.live r || set_has frame.allowed r)

-- The new program leaves what the old one leaves from a state: the live registers and the
-- counter have the same values; each address reads the same byte; each register of the machine
-- that the old program doesn't write, and that is neither live nor allowed, keeps its value;
-- and each access is made as often.
pub record Leaves (isa : Isa) (decrement : Bool → Reg → Instr) (frame : Frame)
    (old new : Program) (s : State) : Type 0 where
  pub registers : (r : Reg) → is_live frame old r ≡ true
      → read (end_of isa decrement new s) r ≡ read (end_of isa decrement old s) r
  pub bytes : (address : ℕ)
      → byte (end_of isa decrement new s).memory address
      ≡ byte (end_of isa decrement old s).memory address
  pub others : (r : Reg) → r.symbolic ≡ false → may_change decrement frame old r ≡ false
      → read (end_of isa decrement new s) r ≡ read s r
  pub access_counts : (a : Touch)
      → times_of a (accesses isa decrement new s) ≡ times_of a (accesses isa decrement old s)
