-- States that an architecture can be in.
use Rattle.std.specs.Prelude.{ℕ, ◌<◌, ◌≤◌, ◌≡◌, None}
use Rattle.std.specs.FinMap.{get}
use Rattle.sl_model.specs.declared.register.Reg.{Reg}
use Rattle.sl_model.specs.Isa.{Isa}
use Rattle.sl_model.specs.State.{State, read, byte}
use Rattle.sl_model.specs.Machine.{space_of, limit_of}

-- Each register has a value that fits it, each address reads a byte, and only
-- addresses of the architecture were set.
pub record Fits (isa : Isa) (s : State) : Type 0 where
  pub values : (r : Reg) → read s r < limit_of isa.name r.bank
  pub bytes : (address : ℕ) → byte s.memory address < 256
  pub addresses : (address : ℕ) → (space_of isa.name) ≤ address → get s.memory address ≡ None
