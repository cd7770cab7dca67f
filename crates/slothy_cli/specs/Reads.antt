-- A tree of reads: what is read, one file after the other, and what comes of it. Source: a program
-- over reads as a value, each with what goes on from the bytes that it gives.
use Rattle.std.specs.Prelude.{ℕ, true, nat_lt, List, length, Result, Ok, Err, if◌then◌else◌}
use Rattle.slothy_cli.specs.declared.stop.File.{File}
use Rattle.slothy_cli.specs.declared.stop.Quantity.TheVariants as quantities
use Rattle.slothy_cli.specs.declared.stop.Stop.{Stop}
use Rattle.slothy_cli.specs.declared.stop.Stop.TheVariants.{TooLarge}
use Rattle.sl_model.specs.declared.limits.TheConstants.{FILE_BYTES}

-- What is there without a further read; or a reason to stop; or a file to be read, and what goes on
-- from its bytes.
pub data Reads (A : Type 0) : Type 0 where
  Given : A → Reads A
  Halted : Stop → Reads A
  Read : File → (List ℕ → Reads A) → Reads A

infixl 10 ◌>>=◌
-- one tree, and another that goes on from what is there behind it
abbrev pub ◌>>=◌ : {A B : Type 0} → Reads A → (A → Reads B) → Reads B
Given a >>= f = f a
Halted stop >>= f = Halted stop
Read file next >>= f = Read file (λ bytes. next bytes >>= f)

-- the bytes of a file
abbrev pub bytes_of : File → Reads (List ℕ)
bytes_of file = Read file (λ bytes. Given bytes)

-- what is there without a read, or a reason to stop
abbrev pub given : {A : Type 0} → Result A Stop → Reads A
given (Ok a) = Given a
given (Err stop) = Halted stop

-- a file that is too long
abbrev pub too_long : File → Stop
too_long file = TooLarge file 0 quantities.File FILE_BYTES

-- What comes of a tree where the files have these bytes. A file has at most 1048576 bytes.
unfoldable pub outcome : {A : Type 0} → (File → List ℕ) → Reads A → Result A Stop
outcome bytes (Given a) = Ok a
outcome bytes (Halted stop) = Err stop
outcome bytes (Read file next) =
    if nat_lt FILE_BYTES (length (bytes file)) then Err (too_long file)
    else outcome bytes (next (bytes file))
