-- What is known of files and sinks over std's readers and writers.
use Rattle.std.specs.Prelude.{ℕ, Bool, List, [], drop, None, Some, Result, Ok, ⊤, ◌≡◌, MatchOption}
use Rattle.std.specs.declared.option.Option.{Option}
use Rattle.std.specs.Option.{option_map}
use Rattle.std.specs.Io.KnownBytes.{Keeps, ReadConsumes}

-- what opens the files, and the bytes that the chosen one still gives, where they are known; the
-- chosen name, how many bytes were given since, whether that failed, and how many calls failed
pub record HostState (O : Type 0) : Type 0 where
  pub opener : O
  pub left : Option (List ℕ)
  pub chosen : List ℕ
  pub given : ℕ
  pub broken : Bool
  pub faults : ℕ

-- the bytes that a writer took, where they are known, and how many calls failed
pub record StreamState : Type 0 where
  pub taken : Option (List ℕ)
  pub faults : ℕ

module _ {R : Type 0} where
  -- of a file's bytes those behind the ones given; none where no reader is open
  abbrev pub left_of : Option (List ℕ) → ℕ → Option R → Option (List ℕ)
  left_of known given None = Some []
  left_of known given (Some reader) = option_map (drop given) known

  -- The reader that is open has these bytes left, where they are known.
  abbrev pub AreLeft : (R → Option (List ℕ)) → Option (List ℕ) → ℕ → Option R → Type 0
  AreLeft remaining known given None = ⊤
  AreLeft remaining known given (Some reader) =
      Keeps (option_map (drop given) known) (remaining reader)

  -- A read gives what the open reader does, and the end where none is open.
  abbrev pub Reads : {E : Type 0} → (R → Option (List ℕ)) → Option R → Option R → Result ℕ E
      → List ℕ → Type 0
  Reads remaining None new r buffer = (new ≡ None) × (r ≡ Ok 0)
  Reads remaining (Some old) new r buffer =
      MatchOption new ⊥ (λ reader. ReadConsumes (remaining old) (remaining reader) r buffer)
