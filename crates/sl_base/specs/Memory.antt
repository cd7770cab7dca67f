-- What files and a sink that are kept in memory answer, call by call.
use Rattle.std.specs.Prelude.{ℕ, ◌+◌, ◌-◌, ◌^◌, ◌||◌, ◌&&◌, Bool, true, false, List, [], ◌∷◌, ◌++◌, length, drop, min, None, Some, nat_eq, nat_lt, if◌then◌else◌}
use Rattle.std.specs.declared.option.Option.{Option}
use Rattle.std.specs.List.{list_any}
use Rattle.std.specs.Str.{bytes_eq}
use Rattle.sl_base.specs.Faults.{one_more}

-- whether the call of this number is to fail
abbrev pub fails_at : List ℕ → ℕ → Bool
fails_at fails call = list_any (λ number. nat_eq number call) fails

-- the bytes of the first file of that name
abbrev pub file_named : List (List ℕ × List ℕ) → List ℕ → Option (List ℕ)
file_named [] name = None
file_named (file ∷ files) name = if bytes_eq file.0 name then Some file.1 else file_named files name

-- files in memory: what they hold, which calls fail, how many calls there were,
-- and what `Files` tells of them
pub record MemoryFiles : Type 0 where
  pub files : List (List ℕ × List ℕ)
  pub fails : List ℕ
  pub calls : ℕ
  pub chosen : List ℕ
  pub left : List ℕ
  pub given : ℕ
  pub broken : Bool
  pub faults : ℕ

-- the bytes that the next choice of a name finds: none where the call is
-- to fail or no file has the name
abbrev pub found : MemoryFiles → List ℕ → Option (List ℕ)
found state name = if fails_at state.fails state.calls then None else file_named state.files name

-- the files after a choice that found these bytes
abbrev pub after_choice : MemoryFiles → List ℕ → List ℕ → MemoryFiles
after_choice state name bytes =
    record state {
      calls = one_more state.calls;
      chosen = name;
      left = bytes;
      given = 0;
      broken = false;
    }

-- the files after a choice that failed
abbrev pub after_failed_choice : MemoryFiles → List ℕ → MemoryFiles
after_failed_choice state name =
    record state {
      calls = one_more state.calls;
      chosen = name;
      left = [];
      given = 0;
      broken = true;
      faults = one_more state.faults;
    }

-- how many bytes the next read gives into a buffer of that length
abbrev pub read_count : MemoryFiles → ℕ → ℕ
read_count state room = min room (length state.left)

-- whether the next read fails: its call is to fail, or the count of bytes
-- given would pass its last value
abbrev pub read_fails : MemoryFiles → ℕ → Bool
read_fails state room =
    fails_at state.fails state.calls || nat_lt (2 ^ 64 - 1) (state.given + read_count state room)

-- the files after a read that gave n bytes
abbrev pub after_read : MemoryFiles → ℕ → MemoryFiles
after_read state n =
    record state { calls = one_more state.calls; left = drop n state.left; given = state.given + n }

-- the files after a read that failed
abbrev pub after_failed_read : MemoryFiles → MemoryFiles
after_failed_read state =
    record state { calls = one_more state.calls; broken = true; faults = one_more state.faults }

-- a sink in memory: what it took, which calls fail, how much it takes at
-- once and in all, and its counts
pub record MemorySink : Type 0 where
  pub taken : List ℕ
  pub fails : List ℕ
  pub most : ℕ
  pub room : ℕ
  pub calls : ℕ
  pub faults : ℕ

-- how many bytes of a piece of that length the next write takes
abbrev pub write_count : MemorySink → ℕ → ℕ
write_count state length_of_piece =
    min length_of_piece (min state.most (state.room - length state.taken))

-- whether the next write fails: its call is to fail, or the piece has
-- bytes and there is room for none
abbrev pub write_fails : MemorySink → ℕ → Bool
write_fails state length_of_piece =
    fails_at state.fails state.calls
    || (nat_lt 0 length_of_piece && nat_eq (write_count state length_of_piece) 0)

-- the sink after a write that took these bytes
abbrev pub after_write : MemorySink → List ℕ → MemorySink
after_write state bytes =
    record state { taken = state.taken ++ bytes; calls = one_more state.calls }

-- the sink after a write that failed
abbrev pub after_failed_write : MemorySink → MemorySink
after_failed_write state =
    record state { calls = one_more state.calls; faults = one_more state.faults }
