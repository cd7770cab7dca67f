-- The files of a `MemFiles` as plain lists.
use Rattle.std.specs.Prelude.{ℕ, List, [], slice_get, String, string_bytes, Vec}
use Rattle.std.specs.Option.{option_map_or}

module _ {Y Z : Type 0} where
  -- a file's name and bytes
  abbrev pub plain_file : String Y × Vec ℕ Z → List ℕ × List ℕ
  plain_file file = (string_bytes file.0, file.1.items)

  -- the bytes of the file at a place, none past the last
  abbrev pub bytes_at : List (String Y × Vec ℕ Z) → ℕ → List ℕ
  bytes_at files place = option_map_or (λ file. file.1.items) (slice_get files place) []
