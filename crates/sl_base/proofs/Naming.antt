-- Looking for a file by name.
use Rattle.std.proofs.Common.{◌≡◌, ℕ, ◌<◌, suc, true, List, [], ◌∷◌, length, drop, get_or, map, Some, refl, sym, ap, ◌∙◌, if◌then◌else◌, String, string_bytes, Vec}
use Rattle.std.proofs.Math.Seq.{drop-cons}
use Rattle.std.proofs.lemmas.Option.{slice_get_read}
use Rattle.std.specs.Option.{option_map_or}
use Rattle.std.specs.Str.{bytes_eq}
use Rattle.sl_base.specs.Memory.{file_named}
use Rattle.sl_base.specs.Rows.{plain_file, bytes_at}

module _ {Y Z : Type 0} where
  -- a file that has the name is the first of those from its place on
  pub file_named-here : (files : List (String Y × Vec ℕ Z)) (place : ℕ) (file : String Y × Vec ℕ Z) (name : List ℕ)
      → place < length files → file ≡ get_or files place file → bytes_eq (string_bytes file.0) name ≡ true
      → file_named (map plain_file (drop place files)) name ≡ Some (bytes_at files place)
  file_named-here files place file name within is same =
      let cut : drop place files ≡ file ∷ drop (suc place) files =
      drop-cons files place file within ∙ ap (λ f. f ∷ drop (suc place) files) (sym is) in
      let rest = file_named (map plain_file (drop (suc place) files)) name in
      ap (λ l. file_named (map plain_file l) name) cut
      ∙ ap (λ b. if b then Some file.1.items else rest) same
      ∙ ap (λ o. Some (option_map_or (λ f. f.1.items) o [])) (sym (slice_get_read files (length files) place file refl within is))
