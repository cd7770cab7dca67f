-- Names of tags of the code, as the definitions see them.
use Rattle.std.specs.Prelude.{ℕ, List, map}
use Rattle.asm_reader.specs.declared.tags.Tags as code

-- the names by their numbers
abbrev pub tag_names : code.Tags → List (List ℕ)
tag_names tags = map (λ name. name.now) tags.names.items
