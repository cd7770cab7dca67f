-- Words of the code, as the definitions see them.
use Rattle.std.specs.Borrow.{Bor}
use Rattle.std.specs.Prelude.{ℕ, List, map, Option, option_map}
use Rattle.asm_reader.specs.declared.words.Word as code
use Rattle.asm_reader.specs.Notes.{Word}

-- a text without where it lies in memory
abbrev pub bytes_value : Option (Bor (List ℕ)) → Option (List ℕ)
bytes_value text = option_map (λ t. t.now) text

-- a word without where it lies in memory
abbrev pub word_value : code.Word → Word
word_value word = record { name = word.name.now; value = bytes_value word.value }

-- the same of some words
abbrev pub word_values : List code.Word → List Word
word_values words = map word_value words
