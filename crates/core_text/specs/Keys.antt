-- How a refusal names a key. Source: this project's own core tables.
use Rattle.std.specs.Prelude.{ℕ, ◌++◌, codes}
use Rattle.std.specs.Fmt.{decimal}
use Rattle.core_text.specs.Refusal.{Text}

-- a key of the document
abbrev pub top_field : Text → Text
top_field name = name

-- a class
abbrev pub class_key : Text → Text
class_key class = codes "class." ++ class

-- a key of the entry of a class
abbrev pub class_field : Text → Text → Text
class_field class name = codes "class." ++ (class ++ (codes "." ++ name))

-- a forward, counted from 0
abbrev pub forward_key : ℕ → Text
forward_key place = codes "forward." ++ decimal place

-- a key of the entry of a forward
abbrev pub forward_field : ℕ → Text → Text
forward_field place name = codes "forward." ++ (decimal place ++ (codes "." ++ name))
