-- Names of units of the code, as the definitions see them.
use Rattle.std.specs.Prelude.{ℕ, List, take}
use Rattle.asm_reader.specs.declared.unit_name.UnitName as code

-- the bytes of a unit's name
abbrev pub unit_text : code.UnitName → List ℕ
unit_text name = take name.length name.bytes
