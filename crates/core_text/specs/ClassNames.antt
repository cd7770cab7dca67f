-- The classes of instructions by name. Source: this project's own core tables.
use Rattle.std.specs.Prelude.{ℕ, Bool, true, false, List, [], ◌∷◌, codes, Option, None, Some, if◌then◌else◌}
use Rattle.std.specs.List.{list_any, position}
use Rattle.std.specs.Str.{bytes_eq}
use Rattle.sl_model.specs.declared.instruction.ArchName.{ArchName}
use Rattle.sl_model.specs.declared.instruction.ArchName.TheVariants.{Arm64, M4}
use Rattle.core_text.specs.Refusal.{Text}

-- the classes of an architecture, numbered from 0
unfoldable pub class_names : ArchName → List Text
class_names Arm64 =
    codes "alu" ∷ codes "alus" ∷ codes "mul" ∷ codes "load" ∷ codes "store" ∷ codes "valu"
    ∷ codes "vshift" ∷ codes "vmul" ∷ codes "vperm" ∷ codes "vxfer" ∷ []
class_names M4 =
    codes "alu" ∷ codes "alus" ∷ codes "mul" ∷ codes "simd" ∷ codes "load" ∷ codes "store"
    ∷ codes "fmove" ∷ []

-- the architecture of a name
abbrev pub arch_named : Text → Option ArchName
arch_named name =
    if bytes_eq name (codes "arm64") then Some Arm64
    else (if bytes_eq name (codes "m4") then Some M4 else None)

-- Are two architectures the same?
abbrev pub same_arch : ArchName → ArchName → Bool
same_arch Arm64 Arm64 = true
same_arch M4 M4 = true
same_arch Arm64 M4 = false
same_arch M4 Arm64 = false

-- Is a name one of these?
abbrev pub is_among : Text → List Text → Bool
is_among name = list_any (λ other. bytes_eq other name)

-- the place of a name among these, counted from 0
abbrev pub place_of : Text → List Text → Option ℕ
place_of name = position (λ other. bytes_eq other name)
