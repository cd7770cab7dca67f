-- The languages of the architectures that a command may name. Source: this project's own.
use Rattle.sl_model.specs.declared.instruction.ArchName.{ArchName}
use Rattle.sl_model.specs.declared.instruction.ArchName.TheVariants as name
use Rattle.sl_isa.specs.Language.{Language}
use Rattle.arm64_table.specs.Arm64.{arm64}
use Rattle.m4_table.specs.M4.{m4}

-- the language of an architecture
abbrev pub language_of : ArchName → Language
language_of name.Arm64 = arm64
language_of name.M4 = m4
