-- The laws of AArch64: what the tests of its table give.
use Rattle.std.proofs.Common.{◌≡◌, refl, true}
use Rattle.sl_model.specs.declared.instruction.ArchName.TheVariants.{Arm64}
use Rattle.sl_model.specs.RegSets.{set_count}
use Rattle.sl_isa.specs.Arch.{padded_values}
use Rattle.sl_isa.specs.Language.{IsLanguage}
use Rattle.form_table.specs.Rows.{mnemonic_text}
use Rattle.form_table.specs.Tables.{is_readable}
use Rattle.form_isa.specs.Info.{classes, input_classes, output_classes, padded_classes, places_of}
use Rattle.form_isa.specs.TableIsa.{ranges}
use Rattle.form_isa.specs.LawfulTable.{are_only_of, is_last_number, is_lawful_table}
use Rattle.form_isa.proofs.ForCallers.{table-language, table-steps}
use Rattle.arm64_table.specs.Document.{each, document}
use Rattle.arm64_table.specs.Arm64.{step_form, arm64, arm64_step}
use Rattle.arm64_table.specs.Steps.{arm64_steps}

-- AArch64 passes the test of readable tables
pub readable : is_readable document ≡ true
unfolding padded_values each document mnemonic_text
readable = refl

-- AArch64 passes the test of lawful tables
pub tested : is_lawful_table Arm64 document ≡ true
unfolding padded_values each document is_lawful_table input_classes output_classes classes padded_classes places_of set_count
    are_only_of is_last_number ranges
tested = refl

-- the laws
pub arm64_lawful : IsLanguage arm64
unfolding arm64
arm64_lawful =
    table-language Arm64 document arm64_step readable tested
    (table-steps Arm64 document step_form arm64_steps)
