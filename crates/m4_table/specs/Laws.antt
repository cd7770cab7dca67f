-- The laws of Armv7E-M: what the tests of its table give, with `.w` behind the mnemonics.
use Rattle.std.proofs.Common.{◌≡◌, refl, true}
use Rattle.sl_model.specs.declared.instruction.ArchName.TheVariants.{M4}
use Rattle.sl_model.specs.RegSets.{set_count}
use Rattle.sl_isa.specs.Arch.{padded_values}
use Rattle.sl_isa.specs.Language.{IsLanguage}
use Rattle.form_table.specs.Rows.{mnemonic_text}
use Rattle.form_table.specs.Tables.{is_readable}
use Rattle.form_isa.specs.Info.{classes, input_classes, output_classes, padded_classes, places_of}
use Rattle.form_isa.specs.TableIsa.{table_language, ranges}
use Rattle.form_isa.specs.CounterSteps.{step_instr}
use Rattle.form_isa.specs.LawfulTable.{are_only_of, is_last_number, is_lawful_table}
use Rattle.form_isa.proofs.ForCallers.{table-language, table-steps}
use Rattle.m4_table.specs.Document.{document}
use Rattle.m4_table.specs.M4.{step_form, m4_step, m4}
use Rattle.m4_table.specs.Steps.{m4_steps}
use Rattle.wide_forms.proofs.ForCallers.{wide-language}

-- Armv7E-M passes the test of readable tables
pub readable : is_readable document ≡ true
unfolding padded_values document mnemonic_text
readable = refl

-- Armv7E-M passes the test of lawful tables
pub tested : is_lawful_table M4 document ≡ true
unfolding padded_values document is_lawful_table input_classes output_classes classes padded_classes places_of set_count
    are_only_of is_last_number ranges
tested = refl

-- the laws without `.w`
narrow_lawful : IsLanguage (table_language M4 document m4_step)
narrow_lawful =
    table-language M4 document m4_step readable tested (table-steps M4 document step_form m4_steps)

-- the laws
pub m4_lawful : IsLanguage m4
unfolding m4 step_instr
m4_lawful = wide-language M4 document m4_step readable narrow_lawful (λ op counter line. refl)
