-- The lemmas that other crates cite; and what instructions of a table with `.w` store.
pub use Rattle.wide_forms.proofs.WideLanguage.{wide-language}
use Rattle.std.proofs.Common.{◌≡◌, ℕ, false, List}
use Rattle.std.specs.Prelude.{slice_get}
use Rattle.sl_model.specs.declared.instruction.ArchName.{ArchName}
use Rattle.sl_model.specs.declared.instruction.Instr.{Instr}
use Rattle.sl_isa.specs.Arch.{stored_by}
use Rattle.form_table.specs.declared.rows.Row.{Row}
use Rattle.form_isa.specs.TableIsa.{row_bytes, table_isa}
use Rattle.form_isa.proofs.ForCallers.{stored_is}
use Rattle.wide_forms.specs.Wide.{with_wide, wide_isa}

pub wide_stored_is : (name : ArchName) (table : List Row) (i : Instr) (ins : List ℕ) →
    stored_by (wide_isa (table_isa name table)) i ins ≡ row_bytes (slice_get table i.form) ins
unfolding wide_isa table_isa stored_by
wide_stored_is name table i ins = stored_is name table (with_wide false i) ins
