-- The lemmas that other crates cite.
pub use Rattle.form_table.proofs.Again.{IsShaped, Shaped, HoldFrom, hold_first, hold_next, hold_same, numbers_of, with_number}
pub use Rattle.form_table.proofs.Few.{read_few}
pub use Rattle.form_table.proofs.Filled.{filled_shaped}
pub use Rattle.form_table.proofs.Further.{plain_printed, reads_further}
pub use Rattle.form_table.proofs.Kept.{all_kept_at}
pub use Rattle.form_table.proofs.KnownRegisters.{read_named}
pub use Rattle.form_table.proofs.NoWords.{none_of_no_words}
pub use Rattle.form_table.proofs.OneLine.{one_line}
pub use Rattle.form_table.proofs.Printable.{between}
pub use Rattle.form_table.proofs.ReadAgain.{IsReadBy, form_of, not_refused, read_kept, same_Ok}
pub use Rattle.form_table.proofs.Renamed.{SameNumbers, IsRenamed, HasWords, fit_with, held_again, same_number, renamed_read, words_of}
pub use Rattle.form_table.proofs.Swapped.{is_plain_register, is_plain}
pub use Rattle.form_table.proofs.Spelled.{GivesInstr, spelled_at}
