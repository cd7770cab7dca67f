-- The lemmas that other crates cite: of the written region as a whole, and of its lines one after the other.
pub use Rattle.asm_printer.proofs.WrittenRegion.{region-reads, leaves-unmarked, is-line_end, all-said}
pub use Rattle.asm_printer.proofs.Concrete.{named-rest, spelled-named, spelled-printed, all-read, reads_concrete}
pub use Rattle.asm_printer.proofs.Entries.{all-printed, entries-unmarked, head-inside, length-entries}
pub use Rattle.asm_printer.proofs.NoteWords.{head-said}
pub use Rattle.asm_printer.proofs.LineTokens.{IsLine, line_closed, line_comment, line_statements}
unfoldable pub use Rattle.asm_printer.proofs.LineTokens.{head_tokens, item_tokens}
pub use Rattle.asm_printer.proofs.ReadLines.{IsNoted, IsWhole, body_of, body_whole, drafted-same, drafted-set, head_added, head_of, head_whole, headed, item_counted, line_text, plain_read, region_drafted, statement_added}
unfoldable pub use Rattle.asm_printer.proofs.ReadLines.{drafted}
