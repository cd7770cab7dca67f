-- What crates above cite of reading: the statements of a line, and lines, one after the other.
pub use Rattle.asm_reader.proofs.Tokens.{statements_whole}
pub use Rattle.asm_reader.proofs.Steps.{named_draft, no_statements, statement_read, parts_read, line_read, no_lines_read}
pub use Rattle.asm_reader.proofs.Ascii.{unit_name_short}
