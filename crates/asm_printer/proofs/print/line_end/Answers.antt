use Rattle.std.proofs.Common.{sym}
use Rattle.asm_printer.proofs.PrintedText.{other_line_end}
use Rattle.asm_printer.proofs.print.line_end.Goals as goal

pub returns-else-ends_with : goal.returns-else-ends_with
returns-else-ends_with c = sym (other_line_end c.args.before.now c.if-ends_with.ensures.cases)
