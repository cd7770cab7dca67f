use Rattle.sl_text.proofs.LineLemmas.{no_bad_line}
use Rattle.sl_text.proofs.text.text_of.Goals as goal

pub returns-in-Ok : goal.returns-in-Ok
returns-in-Ok c = (c.in-Ok.ensures.cases.0, no_bad_line c.args.bytes.now c.in-Ok.ensures.cases.1)
