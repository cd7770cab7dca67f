use Rattle.sl_text.specs.Lines.{lines_left}
use Rattle.sl_text.proofs.LineLemmas.{numbered_lines_few, numbered_lines_short}
use Rattle.sl_text.proofs.text.lines.Goals as goal

pub returns-clause-count : goal.returns-clause-count
unfolding lines_left
returns-clause-count c = numbered_lines_few c.args.first c.args.text.now

pub returns-clause-short : goal.returns-clause-short
unfolding lines_left
returns-clause-short c = numbered_lines_short c.args.first c.args.text.now
