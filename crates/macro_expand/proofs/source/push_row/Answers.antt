use Rattle.macro_expand.proofs.SliceLemmas.{one-piece}
use Rattle.macro_expand.proofs.source.push_row.Goals as goal

pub returns-clause-slices : goal.returns-clause-slices
returns-clause-slices c texts line cut out =
    c.push_notes.ensures.slices texts
    (c.in_ok-push_statements.ensures.slices texts line cut (one-piece texts c.args.out.now.items c.push.new.self.items _ c.in_ok-push.ensures.items tt out))
