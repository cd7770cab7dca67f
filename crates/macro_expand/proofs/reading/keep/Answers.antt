use Rattle.macro_expand.proofs.SliceLemmas.{more-body}
use Rattle.macro_expand.proofs.reading.keep.Goals as goal

pub returns-clause-slices : goal.returns-clause-slices
returns-clause-slices c texts opened what reading =
    c.reopen.ensures.slices texts (record { head = opened.head; body = more-body texts c.args.opened.body.items c.push.new.self.items _ c.in_ok-push.ensures.items what opened.body })
    reading
