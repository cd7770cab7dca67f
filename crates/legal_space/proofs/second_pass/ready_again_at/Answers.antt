use Rattle.std.proofs.Common.{length, reverse, ◌∙◌}
use Rattle.legal_space.proofs.SecondPassLemmas.{held-known-reverse, again-item}
use Rattle.legal_space.proofs.second_pass.ready_again_at.Goals as goal

pub ready_at-requires-clause-known : goal.ready_at-requires-clause-known
ready_at-requires-clause-known c =
    held-known-reverse (length c.args.first.now) c.args.schedule.now c.in-Entry.reg c.held.result c.requires.placed c.held.ensures

pub returns-in-Entry-clause-early : goal.returns-in-Entry-clause-early
returns-in-Entry-clause-early c = λ limit all_first all. c.ready_at.ensures.early limit all_first

pub returns-in-Item-clause-ready : goal.returns-in-Item-clause-ready
returns-in-Item-clause-ready c = λ before since choices had has.
    c.ready_at-in-Item.ensures.ready choices since has
    ∙ again-item c.args.costs.now (reverse c.args.schedule.now) before choices since c.args.item c.args.operand c.in-Item.index c.in-Item.place c.args.source c.in-Item.is

pub returns-in-Item-clause-early : goal.returns-in-Item-clause-early
returns-in-Item-clause-early c = λ limit all_first all. c.ready_at-in-Item.ensures.early limit all
