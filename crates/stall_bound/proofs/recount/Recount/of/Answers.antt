use Rattle.stall_bound.proofs.recount.Recount.of.Goals as goal

pub loop-choice-init : goal.loop-choice-init
loop-choice-init c = c.start-recount.ensures c.args.problem.now
