use Rattle.slothy_cli.proofs.Calls.{usage_then, then_usage, exact_status}
use Rattle.slothy_cli.proofs.top.run.Goals as goal

pub returns-clause-call : goal.returns-clause-call
returns-clause-call g c = (c.call.result, c.status.ensures, c.call.ensures.call)

pub returns-clause-usage : goal.returns-clause-usage
returns-clause-usage g c = rw c.status.ensures (usage_then _ _ _ _ _ c.call.ensures.call.cause)

pub returns-clause-wrong : goal.returns-clause-wrong
returns-clause-wrong g c = rw c.status.ensures (then_usage _ _ _ _ _ c.call.ensures.call.cause)

pub returns-clause-exact : goal.returns-clause-exact
returns-clause-exact g c = rw c.status.ensures (exact_status _ _ _ _ _ c.call.ensures.call.cause)
