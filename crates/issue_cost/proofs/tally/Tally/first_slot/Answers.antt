use Rattle.std.proofs.Common.{◌<◌, ◌≤◌, subst}
use Rattle.issue_cost.proofs.TallyLemmas.{first_slot-here, first_slot-next}
use Rattle.issue_cost.proofs.tally.Tally.first_slot.Goals as goal

pub returns-then-self-from : goal.returns-then-self-from
returns-then-self-from c = λ done h.
    first_slot-here c.args.width done c.args.self.now h (subst (λ n. c.args.self.now.count < n) c.from.ensures c.if-self-from.true)

pub returns-else-self-from : goal.returns-else-self-from
returns-else-self-from c = λ done h.
    first_slot-next c.args.width done c.args.self.now c.requires.width h (subst (λ n. n ≤ c.args.self.now.count) c.from.ensures c.if-self-from.false)
