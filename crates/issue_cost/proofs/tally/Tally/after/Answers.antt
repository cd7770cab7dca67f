use Rattle.std.proofs.Common.{◌+◌, set, refl, ap}
use Rattle.issue_cost.proofs.TallyLemmas.{Tallies-after}
use Rattle.issue_cost.proofs.tally.Tally.after.Goals as goal

pub returns : goal.returns
returns c = λ done h free.
    Tallies-after (record { unit = c.args.unit; busy = c.args.busy; cycle = c.args.cycle }) done c.args.self.now _ h c.requires.in_order free c.requires.unit
    refl c.count_at.ensures.same c.count_at.ensures.later
    (ap (λ i. set c.args.self.now.free i (c.args.cycle + c.args.busy)) c.from.ensures)
