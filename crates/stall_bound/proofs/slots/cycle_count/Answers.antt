use Rattle.std.proofs.Common.{◌≡◌, ◌<◌, List, length, arith}
use Rattle.sl_model.specs.declared.schedule.Choice.{Choice}
use Rattle.search_space.specs.Bound.{issued_for}
use Rattle.stall_bound.specs.Recounts.{Recounts}
use Rattle.stall_bound.proofs.RecountLemmas.{length-issued}
use Rattle.stall_bound.proofs.SlotLemmas.{cycles-some}
use Rattle.stall_bound.proofs.slots.cycle_count.Goals as goal

pub returns : goal.returns
returns c = λ (done : List Choice) (h : Recounts c.args.problem.now done c.args.recount.now).
    let placed : c.args.recount.now.placed ≡ length done = h.placed in
    let len : length (issued_for c.args.problem.now done) ≡ length done = length-issued c.args.problem.now done in
    let some : 0 < length (issued_for c.args.problem.now done) = omega arith in
    cycles-some (issued_for c.args.problem.now done) c.args.recount.now.tally h.tally some
