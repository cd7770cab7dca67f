use Rattle.std.proofs.Common.{◌≤◌, ◌<◌, subst, sym, ap, ◌∙◌, arith}
use Rattle.sl_model.specs.Cycles.{forward_or}
use Rattle.issue_cost.proofs.SoundRows.{sound_row, some_forward}
use Rattle.issue_cost.proofs.costs.Costs.ready_after.Goals as goal

pub returns-then-is_back-clause-least : goal.returns-then-is_back-clause-least
returns-then-is_back-clause-least c =
    let least : 0 < c.row-row.result.writeback = (sound_row c.row-row.result c.row-row.ensures.sound).3 in
    omega arith

pub returns-clause-least : goal.returns-clause-least
returns-clause-least c =
    let numbers : 0 < c.row-row.result.latency = (sound_row c.row-row.result c.row-row.ensures.sound).2 in
    let least : 1 ≤ c.row-row.result.latency = omega arith in
    let given : 1 ≤ forward_or c.self.inside.forwards.items c.row-row.result.class c.row-class.result.class c.args.operand c.row-row.result.latency =
    some_forward c.self.inside.forwards.items c.row-row.result.class c.row-class.result.class c.args.operand c.row-row.result.latency c.self.invariant.forwards least in
    subst (λ n. 1 ≤ n) (sym (
    c.from-2.ensures
    ∙ c.forward_or.ensures
    ∙ ap (λ forwards. forward_or forwards c.row-row.result.class c.row-class.result.class c.args.operand c.row-row.result.latency) c.deref.ensures.value)) given
