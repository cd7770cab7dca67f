use Rattle.std.proofs.Common.{◌≡◌, ◌+◌, ◌≤◌, max, reverse, arith}
use Rattle.sl_model.specs.SecondPass.{ready_again}
use Rattle.legal_space.proofs.SecondPassLemmas.{again-more, again-done}
use Rattle.legal_space.proofs.second_pass.ready_again.Goals as goal

pub loop-operand-preserved : goal.loop-operand-preserved
loop-operand-preserved c =
    let greatest : c.max-ready.result ≡ max c.ready_again_at.result c.loop-operand.ready = c.max-ready.ensures in
    record {
      ready = λ before since choices had has.
          again-more c.args.costs.now (reverse c.args.schedule.now) before choices since c.args.item c.loop-operand.operand c.ready_again_at.result c.loop-operand.ready c.max-ready.result
          (ready_again c.args.costs.now (reverse c.args.schedule.now) before choices since c.args.item 0 c.args.sources.now) c.args.sources.now _ c.loop-operand-test.true
          (c.ready_again_at.ensures.ready before since choices had has) greatest (c.loop-operand.invariant.ready before since choices had has);
      early = λ limit all_first all.
          let before : c.loop-operand.ready ≤ limit + 255 = c.loop-operand.invariant.early limit all_first all in
          let now : c.ready_again_at.result ≤ limit + 255 = c.ready_again_at.ensures.early limit all_first all in
          omega arith;
    }

pub returns-clause-ready : goal.returns-clause-ready
returns-clause-ready c = λ before since choices had has.
    again-done c.args.costs.now (reverse c.args.schedule.now) before choices since c.args.item c.loop-operand.operand c.loop-operand.ready
    (ready_again c.args.costs.now (reverse c.args.schedule.now) before choices since c.args.item 0 c.args.sources.now) c.args.sources.now c.loop-operand-test.false (c.loop-operand.invariant.ready before since choices had has)
