use Rattle.std.proofs.Common.{◌≡◌, ◌+◌, ◌≤◌, max, arith}
use Rattle.sl_model.specs.Cycles.{ready_from}
use Rattle.legal_space.proofs.TimesLemmas.{ready-more, ready-done}
use Rattle.legal_space.proofs.ready.ready_among.Goals as goal

pub loop-operand-preserved : goal.loop-operand-preserved
loop-operand-preserved c =
    let greatest : c.max-ready.result ≡ max c.ready_at.result c.loop-operand.ready = c.max-ready.ensures in
    record {
      ready = λ choices done has.
          ready-more c.args.costs.now choices done c.args.item c.loop-operand.operand c.ready_at.result c.loop-operand.ready c.max-ready.result
          (ready_from c.args.costs.now choices done c.args.item 0 c.args.sources.now) c.args.sources.now _ c.loop-operand-test.true
          (c.ready_at.ensures.ready choices done has) greatest (c.loop-operand.invariant.ready choices done has);
      early = λ limit all.
          let before : c.loop-operand.ready ≤ limit + 255 = c.loop-operand.invariant.early limit all in
          let now : c.ready_at.result ≤ limit + 255 = c.ready_at.ensures.early limit all in
          omega arith;
    }

pub returns-clause-ready : goal.returns-clause-ready
returns-clause-ready c = λ choices done has.
    ready-done c.args.costs.now choices done c.args.item c.loop-operand.operand c.loop-operand.ready
    (ready_from c.args.costs.now choices done c.args.item 0 c.args.sources.now) c.args.sources.now c.loop-operand-test.false (c.loop-operand.invariant.ready choices done has)
