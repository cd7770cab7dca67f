use Rattle.std.specs.Result.{is_ok}
use Rattle.command_words.proofs.Front.{front-ends, front-grows, front-refuses, pushed}
use Rattle.command_words.proofs.registers.listed_registers.Goals as goal

pub returns-in-Err : goal.returns-in-Err
returns-in-Err c =
    front-refuses c.args.arch c.in-Err.error c.loop-name.registers.items c.loop-name.name-index c.args.names.now _ c.loop-name.invariant c.loop-name-test.true c.in-Err.ensures

pub loop-name-preserved : goal.loop-name-preserved
loop-name-preserved c =
    front-grows c.args.arch c.loop-name.registers.items c.push.new.self.items c.loop-name.name-index c.args.names.now _ c.in-Ok.register c.loop-name.invariant c.loop-name-test.true c.in-Ok.ensures
    (pushed (is_ok c.push.result) c.is_err.result c.loop-name.registers.items c.push.new.self.items c.in-Ok.register c.push.ensures.items c.if-is_err.false c.is_err.ensures.negation)

pub returns : goal.returns
returns c = front-ends c.args.arch c.loop-name.registers.items c.loop-name.name-index c.args.names.now c.loop-name.invariant c.loop-name-test.false
