use Rattle.std.proofs.Common.{◌∙◌}
use Rattle.machine_sem.proofs.Undo.{written_is_there, written_back}
use Rattle.machine_sem.proofs.run.+write_outputs.Goals as goal

pub put_back-requires : goal.put_back-requires
put_back-requires t c =
    written_is_there c.in-Some-first.reg c.in-Some-split_first.value.now c.args.state.now c.set_reg.new.self c.write_outputs-2.new.state
    c.in_default-write_outputs.ensures.err c.in_ok-set_reg.ensures.ok

pub returns-in_default-write_outputs-clause-err : goal.returns-in_default-write_outputs-clause-err
returns-in_default-write_outputs-clause-err t c =
    c.put_back.ensures
    ∙ written_back c.in-Some-first.reg c.in-Some-split_first.value.now c.kept-before.result c.args.state.now c.set_reg.new.self c.write_outputs-2.new.state
    c.in_default-write_outputs.ensures.err c.in_ok-set_reg.ensures.ok c.kept-before.ensures
