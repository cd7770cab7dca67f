use Rattle.std.proofs.Common.{◌++◌, filter, not}
use Rattle.std.specs.List.{filter_map}
use Rattle.legal_space.proofs.StraightLemmas.{outputs-done}
use Rattle.legal_space.proofs.straight.add_concrete.Goals as goal

pub returns : goal.returns
returns c =
    outputs-done c.args.outs.now c.loop-out.out-index c.loop-out.regs.items (c.args.regs.now.items ++ filter (λ r. not r.symbolic) (filter_map (λ r. r) c.args.outs.now))
    c.loop-out-test.false c.loop-out.invariant
