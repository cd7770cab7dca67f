use Rattle.std.proofs.Common.{refl}
use Rattle.slothy_cli.proofs.Calls.{ends-failed}
use Rattle.slothy_cli.proofs.top.carry_out_for.Goals as goal

pub returns-in-Err-clause-ends : goal.returns-in-Err-clause-ends
returns-in-Err-clause-ends g c = ends-failed g.A.Arch.language _ _ _ c.in-Err.ending c.in-Err.ensures.comes refl
