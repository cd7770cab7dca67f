use Rattle.sl_model.specs.declared.instruction.ArchName.TheVariants.{Arm64, M4}
use Rattle.slothy_cli.specs.Shown.{shown}
use Rattle.slothy_cli.proofs.Calls.{ends-for}
use Rattle.slothy_cli.proofs.top.carry_out.Goals as goal

pub returns-in-Arm64-clause-ends : goal.returns-in-Arm64-clause-ends
returns-in-Arm64-clause-ends g c =
    ends-for _ Arm64 (shown c.args.command.now) _ _ c.carry_out_for.result c.in-Arm64.is c.carry_out_for.ensures.ends

pub returns-in-M4-clause-ends : goal.returns-in-M4-clause-ends
returns-in-M4-clause-ends g c =
    ends-for _ M4 (shown c.args.command.now) _ _ c.carry_out_for-in-M4.result c.in-M4.is c.carry_out_for-in-M4.ensures.ends
