use Rattle.sl_model.specs.declared.register.Bank.TheVariants.{General, Vector, Flags, Stack}
use Rattle.instruction_tests.proofs.Arm64.{in_bank, general, vector, flags, stack}
use Rattle.instruction_tests.proofs.results.most_in.Goals as goal

pub returns-in-General : goal.returns-in-General
returns-in-General c = in_bank General c.args.bank _ c.in-General.is general

pub returns-in-Vector : goal.returns-in-Vector
returns-in-Vector c = in_bank Vector c.args.bank _ c.in-Vector.is vector

pub returns-in-Flags : goal.returns-in-Flags
returns-in-Flags c = in_bank Flags c.args.bank _ c.in-Flags.is flags

pub returns-in-Stack : goal.returns-in-Stack
returns-in-Stack c = in_bank Stack c.args.bank _ c.in-Stack.is stack
