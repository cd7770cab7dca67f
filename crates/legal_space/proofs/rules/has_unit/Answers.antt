use Rattle.std.proofs.Common.{arith}
use Rattle.legal_space.proofs.Units.{no_bit_past}
use Rattle.legal_space.proofs.rules.has_unit.Goals as goal

pub returns-then-unit-ge16 : goal.returns-then-unit-ge16
returns-then-unit-ge16 c = no_bit_past c.args.units c.args.unit (omega arith) (omega arith)
