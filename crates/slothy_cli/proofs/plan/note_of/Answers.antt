use Rattle.std.proofs.Common.{◌&&◌, ◌^◌, nat_lt, lt-ltb, arith}
use Rattle.std.proofs.lemmas.Bool.{and_from}
use Rattle.asm_reader.proofs.ForCallers.{unit_name_short}
use Rattle.slothy_cli.proofs.plan.note_of.Goals as goal

pub new-requires : goal.new-requires
new-requires c = unit_name_short c.args.unit.now c.requires.shape

pub returns-clause-whole : goal.returns-clause-whole
returns-clause-whole c =
    and_from (nat_lt c.args.item (2 ^ 64)) (nat_lt c.args.cycle (2 ^ 64) && nat_lt c.args.line (2 ^ 64)) (lt-ltb c.args.item (2 ^ 64) (omega (arith, c.ranges.item.fits)))
    (and_from (nat_lt c.args.cycle (2 ^ 64)) (nat_lt c.args.line (2 ^ 64)) (lt-ltb c.args.cycle (2 ^ 64) (omega (arith, c.ranges.cycle.fits))) (lt-ltb c.args.line (2 ^ 64) (omega (arith, c.ranges.line.fits))))
