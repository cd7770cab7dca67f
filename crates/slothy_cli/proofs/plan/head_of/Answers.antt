use Rattle.std.proofs.Common.{◌&&◌, ◌^◌, nat_lt, lt-ltb, arith}
use Rattle.std.proofs.lemmas.Bool.{and_from}
use Rattle.slothy_cli.proofs.plan.head_of.Goals as goal

pub returns-clause-whole : goal.returns-clause-whole
returns-clause-whole c =
    and_from (nat_lt c.args.items (2 ^ 64)) (nat_lt c.args.cycles (2 ^ 64) && nat_lt c.args.stalls (2 ^ 64)) (lt-ltb c.args.items (2 ^ 64) (omega (arith, c.ranges.items.fits)))
    (and_from (nat_lt c.args.cycles (2 ^ 64)) (nat_lt c.args.stalls (2 ^ 64)) (lt-ltb c.args.cycles (2 ^ 64) (omega (arith, c.ranges.cycles.fits))) (lt-ltb c.args.stalls (2 ^ 64) (omega (arith, c.ranges.stalls.fits))))
