use Rattle.std.proofs.Common.{arith, subst}
use Rattle.race_pool.specs.declared.key.Level.{Level}
use Rattle.race_pool.specs.Race.{IsMark}
use Rattle.race_pool.proofs.Moves.{looks}
use Rattle.race_pool.proofs.seats.read_word.Goals as goal

pub load-requires : goal.load-requires
load-requires g c =
    let s = c.requires in
    (s.0, omega (arith, s.1), looks c.args.word.now.key c.args.word.now.table_id.slots c.args.seat.now.id c.args.seat.now.me s.4 0)

pub returns-clause-mark : goal.returns-clause-mark
returns-clause-mark g c = subst (λ (l : Level). IsMark l c.load.result) c.requires.5 c.load.ensures.2.2
