use Rattle.std.proofs.Common.{arith, sym, subst}
use Rattle.race_pool.specs.declared.key.Level.{Level}
use Rattle.race_pool.specs.Decisive.{Has}
use Rattle.race_pool.proofs.Moves.{publishes}
use Rattle.race_pool.proofs.seats.publish.Goals as goal

pub fetch_min-requires : goal.fetch_min-requires
fetch_min-requires g c =
    let s = c.requires.seated in
    let w = c.args.word.now in
    let me = c.args.seat.now.me in
    (s.0, omega (arith, s.1), publishes w.key w.table_id.slots c.args.seat.now.id c.from.result me s.4 (subst (λ (l : Level). Has l.decisive c.from.result) (sym s.5) (subst (Has w.key.decisive) (sym c.from.ensures) c.requires.decisive)))
