use Rattle.std.proofs.Common.{◌≡◌, ◌<◌, ◌≤◌, true, arith, sym, ap, ◌∙◌, subst}
use Rattle.std.proofs.lemmas.Bool.{ltb-true}
use Rattle.atomic_table.specs.Table.{Me}
use Rattle.race_pool.specs.declared.rule.View.{View}
use Rattle.race_pool.specs.Told.{has_below}
use Rattle.race_pool.proofs.Moves.{looks}
use Rattle.race_pool.proofs.Below.{below_found, is_decisive}
use Rattle.race_pool.proofs.race_stop.RaceStopStop.poll.Goals as goal
use Rattle.race_pool.proofs.race_stop.RaceStopStop.poll.Goals.{then-self, else-self}

pub load-found-requires : goal.load-found-requires
load-found-requires g c =
    let s = c.args.self.now in
    (s.seated.0, omega (arith, s.seated.1), looks s.word.now.key s.word.now.table_id.slots s.seat.id s.seat.me s.live.0 0)

pub invariant_of-self : goal.invariant_of-self
invariant_of-self g c =
    let s = c.args.self.now in
    let l = c.load-found.ensures in
    let found = c.load-found.result in
    let same : c.load-found.new.seat.me ≡ s.seat.me = l.2.0 in
    let told : c.if-self.self ≡ true → has_below s.tree s.seat.me.0.level.decisive ≡ true =
    elim c.if-self.branch [ then-self w ↦ λ t. s.lower w.if-self.true | else-self w ↦ λ t. let lt : found < c.from.result = ltb-true found c.from.result (sym w.self-is ∙ t) in below_found s.tree found s.seat.me.0.level.decisive (is_decisive s.seat.me.0.level found s.tree l.2.2 s.live.1 (omega (arith, lt, c.from.ensures))) (omega (arith, lt, c.from.ensures)) ]
    in
    record {
      seated = (l.0 ∙ s.seated.0, s.seated.1, s.seated.2, ap (λ m. m.1) same ∙ s.seated.3);
      live = (ap (λ m. m.0.live) same ∙ s.live.0, subst (λ (m : Me (Unit {0}) View). s.tree < m.0.level.count) (sym same) s.live.1, subst (λ (m : Me (Unit {0}) View). m.0.best ≤ m.0.level.count) (sym same) s.live.2);
      lower = λ t. ap (λ m. has_below s.tree m.0.level.decisive) same ∙ told t;
    }
