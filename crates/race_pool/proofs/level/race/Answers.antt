use Rattle.std.proofs.Common.{ℕ, arith, sym, ◌∙◌, subst}
use Rattle.race_pool.specs.declared.key.Level.{Level}
use Rattle.race_pool.specs.Race.{IsMark}
use Rattle.race_pool.proofs.Settled.{settled, last_word}
use Rattle.race_pool.proofs.level.race.Goals as goal

pub returns-clause-answered : goal.returns-clause-answered
returns-clause-answered g c =
    let outcome = λ (u : ℕ). g.F.Forest.outcome c.args.round.now.forest.now u c.args.round.now.level in
    let count = g.F.Forest.tree_count c.args.round.now.forest.now in
    let holds = λ (w : g.row.F-Worker.Denot) (u : ℕ). g.F.Forest.holds c.args.round.now.forest.now w u c.args.round.now.level in
    let h = c.run_half-best.ensures in
    settled outcome count holds c.args.round.now.stride c.run_half-best.new.workers c.run_half-best.result (omega (arith, c.requires.some, c.requires.all)) (h.0 ∙ sym c.requires.all) h.4 h.5

pub returns-clause-word : goal.returns-clause-word
returns-clause-word g c =
    let outcome = λ (u : ℕ). g.F.Forest.outcome c.args.round.now.forest.now u c.args.round.now.level in
    let count = g.F.Forest.tree_count c.args.round.now.forest.now in
    let holds = λ (w : g.row.F-Worker.Denot) (u : ℕ). g.F.Forest.holds c.args.round.now.forest.now w u c.args.round.now.level in
    let h = c.run_half-best.ensures in
    let w = c.read_word.ensures in
    let a = settled outcome count holds c.args.round.now.stride c.run_half-best.new.workers c.run_half-best.result (omega (arith, c.requires.some, c.requires.all)) (h.0 ∙ sym c.requires.all) h.4 h.5 in
    last_word outcome count holds c.args.round.now.stride c.run_half-best.new.workers c.run_half-best.result c.read_word.result a h.4 (subst (λ (l : Level). IsMark l c.read_word.result) c.requires.start.0 w.mark) (let p = w.best in let q = h.3 in omega (arith, p, q))
