use Rattle.std.proofs.Common.{◌≡◌, ℕ, ◌≤◌, sym, ap, ◌∙◌, subst}
use Rattle.atomic_table.specs.declared.shared.Seat.{Seat}
use Rattle.race_pool.specs.declared.key.Level.{Level}
use Rattle.race_pool.specs.declared.rule.View.{View}
use Rattle.race_pool.specs.Told.{has_below}
use Rattle.race_pool.proofs.Decided.{searched_by}
use Rattle.race_pool.proofs.turn.search_tree.Goals as goal

abbrev Chair : Type 0
Chair = Seat (Unit {0}) View

pub returns-clause-seated : goal.returns-clause-seated
returns-clause-seated g c =
    let old = c.requires.seated in
    let kept = c.search-outcome.ensures.kept in
    let made = c.new-stop.ensures in
    let stop = c.search-outcome.new.stop in
    let same = c.into_seat.ensures in
    let level = ap (λ s. s.me.0.level) same ∙ ap (λ m. m.level) kept ∙ ap (λ s. s.me.0.level) made.2 ∙ old.5 in (
      ap (λ s. s.table_id) same ∙ ap (λ m. m.table_id) kept ∙ ap (λ s. s.table_id) made.2 ∙ old.0,
      old.1,
      old.2,
      ap (λ s. s.me.1) same ∙ stop.seated.3,
      ap (λ s. s.me.0.live) same ∙ stop.live.0,
      level,
      subst (λ (l : Level). c.into_seat.result.me.0.best ≤ l.count) level (subst (λ (s : Chair). s.me.0.best ≤ s.me.0.level.count) (sym same) stop.live.2),
    )

pub returns-clause-searched : goal.returns-clause-searched
returns-clause-searched g c =
    let e = c.search-outcome.ensures in
    let made = c.new-stop.ensures in
    let stop = c.search-outcome.new.stop in
    let tree : stop.tree ≡ c.args.tree = ap (λ m. m.tree) e.kept ∙ made.1 in
    let level : stop.seat.me.0.level ≡ c.args.round.now.word.now.key = ap (λ m. m.level) e.kept ∙ ap (λ s. s.me.0.level) made.2 ∙ c.requires.seated.5 in
    searched_by (λ t. g.F.Forest.outcome c.args.round.now.forest.now t c.args.round.now.level) (λ t. g.F.Forest.holds c.args.round.now.forest.now c.search-outcome.new.worker t c.args.round.now.level) (g.F.Forest.tree_count c.args.round.now.forest.now) c.args.tree stop.told c.search-outcome.result e.cancelled e.outcome e.found
    (λ told. sym (ap (λ (n : ℕ). has_below n stop.seat.me.0.level.decisive) tree ∙ ap (λ l. has_below c.args.tree l.decisive) (level ∙ c.requires.level)) ∙ stop.lower told)
