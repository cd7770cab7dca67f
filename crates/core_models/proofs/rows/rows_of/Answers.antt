use Rattle.std.proofs.Common.{◌+◌, refl, drop, length}
use Rattle.std.specs.Result.{is_ok}
use Rattle.std.proofs.lemmas.List.{drop_all, drop_more}
use Rattle.sl_model.specs.Source.{item_at}
use Rattle.issue_cost.specs.Sound.{is_sound_row}
use Rattle.core_text.proofs.ForCallers.{so_far-ends, so_far-grows, so_far-refuses, pushed}
use Rattle.core_models.specs.Costs.{has_known_units, lacking_of, row_next}
use Rattle.core_models.proofs.RowsSoFar.{refused-at, read-at, one-more, all-pass}
use Rattle.core_models.proofs.rows.rows_of.Goals as goal

pub returns-in-Err-clause-rows : goal.returns-in-Err-clause-rows
returns-in-Err-clause-rows g c =
    so_far-refuses (row_next c.args.core.now g.A.Arch.language.isa) (lacking_of c.in-Err.error) c.loop-place.rows.items c.loop-place.rows.items (drop c.loop-place.place c.args.items.now) c.args.items.now
    (item_at c.args.items.now c.loop-place.place) (drop (c.loop-place.place + 1) c.args.items.now) c.loop-place.invariant.so_far (drop_more c.args.items.now c.loop-place.place _ c.loop-place-test.true) refl
    (refused-at c.args.core.now (g.A.Arch.language.isa.info (item_at c.args.items.now c.loop-place.place).form) c.loop-place.rows.items c.loop-place.place (lacking_of c.in-Err.error) c.loop-place.invariant.count
    c.in-Err.ensures.row)

pub loop-place-preserved : goal.loop-place-preserved
loop-place-preserved g c =
    let grown = pushed (is_ok c.push.result) c.is_err.result c.loop-place.rows.items c.push.new.self.items c.in-Ok.row c.push.ensures.items c.if-is_err.false c.is_err.ensures.negation in
    record {
      so_far =
          so_far-grows (row_next c.args.core.now g.A.Arch.language.isa) c.loop-place.rows.items c.loop-place.rows.items c.push.new.self.items (drop c.loop-place.place c.args.items.now) c.args.items.now
          (item_at c.args.items.now c.loop-place.place) (drop (c.loop-place.place + 1) c.args.items.now) c.in-Ok.row c.loop-place.invariant.so_far
          (drop_more c.args.items.now c.loop-place.place _ c.loop-place-test.true) refl
          (read-at c.args.core.now (g.A.Arch.language.isa.info (item_at c.args.items.now c.loop-place.place).form) c.loop-place.rows.items c.loop-place.place c.in-Ok.row c.loop-place.invariant.count c.in-Ok.ensures.row)
          grown;
      count = one-more c.loop-place.rows.items c.push.new.self.items c.in-Ok.row c.loop-place.place c.loop-place.invariant.count grown;
      sound = all-pass is_sound_row c.loop-place.rows.items c.push.new.self.items c.in-Ok.row c.loop-place.invariant.sound c.in-Ok.ensures.sound grown;
      known = all-pass (has_known_units (length c.args.core.now.units)) c.loop-place.rows.items c.push.new.self.items c.in-Ok.row c.loop-place.invariant.known c.in-Ok.ensures.known grown;
    }

pub returns-clause-rows : goal.returns-clause-rows
returns-clause-rows g c =
    so_far-ends (row_next c.args.core.now g.A.Arch.language.isa) c.loop-place.rows.items (drop c.loop-place.place c.args.items.now) c.args.items.now c.loop-place.invariant.so_far
    (drop_all c.loop-place.place c.args.items.now c.loop-place-test.false)
