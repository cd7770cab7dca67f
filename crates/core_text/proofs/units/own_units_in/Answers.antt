use Rattle.std.proofs.Common.{◌+◌, map, drop}
use Rattle.std.specs.Result.{is_ok}
use Rattle.toml.specs.View.{view}
use Rattle.core_text.specs.KeyViews.{spelled, stop_refusal}
use Rattle.core_text.specs.Reading.{own_unit_read}
use Rattle.core_text.proofs.InTurn.{so_far-ends, so_far-grows, so_far-refuses, next-at, none-past, pushed}
use Rattle.core_text.proofs.units.own_units_in.Goals as goal

pub returns : goal.returns
returns c =
    so_far-ends (own_unit_read (spelled c.args.key) (map (λ name. name.now) c.args.names.now)) c.loop-value.units.items
    (map view (drop c.loop-value.value-index c.args.list.now)) (map view c.args.list.now) c.loop-value.invariant
    (none-past view c.args.list.now c.loop-value.value-index c.loop-value-test.false)

pub returns-in-Err : goal.returns-in-Err
returns-in-Err c =
    so_far-refuses (own_unit_read (spelled c.args.key) (map (λ name. name.now) c.args.names.now)) (stop_refusal c.in-Err.stop) c.loop-value.units.items c.as_slice.result.now
    (map view (drop c.loop-value.value-index c.args.list.now)) (map view c.args.list.now) (view c.value-item.result)
    (map view (drop (c.loop-value.value-index + 1) c.args.list.now)) c.loop-value.invariant
    (next-at view c.args.list.now c.loop-value.value-index c.value-item.result c.loop-value-test.true c.value-item.is)
    c.as_slice.ensures.value c.in-Err.ensures

pub loop-value-preserved : goal.loop-value-preserved
loop-value-preserved c =
    so_far-grows (own_unit_read (spelled c.args.key) (map (λ name. name.now) c.args.names.now)) c.loop-value.units.items c.as_slice.result.now c.push.new.self.items
    (map view (drop c.loop-value.value-index c.args.list.now)) (map view c.args.list.now) (view c.value-item.result)
    (map view (drop (c.loop-value.value-index + 1) c.args.list.now)) c.in-Ok.unit c.loop-value.invariant
    (next-at view c.args.list.now c.loop-value.value-index c.value-item.result c.loop-value-test.true c.value-item.is)
    c.as_slice.ensures.value c.in-Ok.ensures
    (pushed (is_ok c.push.result) c.is_err.result c.loop-value.units.items c.push.new.self.items c.in-Ok.unit c.push.ensures.items c.if-is_err.false c.is_err.ensures.negation)
