use Rattle.std.proofs.Common.{◌+◌, ◌∙◌, ◌∷◌, [], ap, List, Bor, map, drop}
use Rattle.std.specs.Result.{is_ok}
use Rattle.std.proofs.lemmas.List.{map-append}
use Rattle.toml.specs.View.{view}
use Rattle.core_text.specs.KeyViews.{spelled, stop_refusal}
use Rattle.core_text.specs.Refusal.{Text}
use Rattle.core_text.specs.Reading.{unit_read}
use Rattle.core_text.proofs.InTurn.{so_far-ends, so_far-grows, so_far-refuses, next-at, none-past, pushed}
use Rattle.core_text.proofs.units.units_in.Goals as goal

abbrev texts : List (Bor Text) → List Text
texts = map (λ name. name.now)

pub returns : goal.returns
returns c =
    so_far-ends (unit_read (spelled c.args.key)) (texts c.loop-value.names.items)
    (map view (drop c.loop-value.value-index c.args.list.now)) (map view c.args.list.now) c.loop-value.invariant
    (none-past view c.args.list.now c.loop-value.value-index c.loop-value-test.false)

pub returns-in-Err : goal.returns-in-Err
returns-in-Err c =
    so_far-refuses (unit_read (spelled c.args.key)) (stop_refusal c.in-Err.stop) (texts c.loop-value.names.items) (texts c.as_slice.result.now)
    (map view (drop c.loop-value.value-index c.args.list.now)) (map view c.args.list.now) (view c.value-item.result)
    (map view (drop (c.loop-value.value-index + 1) c.args.list.now)) c.loop-value.invariant
    (next-at view c.args.list.now c.loop-value.value-index c.value-item.result c.loop-value-test.true c.value-item.is)
    (ap texts c.as_slice.ensures.value) c.in-Err.ensures

pub loop-value-preserved : goal.loop-value-preserved
loop-value-preserved c =
    so_far-grows (unit_read (spelled c.args.key)) (texts c.loop-value.names.items) (texts c.as_slice.result.now) (texts c.push.new.self.items)
    (map view (drop c.loop-value.value-index c.args.list.now)) (map view c.args.list.now) (view c.value-item.result)
    (map view (drop (c.loop-value.value-index + 1) c.args.list.now)) c.in-Ok.name.now c.loop-value.invariant
    (next-at view c.args.list.now c.loop-value.value-index c.value-item.result c.loop-value-test.true c.value-item.is)
    (ap texts c.as_slice.ensures.value) c.in-Ok.ensures
    (ap texts (pushed (is_ok c.push.result) c.is_err.result c.loop-value.names.items c.push.new.self.items c.in-Ok.name c.push.ensures.items c.if-is_err.false c.is_err.ensures.negation)
    ∙ map-append (λ (name : Bor Text). name.now) c.loop-value.names.items (c.in-Ok.name ∷ []))
