use Rattle.std.proofs.Common.{◌≡◌, ◌==◌, false, [], reverse, Some, None, sym, ap, ◌∙◌, subst, arith}
use Rattle.std.specs.Int.{bit_at}
use Rattle.std.specs.List.{find, flat_map}
use Rattle.sl_model.specs.Source.{numbers_below}
use Rattle.sl_model.specs.Cycles.{row_of}
use Rattle.search_space.specs.Searchable.{output_count}
use Rattle.search_space.specs.Next.{may_follow}
use Rattle.search_space.specs.Trials.{beginning}
use Rattle.search_space.proofs.ForCallers.{none-first, none-more, some-first, choices_of-units}
use Rattle.reduced_choice.proofs.Barred.{unit-none}
use Rattle.reduced_choice.proofs.next.next_of.Goals as goal

pub loop-unit-init : goal.loop-unit-init
loop-unit-init c = none-first (may_follow c.args.problem.now (reverse c.args.done.now) c.args.after) (λ unit. beginning c.args.item unit [] (output_count c.args.problem.now c.args.item))

pub loop-unit-preserved-then-not-has_unit : goal.loop-unit-preserved-then-not-has_unit
loop-unit-preserved-then-not-has_unit c =
    let units : c.units-units.result ≡ (row_of c.args.problem.now.costs c.args.item).units = c.units-units.ensures.units ∙ ap (λ costs. (row_of costs c.args.item).units) c.costs.ensures.costs in
    let other : (bit_at (row_of c.args.problem.now.costs c.args.item).units c.loop-unit.unit == 1) ≡ false =
    ap (λ n. bit_at n c.loop-unit.unit == 1) (sym units) ∙ sym c.has_unit.ensures ∙ c.if-not-has_unit.true in
    none-more (may_follow c.args.problem.now (reverse c.args.done.now) c.args.after) (λ unit. beginning c.args.item unit [] (output_count c.args.problem.now c.args.item)) c.loop-unit.unit c.loop-unit.invariant
    (unit-none c.args.problem.now (reverse c.args.done.now) c.args.after c.args.item c.loop-unit.unit (output_count c.args.problem.now c.args.item) other)

pub loop-unit-preserved : goal.loop-unit-preserved
loop-unit-preserved c =
    let here : find (may_follow c.args.problem.now (reverse c.args.done.now) c.args.after) (beginning c.args.item c.loop-unit.unit [] (output_count c.args.problem.now c.args.item)) ≡ None =
    ap (λ n. find (may_follow c.args.problem.now (reverse c.args.done.now) c.args.after) (beginning c.args.item c.loop-unit.unit [] n)) (sym c.output_count-count.ensures) ∙ sym c.in_default.ensures in
    none-more (may_follow c.args.problem.now (reverse c.args.done.now) c.args.after) (λ unit. beginning c.args.item unit [] (output_count c.args.problem.now c.args.item)) c.loop-unit.unit c.loop-unit.invariant here

pub returns-in-Some : goal.returns-in-Some
returns-in-Some c =
    let here : find (may_follow c.args.problem.now (reverse c.args.done.now) c.args.after) (beginning c.args.item c.loop-unit.unit [] (output_count c.args.problem.now c.args.item)) ≡ Some c.in-Some.choice =
    ap (λ n. find (may_follow c.args.problem.now (reverse c.args.done.now) c.args.after) (beginning c.args.item c.loop-unit.unit [] n)) (sym c.output_count-count.ensures) ∙ sym c.in-Some.ensures in
    sym (ap (find (may_follow c.args.problem.now (reverse c.args.done.now) c.args.after)) (choices_of-units c.args.problem.now c.args.item)
    ∙ some-first (may_follow c.args.problem.now (reverse c.args.done.now) c.args.after) (λ unit. beginning c.args.item unit [] (output_count c.args.problem.now c.args.item)) c.loop-unit.unit 16 c.in-Some.choice
    c.loop-unit.invariant c.loop-unit-test.true here)

pub returns : goal.returns
returns c =
    let all : c.loop-unit.unit ≡ 16 = omega (arith, c.loop-unit-test.false, c.loop-unit.auto.unit-end) in
    sym (ap (find (may_follow c.args.problem.now (reverse c.args.done.now) c.args.after)) (choices_of-units c.args.problem.now c.args.item)
    ∙ subst (λ n. find (may_follow c.args.problem.now (reverse c.args.done.now) c.args.after) (flat_map (λ unit. beginning c.args.item unit [] (output_count c.args.problem.now c.args.item)) (numbers_below n)) ≡ None) all c.loop-unit.invariant)
