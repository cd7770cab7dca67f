use Rattle.std.proofs.Common.{◌≡◌, ◌<◌, length, reverse, None, sym, ◌∙◌, subst, arith}
use Rattle.std.specs.List.{find, flat_map}
use Rattle.sl_model.specs.Source.{numbers_below}
use Rattle.search_space.specs.Next.{choices_of, may_follow}
use Rattle.search_space.proofs.ForCallers.{none-first, none-more, some-first, placed-none, next_behind-items}
use Rattle.reduced_choice.proofs.next.next_choice.Goals as goal

pub loop-item-init : goal.loop-item-init
loop-item-init c = none-first (may_follow c.args.problem.now (reverse c.args.done.now) c.args.after) (choices_of c.args.problem.now)

pub loop-item-preserved-then-is_placed : goal.loop-item-preserved-then-is_placed
loop-item-preserved-then-is_placed c =
    none-more (may_follow c.args.problem.now (reverse c.args.done.now) c.args.after) (choices_of c.args.problem.now) c.loop-item.item c.loop-item.invariant
    (placed-none c.args.problem.now c.is_searchable.ensures (reverse c.args.done.now) c.args.after c.loop-item.item (sym c.is_placed.ensures ∙ c.if-is_placed.true))

pub loop-item-preserved : goal.loop-item-preserved
loop-item-preserved c =
    none-more (may_follow c.args.problem.now (reverse c.args.done.now) c.args.after) (choices_of c.args.problem.now) c.loop-item.item c.loop-item.invariant (sym c.in_default.ensures)

pub returns-in-Some : goal.returns-in-Some
returns-in-Some c =
    let below : c.loop-item.item < length c.args.problem.now.graph.items = omega (arith, c.len-item-end.ensures.len, c.loop-item-test.true) in
    sym (next_behind-items c.args.problem.now c.is_searchable.ensures (reverse c.args.done.now) c.args.after
    ∙ some-first (may_follow c.args.problem.now (reverse c.args.done.now) c.args.after) (choices_of c.args.problem.now) c.loop-item.item (length c.args.problem.now.graph.items) c.in-Some.choice
    c.loop-item.invariant below (sym c.in-Some.ensures))

pub returns : goal.returns
returns c =
    let all : c.loop-item.item ≡ length c.args.problem.now.graph.items = omega (arith, c.len-item-end.ensures.len, c.loop-item-test.false, c.loop-item.auto.item-end) in
    sym (next_behind-items c.args.problem.now c.is_searchable.ensures (reverse c.args.done.now) c.args.after
    ∙ subst (λ n. find (may_follow c.args.problem.now (reverse c.args.done.now) c.args.after) (flat_map (choices_of c.args.problem.now) (numbers_below n)) ≡ None) all c.loop-item.invariant)
