use Rattle.std.proofs.Common.{◌≡◌, ◌+◌, ◌≤◌, true, length, reverse, is_some, sym, ap, ◌∙◌, arith}
use Rattle.sl_model.specs.Body.{chosen}
use Rattle.sl_model.specs.Legal.{first_broken}
use Rattle.search_space.specs.Searchable.{output_room}
use Rattle.reduced_choice.proofs.Barred.{barred-none, early-none}
use Rattle.reduced_choice.proofs.next.next_from.Goals as goal

pub returns-then-is_early : goal.returns-then-is_early
returns-then-is_early c =
    let none : length (chosen c.args.front.now) ≡ 0 = ap length c.requires.none in
    let few = c.is_searchable.ensures.few_outputs c.args.front.now.item c.requires.known in
    let room : length (chosen c.args.front.now) + c.args.count ≤ output_room = omega (arith, none, few, c.requires.count) in
    sym (early-none c.args.problem.now (reverse c.args.done.now) c.args.after c.args.front.now c.args.count room (sym c.is_early.ensures ∙ c.if-is_early.true))

pub returns-then-is_some : goal.returns-then-is_some
returns-then-is_some c =
    let broken : is_some (first_broken c.args.problem.now (reverse c.args.done.now) c.args.front.now) ≡ true = ap is_some (sym c.first_broken.ensures) ∙ sym c.is_some.ensures ∙ c.if-is_some.true in
    sym (barred-none c.args.problem.now (reverse c.args.done.now) c.args.after c.args.front.now c.args.count c.requires.shape c.requires.none broken)
