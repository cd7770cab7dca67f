use Rattle.std.proofs.Common.{◌≡◌, ◌||◌, not, reverse, sym, ap, ap₂, ◌∙◌, arith}
use Rattle.std.specs.List.{list_all}
use Rattle.std.proofs.lemmas.Bool.{or_right}
use Rattle.sl_model.specs.Source.{numbers_below}
use Rattle.sl_model.specs.Body.{is_placed, stands_in}
use Rattle.sl_model.specs.declared.limits.TheConstants.{SET_ITEMS}
use Rattle.legal_space.proofs.PlacedSets.{members-none, members-next, members-all, members-broken}
use Rattle.legal_space.proofs.placed.are_placed.Goals as goal

pub loop-item-init : goal.loop-item-init
loop-item-init c = members-none c.args.items.now (is_placed (reverse c.args.done.now))

pub loop-item-preserved-then-not-contains : goal.loop-item-preserved-then-not-contains
loop-item-preserved-then-not-contains c =
    members-next c.args.items.now (is_placed (reverse c.args.done.now)) c.loop-item.item c.loop-item.invariant
    (ap (λ b. not b || is_placed (reverse c.args.done.now) c.loop-item.item) (sym c.contains.ensures ∙ c.if-not-contains.true))

pub loop-item-preserved : goal.loop-item-preserved
loop-item-preserved c =
    members-next c.args.items.now (is_placed (reverse c.args.done.now)) c.loop-item.item c.loop-item.invariant
    (or_right (not (stands_in c.loop-item.item c.args.items.now)) (is_placed (reverse c.args.done.now) c.loop-item.item) (sym c.is_placed.ensures ∙ c.if-not-is_placed.false))

pub returns-then-not-is_placed : goal.returns-then-not-is_placed
returns-then-not-is_placed c =
    members-broken c.args.items.now (is_placed (reverse c.args.done.now)) SET_ITEMS c.loop-item.item c.is_ascending.ensures (omega arith)
    (ap₂ (λ a b. not a || b) (sym c.contains.ensures ∙ c.if-not-contains.false) (sym c.is_placed.ensures ∙ c.if-not-is_placed.true))

pub returns : goal.returns
returns c =
    let all : c.loop-item.item ≡ SET_ITEMS = omega arith in
    sym (members-all c.args.items.now (is_placed (reverse c.args.done.now)) SET_ITEMS c.is_ascending.ensures
    ∙ ap (λ n. list_all (λ p. not (stands_in p c.args.items.now) || is_placed (reverse c.args.done.now) p) (numbers_below n)) (sym all)
    ∙ c.loop-item.invariant)
