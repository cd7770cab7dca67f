use Rattle.std.proofs.Common.{◌≡◌, suc, true, ◌+◌, ◌-◌, ◌≤◌, ◌++◌, ◌∷◌, [], length, reverse, Some, None, sym, ap, ◌∙◌, subst, length-append, arith}
use Rattle.std.specs.List.{find, flat_map}
use Rattle.sl_model.specs.Source.{outputs, item_at, numbers_below}
use Rattle.sl_model.specs.Body.{chosen}
use Rattle.search_space.specs.Searchable.{output_room, output_count}
use Rattle.search_space.specs.Next.{may_follow}
use Rattle.search_space.specs.Trials.{reg_of_bit, beginning, is_hopeless}
use Rattle.search_space.proofs.ForCallers.{none-first, none-more, some-first, last-found, more-found, hopeless-found}
use Rattle.reduced_choice.proofs.Barred.{with_bit, early-none}
use Rattle.reduced_choice.proofs.next.+next_on.Goals as goal

pub returns-then-left-eq0 : goal.returns-then-left-eq0
returns-then-left-eq0 t c =
    c.if_next.ensures ∙ last-found c.args.problem.now c.is_searchable.ensures (reverse c.args.done.now) c.args.after c.args.front.now.item c.args.front.now.unit (chosen c.args.front.now) c.args.front.now.outs c.args.left c.requires.shape c.if-left-eq0.true

pub loop-bit-init : goal.loop-bit-init
loop-bit-init t c =
    none-first (may_follow c.args.problem.now (reverse c.args.done.now) c.args.after) (with_bit c.args.front.now.item c.args.front.now.unit (chosen c.args.front.now) c.args.left)

pub loop-bit-preserved-then-is_early : goal.loop-bit-preserved-then-is_early
loop-bit-preserved-then-is_early t c =
    let p = may_follow c.args.problem.now (reverse c.args.done.now) c.args.after in
    let regs : chosen c.with_reg-more.result ≡ chosen c.args.front.now ++ reg_of_bit c.loop-bit.bit ∷ [] =
    c.with_reg-more.ensures.regs ∙ ap (λ r. chosen c.args.front.now ++ r ∷ []) c.reg_of_bit-reg.ensures in
    let count : length (chosen c.with_reg-more.result) ≡ length (chosen c.args.front.now) + 1 = ap length regs ∙ length-append (chosen c.args.front.now) (reg_of_bit c.loop-bit.bit ∷ []) in
    let few : output_count c.args.problem.now c.args.front.now.item ≤ output_room = c.is_searchable.ensures.few_outputs c.args.front.now.item c.requires.known in
    let room : length (chosen c.with_reg-more.result) + (c.args.left - 1) ≤ output_room = omega (arith, count, few, c.requires.place, c.requires.left, c.if-left-eq0.false) in
    let early = early-none c.args.problem.now (reverse c.args.done.now) c.args.after c.with_reg-more.result (c.args.left - 1) room (sym c.is_early.ensures ∙ c.if-is_early.true) in
    none-more p (with_bit c.args.front.now.item c.args.front.now.unit (chosen c.args.front.now) c.args.left) c.loop-bit.bit c.loop-bit.invariant
    ((λ i. find p (beginning (sym c.with_reg-more.ensures.item i) (sym c.with_reg-more.ensures.unit i) (sym regs i) (c.args.left - 1))) ∙ early)

pub loop-bit-preserved-then-is_hopeless : goal.loop-bit-preserved-then-is_hopeless
loop-bit-preserved-then-is_hopeless t c =
    let front = chosen c.args.front.now in
    let count : length front + suc (c.args.left - 1) ≡ length (outputs (item_at c.args.problem.now.graph.items c.args.front.now.item)) = omega (arith, c.requires.place, c.requires.left, c.if-left-eq0.false) in
    let hopeless : is_hopeless c.args.problem.now (reverse c.args.done.now) c.args.front.now.item front (reg_of_bit c.loop-bit.bit) ≡ true =
    ap (is_hopeless c.args.problem.now (reverse c.args.done.now) c.args.front.now.item front) (sym c.reg_of_bit-reg.ensures) ∙ sym c.is_hopeless.ensures ∙ c.if-is_hopeless.true in
    none-more (may_follow c.args.problem.now (reverse c.args.done.now) c.args.after)
    (with_bit c.args.front.now.item c.args.front.now.unit front c.args.left) c.loop-bit.bit c.loop-bit.invariant
    (hopeless-found c.args.problem.now c.is_searchable.ensures (reverse c.args.done.now) c.args.after c.args.front.now.item c.args.front.now.unit front (reg_of_bit c.loop-bit.bit) (c.args.left - 1) count hopeless)

pub returns-in-Some : goal.returns-in-Some
returns-in-Some t c =
    let p = may_follow c.args.problem.now (reverse c.args.done.now) c.args.after in
    let regs : chosen c.with_reg-more.result ≡ chosen c.args.front.now ++ reg_of_bit c.loop-bit.bit ∷ [] =
    c.with_reg-more.ensures.regs ∙ ap (λ r. chosen c.args.front.now ++ r ∷ []) c.reg_of_bit-reg.ensures in
    let here : find p (with_bit c.args.front.now.item c.args.front.now.unit (chosen c.args.front.now) c.args.left c.loop-bit.bit) ≡ Some c.in-Some.choice =
    (λ i. find p (beginning (sym c.with_reg-more.ensures.item i) (sym c.with_reg-more.ensures.unit i) (sym regs i) (c.args.left - 1))) ∙ sym c.in-Some.ensures in
    sym (more-found c.args.problem.now c.is_searchable.ensures (reverse c.args.done.now) c.args.after c.args.front.now.item c.args.front.now.unit (chosen c.args.front.now) c.args.left (omega (arith, c.if-left-eq0.false))
    ∙ some-first p (with_bit c.args.front.now.item c.args.front.now.unit (chosen c.args.front.now) c.args.left) c.loop-bit.bit 66 c.in-Some.choice c.loop-bit.invariant c.loop-bit-test.true here)

pub loop-bit-preserved : goal.loop-bit-preserved
loop-bit-preserved t c =
    let p = may_follow c.args.problem.now (reverse c.args.done.now) c.args.after in
    let regs : chosen c.with_reg-more.result ≡ chosen c.args.front.now ++ reg_of_bit c.loop-bit.bit ∷ [] =
    c.with_reg-more.ensures.regs ∙ ap (λ r. chosen c.args.front.now ++ r ∷ []) c.reg_of_bit-reg.ensures in
    none-more p (with_bit c.args.front.now.item c.args.front.now.unit (chosen c.args.front.now) c.args.left) c.loop-bit.bit c.loop-bit.invariant
    ((λ i. find p (beginning (sym c.with_reg-more.ensures.item i) (sym c.with_reg-more.ensures.unit i) (sym regs i) (c.args.left - 1))) ∙ sym c.in_default.ensures)

pub returns : goal.returns
returns t c =
    let p = may_follow c.args.problem.now (reverse c.args.done.now) c.args.after in
    let all : c.loop-bit.bit ≡ 66 = omega (arith, c.loop-bit-test.false, c.loop-bit.auto.bit-end) in
    sym (more-found c.args.problem.now c.is_searchable.ensures (reverse c.args.done.now) c.args.after c.args.front.now.item c.args.front.now.unit (chosen c.args.front.now) c.args.left (omega (arith, c.if-left-eq0.false))
    ∙ subst (λ n. find p (flat_map (with_bit c.args.front.now.item c.args.front.now.unit (chosen c.args.front.now) c.args.left) (numbers_below n)) ≡ None) all c.loop-bit.invariant)
