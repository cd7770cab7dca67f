use Rattle.std.proofs.Common.{◌≡◌, List, ℕ, [], ◌∷◌, ◌++◌, ap, sym, ◌∙◌, rules}
use Rattle.dataflow.proofs.lists.numbers_below.Goals as goal
use Rattle.sl_laws.proofs.Numbers.{numbers-next, numbers-none}

pub loop-number-init : goal.loop-number-init
loop-number-init c = c.new-numbers.ensures.items ∙ sym numbers-none

pub loop-number-preserved : goal.loop-number-preserved
loop-number-preserved c =
    let more : c.push.new.self.items ≡ c.loop-number.numbers.items ++ c.loop-number.number ∷ [] = search rules in
    more ∙ ap (λ (ns : List ℕ). ns ++ c.loop-number.number ∷ []) c.loop-number.invariant ∙ sym (numbers-next c.loop-number.number)
