use Rattle.std.proofs.Common.{◌≡◌, get_or, max, ◌∙◌, ap, ap₂}
use Rattle.sl_model.specs.Cycles.{first_slot, unit_free, next_cycle}
use Rattle.issue_cost.proofs.tally.Tally.next_cycle.Goals as goal

pub returns : goal.returns
unfolding next_cycle
returns c = λ done h.
    let free : get_or c.args.self.now.free c.from.result 0 ≡ unit_free c.args.unit done =
    ap (λ i. get_or c.args.self.now.free i 0) c.from.ensures ∙ h.free c.args.unit c.requires.unit in
    let slot : c.first_slot.result ≡ first_slot c.args.width done = c.first_slot.ensures done h in
    c.max-2.ensures ∙ ap₂ (λ m n. max m n) slot (c.max.ensures ∙ ap (λ n. max c.args.ready n) free)
