use Rattle.std.proofs.Common.{◌≡◌, ◌+◌, ◌*◌, ◌<◌, ◌≤◌, false, List, length, get_or, sym, ap, ◌∙◌, arith}
use Rattle.std.proofs.lemmas.List.{get_or_read}
use Rattle.sl_model.specs.declared.schedule.Choice.{Choice}
use Rattle.sl_model.specs.declared.limits.TheConstants.{ITEMS}
use Rattle.sl_model.specs.Body.{is_placed}
use Rattle.sl_model.specs.Cycles.{first_slot}
use Rattle.sl_model.specs.Legal.{Problem}
use Rattle.search_space.specs.Bound.{issued_for, height}
use Rattle.issue_cost.proofs.ForCallers.{first_slot-within}
use Rattle.stall_bound.specs.Prepared.{Prepared, heights_of}
use Rattle.stall_bound.specs.Recounts.{Recounts}
use Rattle.stall_bound.proofs.HeightLemmas.{length-heights, height_at}
use Rattle.stall_bound.proofs.NeedLemmas.{needs-unplaced}
use Rattle.stall_bound.proofs.bounds.Bounds.needs.Goals as goal

pub index-requires : goal.index-requires
index-requires c =
    let are : c.self.inside.heights.items ≡ heights_of c.args.problem.now = ap (λ (v : Prepared). v.heights) c.self.view_is ∙ c.requires.started in
    let len : length c.self.inside.heights.items ≡ length c.args.problem.now.graph.items = ap length are ∙ length-heights c.args.problem.now in
    omega (arith, c.self.inside.heights.ok.0, c.from.ensures, c.requires.item)

pub overflow_add-result : goal.overflow_add-result
overflow_add-result c =
    let problem : Problem = c.args.problem.now in
    let done : List Choice = c.requires.is_one.0 in
    let h : Recounts problem done c.args.recount.now = c.requires.is_one.1 in
    let are : c.self.inside.heights.items ≡ heights_of problem = ap (λ (v : Prepared). v.heights) c.self.view_is ∙ c.requires.started in
    let len : length c.self.inside.heights.items ≡ length problem.graph.items = ap length are ∙ length-heights problem in
    let within : c.from.result < length c.self.inside.heights.items = omega (arith, c.from.ensures, c.requires.item) in
    let read : c.index.result.now ≡ get_or c.self.inside.heights.items c.from.result 0 = get_or_read c.self.inside.heights.items _ _ within c.index.ensures 0 in
    let low : get_or c.self.inside.heights.items c.from.result 0 ≤ 1 + 255 * ITEMS = c.self.invariant c.from.result within in
    let slot : c.args.slot ≡ first_slot problem.costs.width (issued_for problem done) = c.requires.slot done h in
    let soon : first_slot problem.costs.width (issued_for problem done) ≤ 512 * length done = first_slot-within problem.costs.width (512 * length done) (issued_for problem done) h.soon in
    let known : c.known.result ≤ 512 * c.args.recount.now.placed + 255 = c.known.ensures.soon in
    let placed : c.args.recount.now.placed ≡ length done = h.placed in
    omega (arith, c.max-earliest.ensures, c.requires.few)

pub returns : goal.returns
returns c = λ (done : List Choice) (h : Recounts c.args.problem.now done c.args.recount.now).
    let problem : Problem = c.args.problem.now in
    let are : c.self.inside.heights.items ≡ heights_of problem = ap (λ (v : Prepared). v.heights) c.self.view_is ∙ c.requires.started in
    let len : length c.self.inside.heights.items ≡ length problem.graph.items = ap length are ∙ length-heights problem in
    let within : c.from.result < length c.self.inside.heights.items = omega (arith, c.from.ensures, c.requires.item) in
    let none : is_placed done c.args.item ≡ false = sym (c.is_placed.ensures done h) ∙ c.if-is_placed.false in
    let tall : c.index.result.now ≡ height problem c.args.item =
    get_or_read c.self.inside.heights.items _ _ within c.index.ensures 0 ∙ ap (λ q. get_or c.self.inside.heights.items q 0) c.from.ensures
    ∙ ap (λ xs. get_or xs c.args.item 0) are ∙ height_at problem c.args.item c.requires.item in
    ap (λ n. n + c.index.result.now) c.max-earliest.ensures
    ∙ needs-unplaced problem done c.args.item c.known.result c.args.slot c.index.result.now none (c.known.ensures.known done h) (c.requires.slot done h) tall
