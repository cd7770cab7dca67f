use Rattle.std.proofs.Common.{◌≡◌, ℕ, ◌+◌, ◌-◌, ◌*◌, ◌<◌, ◌≤◌, max, List, [], ◌∷◌, ◌++◌, length, map, EachIndex, take, reverse, set, get_or, refl, sym, ap, ap₂, ◌∙◌, subst, arith, rules}
use Rattle.std.proofs.lemmas.List.{length_push}
use Rattle.sl_model.specs.declared.schedule.Choice.{Choice}
use Rattle.sl_model.specs.declared.schedule.Source.{Source}
use Rattle.sl_model.specs.Cycles.{CostTable, Issued, issued, timed, cycles_of, cycle_count, next_cycle, row_of}
use Rattle.sl_model.specs.SecondPass.{ready_again}
use Rattle.sl_model.specs.Legal.{sources_in}
use Rattle.issue_cost.specs.Timeline.{IsFreeBy, Timeline, start_of}
use Rattle.issue_cost.proofs.ForCallers.{IsFreeBy-weaken}
use Rattle.legal_space.specs.Timed.{HasCycles}
use Rattle.legal_space.proofs.TimesLemmas.{next_issued, item-known}
use Rattle.legal_space.proofs.SecondPassLemmas.{IsAgain, IsAgain-start, IsAgain-more, IsPushed, again-all, start-cycle, early-weaken}
use Rattle.legal_space.proofs.second_pass.issue_again.Goals as goal

pub loop-choice-init : goal.loop-choice-init
loop-choice-init c = record {
  again = ([], IsAgain-start c.args.problem.now c.args.schedule.now c.args.issue.now c.args.first.now c.args.latest.now c.new-cycles.result.items c.requires.passed c.requires.broken c.requires.none c.new-cycles.ensures.items);
  room = refl;
}

pub push-cycle-requires-clause-ready : goal.push-cycle-requires-clause-ready
push-cycle-requires-clause-ready c =
    let limit : ℕ = 512 * (length c.args.schedule.now + c.loop-choice.choice-index) in
    let first : EachIndex c.args.first.now (λ q. get_or c.args.first.now q 0 ≤ limit) = early-weaken c.args.first.now (512 * length c.args.schedule.now) limit (omega arith) c.requires.passed.early in
    let soon : c.ready_again-ready.result ≤ limit + 255 = c.ready_again-ready.ensures.early limit first c.loop-choice.invariant.again.1.early in
    omega arith

pub overflow_sub-cycle : goal.overflow_sub-cycle
overflow_sub-cycle c =
    let begins : c.cycles-start.result ≡ start_of c.loop-choice.issue =
    c.cycles-start.ensures.cycles ∙ ap cycle_count c.requires.passed.are_issued ∙ sym c.loop-choice.invariant.again.1.start in
    subst (λ n. n ≤ c.push-cycle.result) (sym begins)
    (start-cycle c.costs-costs.result.now.width _ (start_of c.loop-choice.issue) c.ready_again-ready.result c.push-cycle.result (issued c.loop-choice.issue.pushes) c.push-cycle.ensures.cycle)

pub loop-choice-preserved : goal.loop-choice-preserved
loop-choice-preserved c =
    let d : Choice = record { item = 0; unit = 0; outs = [] } in
    let k : ℕ = c.loop-choice.choice-index in
    let schedule : List Choice = c.args.schedule.now in
    let choice : Choice = get_or schedule k d in
    let costs : CostTable = c.args.problem.now.costs in
    let sources : ℕ → List Source = sources_in c.args.problem.now in
    let before : List Issued = timed costs sources schedule in
    let since : List Issued = c.loop-choice.invariant.again.0 in
    let h : IsAgain c.args.problem.now schedule k c.loop-choice.issue c.loop-choice.latest c.loop-choice.cycles.items since = c.loop-choice.invariant.again.1 in
    let done : List Issued = issued c.loop-choice.issue.pushes in
    let limit : ℕ = 512 * (length schedule + k) in
    let ready : ℕ = c.ready_again-ready.result in
    let cycle : ℕ = c.push-cycle.result in
    let given : c.costs-costs.result.now ≡ costs = c.costs-costs.ensures.costs in
    let theirs : c.sources_of-sources.result.now ≡ sources choice.item = c.sources_of-sources.ensures.sources in
    let had : HasCycles c.args.first.now (reverse schedule) before = subst (λ all. HasCycles c.args.first.now (reverse schedule) all) c.requires.passed.are_issued c.requires.passed.has in
    let at : ready ≡ ready_again costs (reverse schedule) before (reverse (take k schedule)) since choice.item 0 (sources choice.item) =
    c.ready_again-ready.ensures.ready before since (reverse (take k schedule)) had h.has
    ∙ ap₂ (λ (v : CostTable) (all : List Source). ready_again v (reverse schedule) before (reverse (take k schedule)) since choice.item 0 all) given theirs in
    let counted : cycle ≡ next_cycle costs.width choice.unit (max (start_of c.loop-choice.issue) ready) done =
    c.push-cycle.ensures.cycle ∙ ap (λ (v : CostTable). next_cycle v.width choice.unit (max (start_of c.loop-choice.issue) ready) done) given in
    let first : EachIndex c.args.first.now (λ q. get_or c.args.first.now q 0 ≤ limit) = early-weaken c.args.first.now (512 * length schedule) limit (omega arith) c.requires.passed.early in
    let soon_ready : ready ≤ limit + 255 = c.ready_again-ready.ensures.early limit first h.early in
    let waited : IsFreeBy (limit + 255) done = IsFreeBy-weaken limit (limit + 255) done (omega arith) h.free in
    let pushed : IsPushed costs choice limit cycle c.loop-choice.issue c.push-cycle.new.self = record {
      counted = c.push-cycle.ensures.counted ∙ ap (λ (v : CostTable). next_issued v choice cycle ∷ done) given;
      count = ap (λ (v : Timeline). length v.pushes) c.push-cycle.ensures.pushed
          ∙ length_push c.loop-choice.issue.pushes (record { width = c.costs-costs.result.now.width; unit = choice.unit; busy = (row_of c.costs-costs.result.now choice.item).busy; ready = max (start_of c.loop-choice.issue) ready });
      start = c.push-cycle.ensures.started;
      soon = c.push-cycle.ensures.within (limit + 255) waited soon_ready;
      free = c.push-cycle.ensures.free (limit + 255) waited soon_ready;
    } in
    let known : choice.item < length c.args.problem.now.graph.items = item-known (length c.args.problem.now.graph.items) schedule k d c.requires.known c.loop-choice-test.true in
    let stored : set c.loop-choice.latest c.from.result cycle ≡ set c.loop-choice.latest choice.item cycle = ap (λ n. set c.loop-choice.latest n cycle) c.from.ensures in
    let starts : c.cycles-start.result ≡ cycle_count before = c.cycles-start.ensures.cycles ∙ ap cycle_count c.requires.passed.are_issued in
    let pushed_too : c.push.new.self.items ≡ c.loop-choice.cycles.items ++ (cycle - c.cycles-start.result) ∷ [] = search rules in
    let told : c.push.new.self.items ≡ c.loop-choice.cycles.items ++ (cycle - cycle_count before) ∷ [] =
    pushed_too ∙ ap (λ n. c.loop-choice.cycles.items ++ (cycle - n) ∷ []) starts in
    record {
      again = (
        next_issued costs choice cycle ∷ since,
        IsAgain-more c.args.problem.now schedule k d c.loop-choice.issue c.push-cycle.new.self c.loop-choice.latest (set c.loop-choice.latest c.from.result cycle) c.loop-choice.cycles.items c.push.new.self.items since ready cycle
            c.loop-choice-test.true known h at counted pushed stored told,
      );
      room = ap (λ (v : Timeline). v.room) c.push-cycle.ensures.pushed ∙ c.loop-choice.invariant.room;
    }

pub returns-clause-cycles : goal.returns-clause-cycles
returns-clause-cycles c =
    let h : IsAgain c.args.problem.now c.args.schedule.now c.loop-choice.choice-index c.loop-choice.issue c.loop-choice.latest c.loop-choice.cycles.items c.loop-choice.invariant.again.0 = c.loop-choice.invariant.again.1 in
    h.told ∙ ap (λ since. map (λ cycle. cycle - cycle_count (timed c.args.problem.now.costs (sources_in c.args.problem.now) c.args.schedule.now)) (cycles_of since))
    (again-all c.args.problem.now c.args.schedule.now c.loop-choice.choice-index c.loop-choice.issue c.loop-choice.latest c.loop-choice.cycles.items c.loop-choice.invariant.again.0 c.loop-choice-test.false h)

pub returns-clause-issued : goal.returns-clause-issued
returns-clause-issued c =
    let h : IsAgain c.args.problem.now c.args.schedule.now c.loop-choice.choice-index c.loop-choice.issue c.loop-choice.latest c.loop-choice.cycles.items c.loop-choice.invariant.again.0 = c.loop-choice.invariant.again.1 in
    h.are_issued ∙ ap (λ since. since ++ timed c.args.problem.now.costs (sources_in c.args.problem.now) c.args.schedule.now)
    (again-all c.args.problem.now c.args.schedule.now c.loop-choice.choice-index c.loop-choice.issue c.loop-choice.latest c.loop-choice.cycles.items c.loop-choice.invariant.again.0 c.loop-choice-test.false h)
