use Rattle.std.proofs.Common.{◌≡◌, ℕ, suc, ◌+◌, ◌*◌, ◌<◌, ◌≤◌, max, List, [], ◌∷◌, ◌++◌, length, EachIndex, take, take_all, reverse, set, get_or, refl, sym, ap, ap₂, ◌∙◌, subst, arith, rules}
use Rattle.std.proofs.lemmas.List.{length_push, length-set, length-replicate}
use Rattle.sl_model.specs.declared.schedule.Choice.{Choice}
use Rattle.sl_model.specs.declared.schedule.Source.{Source}
use Rattle.sl_model.specs.Cycles.{CostTable, Issued, issued, issued_from, timed, timed_from, cycles_of, next_cycle, ready_from, row_of}
use Rattle.sl_model.specs.Legal.{sources_in}
use Rattle.issue_cost.specs.Timeline.{IsFreeBy, Timeline, start_of}
use Rattle.issue_cost.proofs.ForCallers.{IsFreeBy-weaken}
use Rattle.legal_space.specs.Timed.{HasCycles}
use Rattle.legal_space.proofs.TimesLemmas.{has_cycles-none, early-none, has_cycles-more, early-more, next_issued, ready-unbroken, timed-more, timed-done, item-known}
use Rattle.legal_space.proofs.times.issue_all.Goals as goal
use Rattle.sl_laws.proofs.Elements.{reverse_take-more}

pub loop-choice-init : goal.loop-choice-init
unfolding issued_from
loop-choice-init c =
    let none : issued c.args.issue.now.pushes ≡ [] = ap issued c.requires.empty in
    record {
      whole = ap (λ done. timed_from c.args.problem.now.costs (sources_in c.args.problem.now) [] done c.args.schedule.now) none;
      cycles = c.new-cycles.ensures.items ∙ ap cycles_of (sym none);
      count = ap length none;
      pushes = ap length c.requires.empty;
      unbroken = c.requires.unbroken;
      room = refl;
      items = ap length c.requires.none ∙ length-replicate (length c.args.problem.now.graph.items) 0;
      has = subst (λ done. HasCycles c.args.latest.now [] done) (sym none) (has_cycles-none (length c.args.problem.now.graph.items) c.args.latest.now c.requires.none);
      early = early-none (length c.args.problem.now.graph.items) c.args.latest.now c.requires.none;
      free = subst (λ done. IsFreeBy (512 * 0) done) (sym none) tt;
    }

pub push-cycle-requires-clause-ready : goal.push-cycle-requires-clause-ready
push-cycle-requires-clause-ready c =
    let k : ℕ = c.loop-choice.choice-index in
    let soon : c.ready_among-ready.result ≤ 512 * k + 255 = c.ready_among-ready.ensures.early (512 * k) c.loop-choice.invariant.early in
    omega arith

pub loop-choice-preserved : goal.loop-choice-preserved
loop-choice-preserved c =
    let d : Choice = record { item = 0; unit = 0; outs = [] } in
    let k : ℕ = c.loop-choice.choice-index in
    let schedule : List Choice = c.args.schedule.now in
    let choice : Choice = get_or schedule k d in
    let costs : CostTable = c.args.problem.now.costs in
    let before : List Choice = reverse (take k schedule) in
    let done : List Issued = issued c.loop-choice.issue.pushes in
    let more : List Issued = issued c.push-cycle.new.self.pushes in
    let latest : List ℕ = c.loop-choice.latest in
    let next : List ℕ = set latest c.from.result c.push-cycle.result in
    let ready : ℕ = c.ready_among-ready.result in
    let cycle : ℕ = c.push-cycle.result in
    let given : c.costs-costs.result.now ≡ costs = c.costs-costs.ensures.costs in
    let theirs : c.sources_of-sources.result.now ≡ sources_in c.args.problem.now choice.item = c.sources_of-sources.ensures.sources in
    let at : ready ≡ ready_from costs before done choice.item 0 (sources_in c.args.problem.now choice.item) =
    c.ready_among-ready.ensures.ready before done c.loop-choice.invariant.has
    ∙ ap₂ (λ (v : CostTable) (sources : List Source). ready_from v before done choice.item 0 sources) given theirs in
    let counted : cycle ≡ next_cycle costs.width choice.unit ready done =
    c.push-cycle.ensures.cycle ∙ ap₂ (λ (v : CostTable) (n : ℕ). next_cycle v.width choice.unit n done) given (ready-unbroken c.loop-choice.issue ready c.loop-choice.invariant.unbroken) in
    let one_more : more ≡ next_issued costs choice cycle ∷ done =
    c.push-cycle.ensures.counted ∙ ap (λ (v : CostTable). next_issued v choice cycle ∷ done) given in
    let soon_ready : ready ≤ 512 * k + 255 = c.ready_among-ready.ensures.early (512 * k) c.loop-choice.invariant.early in
    let waited : IsFreeBy (512 * k + 255) done = IsFreeBy-weaken (512 * k) (512 * k + 255) done (omega arith) c.loop-choice.invariant.free in
    let soon : cycle ≤ 512 * k + 255 =
    c.push-cycle.ensures.within (512 * k + 255) waited soon_ready in
    let known : choice.item < length c.args.problem.now.graph.items = item-known (length c.args.problem.now.graph.items) schedule k d c.requires.known c.loop-choice-test.true in
    let inside : choice.item < length latest = subst (λ n. choice.item < n) (sym c.loop-choice.invariant.items) known in
    let stored : next ≡ set latest choice.item cycle = ap (λ n. set latest n cycle) c.from.ensures in
    let pushed : length c.push-cycle.new.self.pushes ≡ length c.loop-choice.issue.pushes + 1 =
    ap (λ (v : Timeline). length v.pushes) c.push-cycle.ensures.pushed
    ∙ length_push c.loop-choice.issue.pushes (record { width = c.costs-costs.result.now.width; unit = choice.unit; busy = (row_of c.costs-costs.result.now choice.item).busy; ready = max (start_of c.loop-choice.issue) ready }) in
    let told : c.push.new.self.items ≡ c.loop-choice.cycles.items ++ cycle ∷ [] = search rules in
    let counts : length done ≡ k = c.loop-choice.invariant.count in
    let longer : length more ≡ suc (length done) = ap length one_more in
    record {
      whole = timed-more costs (sources_in c.args.problem.now) schedule done more k ready cycle d c.loop-choice-test.true at counted one_more ∙ c.loop-choice.invariant.whole;
      cycles = told ∙ ap (λ (cs : List ℕ). cs ++ cycle ∷ []) c.loop-choice.invariant.cycles ∙ ap cycles_of (sym one_more);
      count = omega arith;
      pushes = pushed ∙ ap (λ n. n + 1) c.loop-choice.invariant.pushes;
      unbroken = ap (λ (v : Timeline). v.pass) c.push-cycle.ensures.pushed ∙ c.loop-choice.invariant.unbroken;
      room = ap (λ (v : Timeline). v.room) c.push-cycle.ensures.pushed ∙ c.loop-choice.invariant.room;
      items = length-set latest c.from.result cycle ∙ c.loop-choice.invariant.items;
      has = subst (λ choices. HasCycles next choices more) (sym (reverse_take-more schedule k d c.loop-choice-test.true))
          (subst (λ all. HasCycles next (choice ∷ before) all) (sym one_more)
          (has_cycles-more latest next before done choice (next_issued costs choice cycle) c.loop-choice.invariant.has inside stored));
      early = early-more latest next choice.item cycle k c.loop-choice.invariant.early inside soon stored;
      free = IsFreeBy-weaken (512 * k + 255 + 255) (512 * (k + 1)) more (omega arith) (c.push-cycle.ensures.free (512 * k + 255) waited soon_ready);
    }

pub returns-clause-cycles : goal.returns-clause-cycles
returns-clause-cycles c =
    let all : List Issued = timed c.args.problem.now.costs (sources_in c.args.problem.now) c.args.schedule.now in
    let issued_all : issued c.loop-choice.issue.pushes ≡ all =
    timed-done c.args.problem.now.costs (sources_in c.args.problem.now) c.args.schedule.now (issued c.loop-choice.issue.pushes) all
    c.loop-choice.choice-index c.loop-choice-test.false c.loop-choice.invariant.whole in
    c.loop-choice.invariant.cycles ∙ ap cycles_of issued_all

pub returns-clause-issued : goal.returns-clause-issued
returns-clause-issued c =
    timed-done c.args.problem.now.costs (sources_in c.args.problem.now) c.args.schedule.now (issued c.loop-choice.issue.pushes)
    (timed c.args.problem.now.costs (sources_in c.args.problem.now) c.args.schedule.now)
    c.loop-choice.choice-index c.loop-choice-test.false c.loop-choice.invariant.whole

pub returns-clause-passed : goal.returns-clause-passed
returns-clause-passed c =
    let schedule : List Choice = c.args.schedule.now in
    let at_end : c.loop-choice.choice-index ≡ length schedule = omega (arith, c.loop-choice-test.false, c.loop-choice.auto.choice-index-end) in
    let whole : take c.loop-choice.choice-index schedule ≡ schedule = take_all c.loop-choice.choice-index schedule (omega arith) in
    record {
      are_issued = returns-clause-issued c;
      count = c.loop-choice.invariant.pushes ∙ at_end;
      items = c.loop-choice.invariant.items;
      has = subst (λ choices. HasCycles c.loop-choice.latest (reverse choices) (issued c.loop-choice.issue.pushes)) whole c.loop-choice.invariant.has;
      early = subst (λ n. EachIndex c.loop-choice.latest (λ q. get_or c.loop-choice.latest q 0 ≤ 512 * n)) at_end c.loop-choice.invariant.early;
      free = subst (λ n. IsFreeBy (512 * n) (issued c.loop-choice.issue.pushes)) at_end c.loop-choice.invariant.free;
    }
