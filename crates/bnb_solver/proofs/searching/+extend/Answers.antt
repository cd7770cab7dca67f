use Rattle.std.proofs.Common.{rules, ◌≡◌, ℕ, ◌+◌, ◌-◌, ◌≤◌, ◌<◌, ◌||◌, false, [], ◌∷◌, ◌++◌, length, reverse, Some, None, refl, sym, ap, ◌∙◌, arith}
use Rattle.std.proofs.lemmas.List.{length_push}
use Rattle.search_space.specs.Bound.{bound}
use Rattle.search_space.proofs.ForCallers.{next_behind-some}
use Rattle.bnb_solver.proofs.Prefixes.{next-of, bound-of, pushed, popped, reverse-last, made-fewer}
use Rattle.bnb_solver.proofs.Progress.{started, passed, rest-falls}
use Rattle.bnb_solver.proofs.Tellings.{is-nothing, nothing-goes_on, polled-on, told-full, told-end, told-spent, told-off, told-up, reached-on}
use Rattle.bnb_solver.proofs.searching.+extend.Goals as goal

pub returns-then-is_full-clause-searched : goal.returns-then-is_full-clause-searched
returns-then-is_full-clause-searched g t c =
    told-full c.args.problem.now c.is_searchable.ensures c.args.level c.args.prefix.now.choices c.requires.prefix.made c.requires.within c.args.budget.now c.requires.some (sym c.is_full.ensures ∙ c.if-is_full.true)

pub loop-choice-init : goal.loop-choice-init
loop-choice-init g t c = record {
  prefix = refl;
  reached = started c.args.problem.now c.is_searchable.ensures c.args.level (length c.args.problem.now.graph.items - length c.args.prefix.now.choices - 1) (reverse c.args.prefix.now.choices) (c.args.budget.now - 1);
  pushes = refl;
  less = omega arith;
  untold = c.requires.fresh;
  polled = omega arith;
  kept = refl;
}

pub returns-in_default-clause-searched : goal.returns-in_default-clause-searched
returns-in_default-clause-searched g t c =
    told-end c.args.problem.now c.is_searchable.ensures c.args.level c.args.prefix.now.choices c.requires.prefix.made c.requires.within c.args.budget.now c.requires.some (sym c.is_full.ensures ∙ c.if-is_full.false)
    c.loop-choice.budget c.loop-choice.after c.loop-choice.prefix.choices
    (next-of c.args.problem.now c.loop-choice.prefix c.args.prefix.now c.loop-choice.after None c.in_default.ensures c.loop-choice.invariant.prefix) c.loop-choice.invariant.reached

pub bound_with-requires-clause-legal : goal.bound_with-requires-clause-legal
bound_with-requires-clause-legal g t c =
    (next_behind-some c.args.problem.now c.is_searchable.ensures (reverse c.loop-choice.prefix.choices) c.loop-choice.after c.in-Some.choice (sym c.in-Some.ensures)).legal

pub loop-choice-smaller-then-bound_with-level : goal.loop-choice-smaller-then-bound_with-level
loop-choice-smaller-then-bound_with-level g t c =
    rest-falls c.args.problem.now c.is_searchable.ensures c.args.level 0 (reverse c.args.prefix.now.choices) c.loop-choice.after c.in-Some.choice
    (next-of c.args.problem.now c.loop-choice.prefix c.args.prefix.now c.loop-choice.after (Some c.in-Some.choice) c.in-Some.ensures c.loop-choice.invariant.prefix)

pub loop-choice-preserved-then-bound_with-level : goal.loop-choice-preserved-then-bound_with-level
loop-choice-preserved-then-bound_with-level g t c =
    let next = next-of c.args.problem.now c.loop-choice.prefix c.args.prefix.now c.loop-choice.after (Some c.in-Some.choice) c.in-Some.ensures c.loop-choice.invariant.prefix in
    let at : c.bound_with.result ≡ bound c.args.problem.now (c.in-Some.choice ∷ reverse c.args.prefix.now.choices) =
    bound-of c.args.problem.now c.loop-choice.prefix c.args.prefix.now c.in-Some.choice c.bound_with.result c.bound_with.ensures c.loop-choice.invariant.prefix in
    let past : c.args.level < bound c.args.problem.now (c.in-Some.choice ∷ reverse c.args.prefix.now.choices) = omega arith in
    record {
      prefix = c.loop-choice.invariant.prefix;
      reached = passed c.args.problem.now c.is_searchable.ensures c.args.level (length c.args.problem.now.graph.items - length c.args.prefix.now.choices - 1) (reverse c.args.prefix.now.choices) (c.args.budget.now - 1) c.loop-choice.budget
          c.loop-choice.after c.in-Some.choice c.requires.prefix.made next past c.loop-choice.invariant.reached;
      pushes = c.loop-choice.invariant.pushes;
      less = c.loop-choice.invariant.less;
      untold = c.loop-choice.invariant.untold;
      polled = c.loop-choice.invariant.polled;
      kept = c.loop-choice.invariant.kept;
    }

pub returns-then-budget-eq0-clause-searched : goal.returns-then-budget-eq0-clause-searched
returns-then-budget-eq0-clause-searched g t c =
    let next = next-of c.args.problem.now c.loop-choice.prefix c.args.prefix.now c.loop-choice.after (Some c.in-Some.choice) c.in-Some.ensures c.loop-choice.invariant.prefix in
    let at : c.bound_with.result ≡ bound c.args.problem.now (c.in-Some.choice ∷ reverse c.args.prefix.now.choices) =
    bound-of c.args.problem.now c.loop-choice.prefix c.args.prefix.now c.in-Some.choice c.bound_with.result c.bound_with.ensures c.loop-choice.invariant.prefix in
    let low : bound c.args.problem.now (c.in-Some.choice ∷ reverse c.args.prefix.now.choices) ≤ c.args.level = omega arith in
    told-spent c.args.problem.now c.is_searchable.ensures c.args.level c.args.prefix.now.choices c.requires.prefix.made c.requires.within c.args.budget.now c.requires.some (sym c.is_full.ensures ∙ c.if-is_full.false)
    c.loop-choice.budget c.loop-choice.after c.in-Some.choice c.loop-choice.prefix.choices next low c.if-budget-eq0.true c.loop-choice.invariant.reached

pub returns-then-poll-clause-searched : goal.returns-then-poll-clause-searched
returns-then-poll-clause-searched g t c =
    told-off c.args.problem.now c.is_searchable.ensures c.args.level c.args.prefix.now.choices c.requires.prefix.made c.requires.within c.args.budget.now c.requires.some (sym c.is_full.ensures ∙ c.if-is_full.false)
    c.loop-choice.budget c.loop-choice.after c.loop-choice.prefix.choices c.loop-choice.invariant.reached

pub push-requires-clause-legal : goal.push-requires-clause-legal
push-requires-clause-legal g t c =
    (next_behind-some c.args.problem.now c.is_searchable.ensures (reverse c.loop-choice.prefix.choices) c.loop-choice.after c.in-Some.choice (sym c.in-Some.ensures)).legal

pub extend-outcome-requires : goal.extend-outcome-requires
extend-outcome-requires g t c κs within =
    let next = next-of c.args.problem.now c.loop-choice.prefix c.args.prefix.now c.loop-choice.after (Some c.in-Some.choice) c.in-Some.ensures c.loop-choice.invariant.prefix in
    let fewer : length c.args.prefix.now.choices < length c.args.problem.now.graph.items =
    made-fewer c.args.problem.now c.is_searchable.ensures c.args.prefix.now.choices c.in-Some.choice c.requires.prefix.made
    (next_behind-some c.args.problem.now c.is_searchable.ensures (reverse c.args.prefix.now.choices) c.loop-choice.after c.in-Some.choice next).legal in
    let is : c.push.new.self.choices ≡ c.args.prefix.now.choices ++ c.in-Some.choice ∷ [] =
    pushed c.loop-choice.prefix c.args.prefix.now c.push.new.self c.in-Some.choice c.push.ensures.choices c.loop-choice.invariant.prefix in
    let long : length c.push.new.self.choices ≡ length c.args.prefix.now.choices + 1 = ap length is ∙ length_push c.args.prefix.now.choices c.in-Some.choice in
    let at : c.bound_with.result ≡ bound c.args.problem.now (c.in-Some.choice ∷ reverse c.args.prefix.now.choices) =
    bound-of c.args.problem.now c.loop-choice.prefix c.args.prefix.now c.in-Some.choice c.bound_with.result c.bound_with.ensures c.loop-choice.invariant.prefix in
    let same : bound c.args.problem.now (reverse c.push.new.self.choices) ≡ bound c.args.problem.now (c.in-Some.choice ∷ reverse c.args.prefix.now.choices) =
    ap (bound c.args.problem.now) (ap reverse is ∙ reverse-last c.args.prefix.now.choices c.in-Some.choice) in
    let low : bound c.args.problem.now (reverse c.push.new.self.choices) ≤ c.args.level = omega arith in
    let some : 0 < c.loop-choice.budget = omega arith in
    let untold : g.S.Stop.told c.poll.new.self ≡ false = c.poll.ensures.told ∙ ap (λ b. b || c.poll.result) c.loop-choice.invariant.untold ∙ c.if-poll.false in
    (search rules, (search rules, (search rules, (search rules, (c.push.ensures.prefix, (low, (some, untold)))))))

pub returns-then-not-is_nothing-clause-searched : goal.returns-then-not-is_nothing-clause-searched
returns-then-not-is_nothing-clause-searched g t c =
    let next = next-of c.args.problem.now c.loop-choice.prefix c.args.prefix.now c.loop-choice.after (Some c.in-Some.choice) c.in-Some.ensures c.loop-choice.invariant.prefix in
    let is = pushed c.loop-choice.prefix c.args.prefix.now c.push.new.self c.in-Some.choice c.push.ensures.choices c.loop-choice.invariant.prefix in
    told-up c.args.problem.now c.is_searchable.ensures c.args.level c.args.prefix.now.choices c.requires.prefix.made c.requires.within c.args.budget.now c.requires.some (sym c.is_full.ensures ∙ c.if-is_full.false)
    c.loop-choice.budget c.extend-outcome.new.budget c.loop-choice.after c.in-Some.choice c.push.new.self.choices c.extend-outcome.result c.extend-outcome.new.prefix.choices next is
    (sym c.is_nothing.ensures ∙ c.if-not-is_nothing.true) c.extend-outcome.ensures.searched c.loop-choice.invariant.reached

pub loop-choice-smaller : goal.loop-choice-smaller
loop-choice-smaller g t c =
    rest-falls c.args.problem.now c.is_searchable.ensures c.args.level 0 (reverse c.args.prefix.now.choices) c.loop-choice.after c.in-Some.choice
    (next-of c.args.problem.now c.loop-choice.prefix c.args.prefix.now c.loop-choice.after (Some c.in-Some.choice) c.in-Some.ensures c.loop-choice.invariant.prefix)

pub loop-choice-preserved : goal.loop-choice-preserved
loop-choice-preserved g t c =
    let next = next-of c.args.problem.now c.loop-choice.prefix c.args.prefix.now c.loop-choice.after (Some c.in-Some.choice) c.in-Some.ensures c.loop-choice.invariant.prefix in
    let is = pushed c.loop-choice.prefix c.args.prefix.now c.push.new.self c.in-Some.choice c.push.ensures.choices c.loop-choice.invariant.prefix in
    let none = sym c.is_nothing.ensures ∙ c.if-not-is_nothing.false in
    let fell : c.extend-outcome.new.steps + c.extend-outcome.new.budget + 1 ≡ c.push.new.steps + c.loop-choice.budget = c.extend-outcome.ensures.pushes in
    let less : c.extend-outcome.new.budget < c.loop-choice.budget = c.extend-outcome.ensures.less in
    let step : c.push.new.steps ≡ c.loop-choice.steps + 1 = c.push.ensures.step in
    let before : c.loop-choice.steps + c.loop-choice.budget ≡ c.args.steps.now + (c.args.budget.now - 1) = c.loop-choice.invariant.pushes in
    let most : c.loop-choice.budget ≤ c.args.budget.now - 1 = c.loop-choice.invariant.less in
    record {
      prefix = popped c.loop-choice.prefix c.push.new.self c.extend-outcome.new.prefix c.pop.new.self c.in-Some.choice c.push.ensures.choices
          (c.extend-outcome.ensures.back (is-nothing c.extend-outcome.result none)) c.pop.ensures.undone ∙ c.loop-choice.invariant.prefix;
      reached = reached-on c.args.problem.now c.is_searchable.ensures c.args.level c.args.prefix.now.choices c.requires.prefix.made c.requires.within c.args.budget.now c.requires.some (sym c.is_full.ensures ∙ c.if-is_full.false)
          c.loop-choice.budget c.extend-outcome.new.budget c.loop-choice.after c.in-Some.choice c.push.new.self.choices c.extend-outcome.result c.extend-outcome.new.prefix.choices next is none
          c.extend-outcome.ensures.searched c.loop-choice.invariant.reached;
      pushes = omega arith;
      less = omega arith;
      untold = nothing-goes_on c.extend-outcome.result (g.S.Stop.told c.extend-outcome.new.stop) none c.extend-outcome.ensures.told;
      polled = polled-on (g.S.Stop.polls c.args.stop.now) (g.S.Stop.polls c.loop-choice.stop) (g.S.Stop.polls c.poll.new.self) (g.S.Stop.polls c.extend-outcome.new.stop)
          c.args.steps.now c.loop-choice.steps c.push.new.steps c.extend-outcome.new.steps
          c.loop-choice.invariant.polled c.poll.ensures.counted (omega arith) step (omega arith) c.extend-outcome.ensures.polled;
      kept = c.extend-outcome.ensures.kept ∙ c.poll.ensures.kept ∙ c.loop-choice.invariant.kept;
    }
