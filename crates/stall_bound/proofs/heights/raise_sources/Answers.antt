use Rattle.std.proofs.Common.{◌≡◌, ℕ, ◌+◌, ◌<◌, ◌≤◌, List, length, drop, set, get_or, max, EachIndex, sym, ap, ap₂, ◌∙◌, subst, length-set, arith}
use Rattle.sl_model.specs.declared.schedule.Source.{Source}
use Rattle.sl_model.specs.Cycles.{CostTable, ready_after}
use Rattle.sl_model.specs.Legal.{Problem, sources_in}
use Rattle.search_space.specs.Bound.{way, way_by}
use Rattle.stall_bound.proofs.Folds.{fold-more, fold-done}
use Rattle.stall_bound.proofs.HeightLemmas.{ways_from, ways-step, ways-none, ways-all, raised-one, way-by, source-known, low-raised}
use Rattle.stall_bound.proofs.heights.raise_sources.Goals as goal

pub loop-operand-init : goal.loop-operand-init
loop-operand-init c = record {
  raised = λ (height : ℕ → ℕ) same (p : ℕ) known. ap (max (get_or c.args.heights.now p 0)) (ways-all c.args.problem.now height p c.args.reader);
  low = λ (limit : ℕ) (low : EachIndex c.args.heights.now (λ p. get_or c.args.heights.now p 0 ≤ limit)) (p : ℕ) (within : p < length c.args.heights.now).
      let few : get_or c.args.heights.now p 0 ≤ limit = low p within in
      omega arith;
  items = c.requires.items;
}

-- one more operand, by the height that it leaves
more : (problem : Problem) (height : ℕ → ℕ) (p reader k now next total : ℕ) (sources : List Source) (d : Source) → sources ≡ sources_in problem reader → k < length sources
    → next ≡ max (way problem height p reader (k, get_or sources k d)) now
    → max now (ways_from problem height p reader k (drop k (sources_in problem reader))) ≡ total
    → max next (ways_from problem height p reader (k + 1) (drop (k + 1) (sources_in problem reader))) ≡ total
more problem height p reader k now next total sources d are within greatest before =
    subst (λ ss. max next (ways_from problem height p reader (k + 1) (drop (k + 1) ss)) ≡ total) are
    (fold-more (λ k s. way problem height p reader (k, s)) (ways_from problem height p reader) (ways-step problem height p reader) k now next total sources d within greatest
    (subst (λ ss. max now (ways_from problem height p reader k (drop k ss)) ≡ total) (sym are) before))

pub loop-operand-preserved-in_default : goal.loop-operand-preserved-in_default
loop-operand-preserved-in_default c = record {
  raised = λ (height : ℕ → ℕ) same (p : ℕ) known.
      let now : ℕ = get_or c.loop-operand.heights p 0 in
      let stays : now ≡ max 0 now = omega arith in
      more c.args.problem.now height p c.args.reader c.loop-operand.operand now now (max (get_or c.args.heights.now p 0) (way_by c.args.problem.now height p c.args.reader))
      c.sources_of-source-items.result.now _ c.sources_of-source-items.ensures.sources c.loop-operand-test.true
      (way-by c.args.problem.now height p c.args.reader c.loop-operand.operand now now _ _ c.in_default.is stays)
      (c.loop-operand.invariant.raised height same p known);
  low = c.loop-operand.invariant.low;
  items = c.loop-operand.invariant.items;
}

pub loop-operand-preserved : goal.loop-operand-preserved
loop-operand-preserved c =
    let problem : Problem = c.args.problem.now in
    let heights : List ℕ = c.loop-operand.heights in
    let next : List ℕ = c.raise.new.heights in
    let own : ℕ = get_or c.args.heights.now c.from.result 0 in
    let least : ℕ = c.ready_after.result + own in
    let known : c.in-Item.index < length problem.graph.items =
    source-known (length problem.graph.items) c.loop-operand.operand c.in-Item.index c.in-Item.place c.sources_of-source-items.result.now _ c.sources_of-source-items.ensures.known
    c.loop-operand-test.true c.in-Item.is in
    let within : c.in-Item.index < length heights = subst (λ n. c.in-Item.index < n) (sym c.loop-operand.invariant.items) known in
    let raised : next ≡ set heights c.in-Item.index (max least (get_or heights c.in-Item.index 0)) = c.raise.ensures in
    record {
      raised = λ (height : ℕ → ℕ) (same : height c.args.reader ≡ get_or c.args.heights.now c.args.reader 0) (p : ℕ) inside.
          let way_is : least ≡ ready_after problem.costs c.in-Item.index c.in-Item.place c.args.reader c.loop-operand.operand + height c.args.reader =
          ap₂ (λ m n. m + n)
          (c.ready_after.ensures.ready ∙ ap (λ (v : CostTable). ready_after v c.in-Item.index c.in-Item.place c.args.reader c.loop-operand.operand) c.costs-costs.ensures.costs)
          (ap (λ q. get_or c.args.heights.now q 0) c.from.ensures ∙ sym same) in
          more problem height p c.args.reader c.loop-operand.operand (get_or heights p 0) (get_or next p 0)
          (max (get_or c.args.heights.now p 0) (way_by problem height p c.args.reader)) c.sources_of-source-items.result.now _ c.sources_of-source-items.ensures.sources
          c.loop-operand-test.true
          (way-by problem height p c.args.reader c.loop-operand.operand (get_or next p 0) (get_or heights p 0) _ _ c.in-Item.is
          (raised-one problem height p c.args.reader c.loop-operand.operand c.in-Item.index c.in-Item.place least heights next within way_is raised))
          (c.loop-operand.invariant.raised height same p inside);
      low = λ (limit : ℕ) (low : EachIndex c.args.heights.now (λ p. get_or c.args.heights.now p 0 ≤ limit)).
          let inside : c.from.result < length c.args.heights.now = omega (arith, c.from.ensures, c.requires.reader, c.requires.items) in
          let few : own ≤ limit = low c.from.result inside in
          let soon : least ≤ limit + 255 = omega (arith, c.ready_after.ensures.most) in
          low-raised (limit + 255) c.in-Item.index least heights next within (c.loop-operand.invariant.low limit low) soon raised;
      items = ap length raised ∙ length-set heights c.in-Item.index (max least (get_or heights c.in-Item.index 0)) ∙ c.loop-operand.invariant.items;
    }

pub returns-clause-raised : goal.returns-clause-raised
returns-clause-raised c = λ (height : ℕ → ℕ) same (p : ℕ) (within : p < length c.loop-operand.heights).
    let problem : Problem = c.args.problem.now in
    let known : p < length problem.graph.items = subst (λ n. p < n) c.loop-operand.invariant.items within in
    let total : ℕ = max (get_or c.args.heights.now p 0) (way_by problem height p c.args.reader) in
    fold-done (λ k s. way problem height p c.args.reader (k, s)) (ways_from problem height p c.args.reader) (ways-none problem height p c.args.reader)
    c.loop-operand.operand (get_or c.loop-operand.heights p 0) total c.sources_of-source-items.result.now c.loop-operand-test.false
    (subst (λ ss. max (get_or c.loop-operand.heights p 0) (ways_from problem height p c.args.reader c.loop-operand.operand (drop c.loop-operand.operand ss)) ≡ total)
    (sym c.sources_of-source-items.ensures.sources) (c.loop-operand.invariant.raised height same p known))
