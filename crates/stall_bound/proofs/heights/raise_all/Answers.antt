use Rattle.std.proofs.Common.{◌≡◌, ℕ, ◌<◌, ◌≤◌, List, [], ◌∷◌, ◌++◌, map, length, reverse, get_or, sym, ap, ◌∙◌, subst, arith}
use Rattle.std.proofs.lemmas.List.{length-map, length-reverse, map-append, reverse-append, reverse-reverse}
use Rattle.std.proofs.lemmas.Iterator.Adapters.{YieldsList-from_rev_slice}
use Rattle.std.proofs.lemmas.Iterator.Consumers.{YieldsList-turn, YieldsList-end, YieldsList-so_far}
use Rattle.sl_model.specs.Legal.{Problem}
use Rattle.dataflow.specs.Flows.{IsGraph}
use Rattle.search_space.specs.Bound.{height}
use Rattle.stall_bound.proofs.HeightLemmas.{AreRaised, front-of, raised-none, reader-raised, raised-more, raised-all, low-before}
use Rattle.stall_bound.proofs.heights.raise_all.Goals as goal

pub loop-reader-init : goal.loop-reader-init
loop-reader-init c = raised-none c.args.problem.now c.args.heights.now c.requires

pub raise_sources-requires-clause-low : goal.raise_sources-requires-clause-low
raise_sources-requires-clause-low c =
    let problem : Problem = c.args.problem.now in
    let sound : IsGraph problem.graph = subst IsGraph c.graph.ensures c.is_sound.ensures in
    let turn = YieldsList-turn (YieldsList-from_rev_slice c.order.result.now cc) c.loop-reader.yielded _ c.loop-reader.yielded_by _ _ c.in-Some.reader c.in-Some.is c.next.ensures.steps in
    let seen : List ℕ = map (λ r. r.now) c.loop-reader.yielded in
    let count : length (reverse seen) ≡ length c.loop-reader.yielded = length-reverse seen ∙ length-map c.loop-reader.yielded (λ r. r.now) in
    let order : length (reverse c.order.result.now) ≡ length problem.graph.order = length-reverse c.order.result.now ∙ ap length c.order.ensures.order in
    let fewer : length (reverse seen) ≤ length problem.graph.order = omega (arith, turn.0) in
    λ (p : ℕ) (within : p < length c.loop-reader.heights).
    let low : get_or c.loop-reader.heights p 0 ≤ 16321 = low-before problem sound.flow.sources (reverse seen) c.loop-reader.heights sound.flow.few fewer c.loop-reader.invariant p within in
    omega arith

pub loop-reader-preserved : goal.loop-reader-preserved
loop-reader-preserved c =
    let problem : Problem = c.args.problem.now in
    let sound : IsGraph problem.graph = subst IsGraph c.graph.ensures c.is_sound.ensures in
    let chain = YieldsList-from_rev_slice c.order.result.now cc in
    let turn = YieldsList-turn chain c.loop-reader.yielded _ c.loop-reader.yielded_by _ _ c.in-Some.reader c.in-Some.is c.next.ensures.steps in
    let so_far = YieldsList-so_far chain c.loop-reader.yielded _ c.loop-reader.yielded_by in
    let seen : List ℕ = map (λ r. r.now) c.loop-reader.yielded in
    let reader : ℕ = c.in-Some.reader.now in
    let split : (front : List ℕ) × (c.order.result.now ≡ front ++ reader ∷ reverse seen) = front-of c.order.result.now seen reader (length c.loop-reader.yielded) turn.0 so_far turn.1 in
    let order : problem.graph.order ≡ split.0 ++ reader ∷ reverse seen = sym c.order.ensures.order ∙ split.1 in
    let own : height problem reader ≡ get_or c.loop-reader.heights reader 0 = reader-raised problem sound.flow.sources split.0 (reverse seen) c.loop-reader.heights reader order c.loop-reader.invariant in
    let below : reverse (map (λ r. r.now) (c.loop-reader.yielded ++ c.in-Some.reader ∷ [])) ≡ reader ∷ reverse seen =
    ap reverse (map-append (λ r. r.now) c.loop-reader.yielded (c.in-Some.reader ∷ [])) ∙ reverse-append seen (reader ∷ []) in
    subst (λ ps. AreRaised problem ps c.raise_sources.new.heights) (sym below)
    (raised-more problem sound.flow.sources (reverse seen) c.loop-reader.heights c.raise_sources.new.heights reader c.loop-reader.invariant c.raise_sources.ensures.items
    (c.raise_sources.ensures.raised (height problem) own)
    (c.raise_sources.ensures.low _ c.loop-reader.invariant.low))

-- at the end all readers were seen
all-seen : (order seen below : List ℕ) → seen ≡ reverse order → order ≡ below → reverse seen ≡ below
all-seen order seen below are is = ap reverse are ∙ reverse-reverse order ∙ is

pub returns-clause-heights : goal.returns-clause-heights
returns-clause-heights c =
    let problem : Problem = c.args.problem.now in
    let sound : IsGraph problem.graph = subst IsGraph c.graph.ensures c.is_sound.ensures in
    let end = YieldsList-end (YieldsList-from_rev_slice c.order.result.now cc) c.loop-reader.yielded _ c.loop-reader.yielded_by _ _ c.in-None.is c.next.ensures.steps in
    raised-all problem sound.flow.sources c.loop-reader.heights
    (subst (λ ps. AreRaised problem ps c.loop-reader.heights) (all-seen c.order.result.now (map (λ r. r.now) c.loop-reader.yielded) problem.graph.order end.0 c.order.ensures.order) c.loop-reader.invariant)

pub returns-clause-low : goal.returns-clause-low
returns-clause-low c =
    let problem : Problem = c.args.problem.now in
    let sound : IsGraph problem.graph = subst IsGraph c.graph.ensures c.is_sound.ensures in
    let end = YieldsList-end (YieldsList-from_rev_slice c.order.result.now cc) c.loop-reader.yielded _ c.loop-reader.yielded_by _ _ c.in-None.is c.next.ensures.steps in
    let all : length problem.graph.order ≤ length problem.graph.order = omega arith in
    low-before problem sound.flow.sources problem.graph.order c.loop-reader.heights sound.flow.few all
    (subst (λ ps. AreRaised problem ps c.loop-reader.heights) (all-seen c.order.result.now (map (λ r. r.now) c.loop-reader.yielded) problem.graph.order end.0 c.order.ensures.order) c.loop-reader.invariant)
