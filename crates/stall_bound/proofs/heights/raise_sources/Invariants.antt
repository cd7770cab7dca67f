use Rattle.std.proofs.Common.{◌≡◌, ℕ, ◌+◌, ◌<◌, ◌≤◌, length, drop, max, get_or, EachIndex}
use Rattle.sl_model.specs.Legal.{sources_in}
use Rattle.search_space.specs.Bound.{way_by}
use Rattle.stall_bound.proofs.HeightLemmas.{ways_from}
use Rattle.stall_bound.proofs.heights.raise_sources.Given as goal

-- each height, with the ways by the operands that are left, is that with the ways by all
abbrev pub invariant-loop-operand : goal.invariant-loop-operand
invariant-loop-operand l = record {
  raised : (height : ℕ → ℕ) → height l.reader ≡ get_or l.fn.heights l.reader 0 → (p : ℕ) → p < length l.problem.graph.items →
      max (get_or l.heights p 0) (ways_from l.problem height p l.reader l.operand (drop l.operand (sources_in l.problem l.reader)))
      ≡ max (get_or l.fn.heights p 0) (way_by l.problem height p l.reader);
  low : (limit : ℕ) → EachIndex l.fn.heights (λ p. get_or l.fn.heights p 0 ≤ limit) → EachIndex l.heights (λ p. get_or l.heights p 0 ≤ limit + 255);
  items : length l.heights ≡ length l.problem.graph.items;
}
