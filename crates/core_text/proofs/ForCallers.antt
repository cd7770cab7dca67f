-- The lemmas that other crates cite.
pub use Rattle.core_text.proofs.InTurn.{IsSoFar, so_far-ends, so_far-grows, so_far-refuses, next-at, none-past, pushed}
