-- The lemmas that other crates cite.
pub use Rattle.issue_cost.proofs.IssueRule.{IsFreeBy-weaken, IsFreeBy-taken, first_slot-within, issued_at-length, last-next_cycle, next_cycle-from, next_cycle-within}
-- when a pass begins
pub use Rattle.issue_cost.proofs.IssueRule.{start-none, start-break, start-within}
-- a schedule passed through twice
pub use Rattle.issue_cost.proofs.PassLaws.{second_pass-issued, slots_anew, slots_at_start}
