use Rattle.std.proofs.Common.{◌≡◌, List}
use Rattle.sl_model.specs.Cycles.{Issued}
use Rattle.legal_space.proofs.SecondPassLemmas.{IsAgain}
use Rattle.legal_space.proofs.second_pass.issue_again.Given as goal

abbrev pub invariant-loop-choice : goal.invariant-loop-choice
invariant-loop-choice l = record {
  again : (since : List Issued) × IsAgain l.problem l.schedule l.choice-index l.issue l.latest l.cycles.items since;
  room : l.issue.room ≡ l.fn.issue.room;
}
