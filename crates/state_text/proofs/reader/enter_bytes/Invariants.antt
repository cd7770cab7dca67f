use Rattle.std.proofs.Common.{◌≡◌, ◌≤◌, ◌^◌, length}
use Rattle.state_text.specs.StateText.{with_bytes}
use Rattle.state_text.proofs.reader.enter_bytes.Given as goal

abbrev pub invariant-loop-rest : goal.invariant-loop-rest
invariant-loop-rest l = record {
  within : l.address ≤ 2 ^ 64;
  same : with_bytes l.arch l.address l.rest l.state ≡ with_bytes l.fn.arch l.fn.first l.fn.digits l.fn.state;
}

abbrev pub decreases-loop-rest : goal.decreases-loop-rest
decreases-loop-rest l = length l.rest
