use Rattle.std.proofs.Common.{◌≡◌, ◌++◌}
use Rattle.std.specs.FinMap.{entries}
use Rattle.state_text.specs.StateText.{bytes_text, bytes_behind}
use Rattle.state_text.proofs.printer.push_bytes.Given as goal

abbrev pub invariant-loop-address : goal.invariant-loop-address
invariant-loop-address l = l.out.items ++ bytes_behind l.arch l.row.room l.row.next l.address-iterator ≡ l.fn.out.items ++ bytes_text l.fn.arch (entries l.fn.state.memory)
