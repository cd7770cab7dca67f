use Rattle.state_text.proofs.printer.+push_registers_from.Given as goal

abbrev pub decreases-push_registers_from : goal.decreases-push_registers_from
decreases-push_registers_from l = l.count
