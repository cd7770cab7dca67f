use Rattle.demo_kernel.proofs.kernel.+push_lines.Given as goal

abbrev pub decreases-push_lines : goal.decreases-push_lines
decreases-push_lines l = l.more
