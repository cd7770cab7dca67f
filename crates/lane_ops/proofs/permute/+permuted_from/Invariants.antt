use Rattle.lane_ops.proofs.permute.+permuted_from.Given as goal

abbrev pub decreases-permuted_from : goal.decreases-permuted_from
decreases-permuted_from l = l.count
