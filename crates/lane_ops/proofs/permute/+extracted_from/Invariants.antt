use Rattle.lane_ops.proofs.permute.+extracted_from.Given as goal

abbrev pub decreases-extracted_from : goal.decreases-extracted_from
decreases-extracted_from l = l.count
