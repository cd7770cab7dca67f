use Rattle.lane_ops.proofs.long.+long_values.Given as goal

abbrev pub decreases-long_values : goal.decreases-long_values
decreases-long_values l = l.cut.count
