use Rattle.lane_ops.proofs.lanewise.+lane_values.Given as goal

abbrev pub decreases-lane_values : goal.decreases-lane_values
decreases-lane_values l = l.cut.count
