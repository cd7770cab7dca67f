use Rattle.lane_ops.proofs.shifts.+shift_values.Given as goal

abbrev pub decreases-shift_values : goal.decreases-shift_values
decreases-shift_values l = l.cut.count
