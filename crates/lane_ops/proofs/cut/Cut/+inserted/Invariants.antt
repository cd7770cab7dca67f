use Rattle.lane_ops.proofs.cut.Cut.+inserted.Given as goal

abbrev pub decreases-inserted : goal.decreases-inserted
decreases-inserted l = l.self.count
