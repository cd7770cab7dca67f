use Rattle.lane_ops.proofs.cut.Cut.+narrowed.Given as goal

abbrev pub decreases-narrowed : goal.decreases-narrowed
decreases-narrowed l = l.self.count
