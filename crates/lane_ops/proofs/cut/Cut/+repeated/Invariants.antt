use Rattle.lane_ops.proofs.cut.Cut.+repeated.Given as goal

abbrev pub decreases-repeated : goal.decreases-repeated
decreases-repeated l = l.self.count
