pub mod Lanes
pub mod Halving
pub mod LaneByLane
pub mod Moves
pub mod Rounding
pub mod ForCallers
