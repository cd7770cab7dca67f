mod Moves
mod Below
mod Decided
mod Strides
mod Joined
mod Settled
