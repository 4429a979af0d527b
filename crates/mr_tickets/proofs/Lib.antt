pub mod Sums
pub mod Moves
pub mod Seats
pub mod Slots
