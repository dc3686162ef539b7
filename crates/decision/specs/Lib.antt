pub mod Check
pub mod Refusals
pub mod Rounds
pub mod Stairs
pub mod Order
pub mod Decision
pub mod StaysTrue
