-- The two lists of a cone's events, and the tables that say the rules of their staircases
pub mod Parts
pub mod Bounds
pub mod Steps
