-- The least staircase of two lists, by tables of numbers
pub mod Stairs
-- What the steps of a pass do, and how the merge goes on
pub mod Passes
