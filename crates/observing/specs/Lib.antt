-- Question 2 on the events of a file.
pub mod Observing
-- All of its answers at once
pub mod Entries
