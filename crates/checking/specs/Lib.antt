-- Question 5 on events.
pub mod Faults
pub mod Checking
pub mod Passing
