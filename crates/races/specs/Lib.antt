-- A conflicting pair, its witness in a lent list, and the next race with its witness.
pub mod Witness
pub mod Next
-- The way to a witness
pub mod Engine
