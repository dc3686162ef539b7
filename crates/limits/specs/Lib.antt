-- The numbers of the format, and the refusals.
pub mod Limits
pub mod Refusals
-- the kinds of events
pub mod Kinds
