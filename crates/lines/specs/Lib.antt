-- The lines of the nightly report.
pub mod Lines
-- the room that each needs
pub mod Room
