-- The nightly report, from place to place.
pub mod Report
pub mod Rest
pub mod Places
pub mod Writing
