-- The ways through the program
pub mod NightlyLaws
