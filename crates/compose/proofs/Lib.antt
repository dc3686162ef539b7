-- The ways through the program
pub mod ComposeLaws
-- A text has one answer
pub mod OneAnswer
