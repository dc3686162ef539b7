-- The ways through the code
pub mod WitnessLaws
-- The races after two numbers, one lower event at a time
pub mod ListLaws
-- What an answer says
pub mod AnswerLaws
