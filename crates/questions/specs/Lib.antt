-- The answers to the questions, as definitions over the file's bytes.
pub mod Answers
pub mod Observations
pub mod Verdicts
pub mod Note
-- demand 3, of the answers
pub mod AnswersStayTrue
-- the writer beside the questions
pub mod RoundTrips
