-- Each answer is given exactly in its case
pub mod AnswersExact
pub mod ObservationsExact
-- The ways through the code
pub mod AnswerLaws
pub mod NoteLaws
pub mod VerdictsExact
-- Demand 3 of the answers
pub mod StayTrue
-- The round trips of the writer and the questions
pub mod RoundTrips
