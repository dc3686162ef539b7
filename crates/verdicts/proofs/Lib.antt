-- The ways through the code
pub mod VerdictLaws
pub mod NextLaws
