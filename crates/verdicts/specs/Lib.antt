-- Questions 3 and 4 on a table, and the way to the answers.
pub mod Verdict
pub mod Next
pub mod Deciding
