-- What the functions that other languages call require of their parts
pub mod CallLaws
