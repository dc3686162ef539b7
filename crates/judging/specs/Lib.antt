-- Judging a file: refusals 1 to 4, 13, 5 to 7, 15 to 17, 8 and 9.
pub mod Judged
pub mod Walk
