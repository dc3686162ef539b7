-- What a note line and an event line are, and what reading a line gives
pub mod Lines
-- what the parts of it give
pub mod Parts
-- why a line is bad
pub mod Reasons
