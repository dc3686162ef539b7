-- What the lines of a text make, and what reading a text gives
pub mod Texts
-- what the parts of it give
pub mod Parts
