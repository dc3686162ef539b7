-- The first place of a byte
pub mod FirstLaws
-- Numbers in decimal
pub mod NumberLaws
-- Note lines
pub mod NoteLaws
-- Event lines, and lines
pub mod LineLaws
-- Why a line is bad
pub mod ReasonLaws
-- and that the reason is true of it
pub mod ReasonTrue
-- A line has one reading
pub mod LineOne
