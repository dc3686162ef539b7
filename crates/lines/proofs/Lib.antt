-- Numbers, one after the other
pub mod NumbersLaws
-- The lines, put together from their pieces
pub mod LineLaws
