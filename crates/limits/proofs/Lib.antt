pub mod LimitLaws
-- The refusals have the numbers of the paper
pub mod PaperLaws
-- a kind by its number
pub mod KindLaws
