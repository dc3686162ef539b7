-- Each answer is given exactly in its case
pub mod WrittenExact
-- The ways through the code
pub mod WriteLaws
pub mod EveryTraceHolds
-- The events of three lists, and how long a file is
pub mod ListLaws
pub mod SizeLaws
-- The round trips
pub mod ReadsBack
pub mod WritesAgain
-- The ways through the code
pub mod PutLaws
