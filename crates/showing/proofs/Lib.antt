-- Lines and the text of them
pub mod TextLaws
-- Note lines and event lines
pub mod LineLaws
-- The ways through the code
pub mod PutLaws
pub mod ShowLaws
-- Each answer exactly in its case
pub mod ShowExact
-- What is shown makes the recording again, and what a recording was made of is shown again
pub mod RoundTrips
