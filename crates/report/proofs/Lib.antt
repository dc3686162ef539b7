-- What is left of a report, line by line
pub mod RestLaws
-- The ways through the code
pub mod WritingLaws
pub mod PlaceLaws
-- The answers, one after the other, write the report
pub mod PlaceToPlace
-- The report of the paper's Q
pub mod WorkedExample
