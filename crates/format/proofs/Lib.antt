-- Events out of bytes
pub mod EventLaws
-- Refusals 1 to 4 and 13, and the parts of a file
pub mod LayoutExact
pub mod PartLaws
-- What the computed tests say
pub mod ReadableExact
