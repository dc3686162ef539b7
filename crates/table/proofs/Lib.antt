pub mod TableLaws
pub mod LinkFacts
pub mod BeganFacts
pub mod EntryLaws
-- The ways through the test of a conflicting pair
pub mod ConflictLaws
-- The threads, counted
pub mod ThreadLaws
