pub mod FaultLaws
pub mod PassLaws
-- the walk over the list, and question 5
pub mod CheckLaws
