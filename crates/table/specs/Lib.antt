-- What each event is linked to, and a judged recording as one table.
pub mod Links
pub mod Table
-- lists by number
pub mod Entries
-- the test of a conflicting pair
pub mod Conflicts
-- that it has its links is a fact
pub mod Facts
-- the table of a judged recording
pub mod Judged
