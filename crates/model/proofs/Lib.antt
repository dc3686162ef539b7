-- What the theorems rest on.
pub mod Tests
pub mod Lists
pub mod Passed
-- what an event waits for
pub mod AwaitsExact
pub mod Histories
pub mod Locks
pub mod SectionsExact
pub mod Agree
-- refusals and faults, row by row
pub mod RowsExact
-- the observed write, in words
pub mod ObservedExact
-- The theorems, by their numbers in docs/CLAIMS.md: 1
pub mod RuleByRule
pub mod MatchingExact
pub mod ConeEvents
-- 8, the number of threads
pub mod Threads
-- 2
pub mod OneShown
-- 3
pub mod TwoThreads
-- 4
pub mod Stability
-- 4, demand 3 whole
pub mod StaysTrue
