-- The theorems, by their numbers in docs/CLAIMS.md: 5
pub mod CheckExact
-- 6
pub mod LeastSet
pub mod ConeExact
-- 6, lists in order, sections, and an order that fits the rules
pub mod InOrder
pub mod Holds
pub mod Solutions
pub mod ConeParts
pub mod Fits
pub mod CandidateFits
-- 6, candidates are the merges by solutions
pub mod Climbs
pub mod SolutionFits
pub mod FitsSolution
pub mod SolutionExactly
-- 6, the least staircase gives the one shown
pub mod LeastStairs
pub mod IntervalTests
pub mod ForcedExact
pub mod ShownExact
-- 7
pub mod OrderExact
pub mod ListingExact
-- 8, the refusals
pub mod RefusalsExact
-- 4, demand 3 of the answers
pub mod StaysTrue
-- 9
pub mod ExamplesHold
