-- Each answer is given exactly in its case
pub mod ObservingExact
pub mod EntriesExact
-- Entries and the answers that they stand for; the pass that lists them
pub mod EntriesLaws
