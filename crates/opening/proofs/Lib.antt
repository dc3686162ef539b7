-- One word of a table, one column, and all
pub mod FillLaws
-- What the lists of the passes know
pub mod KnowsLaws
-- What the pass for observed writes knows after each event
pub mod KnowsExact
-- The passes, forwards and backwards
pub mod PassLaws
-- The ways through the steps
pub mod StepLaws
-- The ways through the opening of a file, and what an opened one gives
pub mod OpenLaws
