-- What the digits of a number are
pub mod DecimalLaws
-- One piece behind the other
pub mod AppendLaws
