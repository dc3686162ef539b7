-- Where the intervals of P end
pub mod EndLaws
-- What an event of Q needs by what it observed or overwrote
pub mod LastLaws
pub mod FirstLaws
-- What a write of Q needs by the reads of P that observed it
pub mod OverLaws
-- What a section of Q that has no end needs
pub mod OpenLaws
-- The tables say the rules
pub mod StairLaws
