-- Lists with one place put, and the places of members
pub mod PlaceLaws
-- The slots, as the events of P pass
pub mod SlotLaws
-- The two laws of a step
pub mod RuleLaws
-- A pass along Q
pub mod PassLaws
-- The passes together
pub mod SolveLaws
-- The merge
pub mod ClimbLaws
