-- The first refusal of a file
pub mod JudgedExact
-- The ways through the code
pub mod EffectLaws
pub mod ThreadLaws
pub mod WalkLaws
pub mod FileLaws
