-- A number is its parts, and each answer is read out of its parts
pub mod PackedExact
