-- A file opened: its table, or its refusal.
pub mod Opening
-- How the table is filled, and what each pass knows on its way
pub mod Filling
pub mod Knows
