-- Numbers in decimal.
pub mod Decimal
-- what a function that puts bytes behind those in use leaves
pub mod Appended
