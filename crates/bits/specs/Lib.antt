-- Sets of small numbers in the bits of one.
pub mod Mask
