-- What the static library gives to other languages: an answer as one number.
pub mod Numbers
pub mod Packed
