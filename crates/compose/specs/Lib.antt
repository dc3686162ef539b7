-- What a text makes
pub mod Composed
