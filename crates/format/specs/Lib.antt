-- The format of a recording's file.
pub mod Bytes
pub mod Layout
pub mod Readable
