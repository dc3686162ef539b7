-- A recording as text, and the answer with the lent bytes after it
pub mod Shown
-- what the parts of a text are put together of
pub mod Pieces
-- what is shown makes the recording again, and what a recording was made of is shown again
pub mod RoundTrips
