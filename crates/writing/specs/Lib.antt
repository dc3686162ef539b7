-- The writer's answer, and the buffer after it.
pub mod Writing
pub mod EveryTrace
pub mod Written
-- Reading back and writing again
pub mod RoundTrip
