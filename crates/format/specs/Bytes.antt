-- Bytes to numbers and to events. All numbers are little-endian.
use Rattle.std.specs.Prelude.{ℕ, zero, suc, ◌+◌, ◌*◌, ◌/◌, List, [], ◌∷◌, length, get_or}
use Rattle.model.specs.Trace.{Event, Trace}
use Rattle.limits.specs.Limits.{event_bytes}
use Rattle.limits.specs.declared.Event.{Event as Decoded}

abbrev pub byte : List ℕ → ℕ → ℕ
byte s p = get_or s p 0

abbrev pub number16 : List ℕ → ℕ → ℕ
number16 s p = byte s p + 256 * byte s (p + 1)

abbrev pub number32 : List ℕ → ℕ → ℕ
number32 s p = number16 s p + 65536 * number16 s (p + 2)

-- the event whose bytes begin at place p: thread, kind, and object of two bytes
abbrev pub event_at : List ℕ → ℕ → Event
event_at s p = record { thread = byte s p; kind = byte s (p + 1); object = number16 s (p + 2) }

-- n events of z bytes each, from place p on
unfoldable pub events_from : ℕ → List ℕ → ℕ → ℕ → Trace
events_from z s p zero = []
events_from z s p (suc n) = event_at s p ∷ events_from z s (p + z) n

-- the trace whose events, of z bytes each, are these bytes
unfoldable pub trace_of : ℕ → List ℕ → Trace
trace_of z s = events_from z s 0 (length s / z)

-- the same at the size that events have
abbrev pub trace_in : List ℕ → Trace
trace_in s = trace_of event_bytes s

-- an event of the code as one of the model
abbrev pub plain : Decoded → Event
plain e = record { thread = e.thread.number; kind = e.kind; object = e.object }
