-- The file of a preamble and a trace, with z bytes to an event.
use Rattle.std.specs.Prelude.{ℕ, ◌+◌, ◌-◌, ◌*◌, ◌/◌, ◌%◌, ◌≤◌, ◌≡◌, List, [], ◌∷◌, ◌++◌, length, replicate}
use Rattle.model.specs.Trace.{Event, Trace}
use Rattle.limits.specs.Limits.{event_bytes, trailer_bytes, max_bytes, mark_first, mark_second}

-- a number in two bytes and in four, little-endian (the last is a byte where the number has no more)
abbrev pub bytes16 : ℕ → List ℕ
bytes16 n = n % 256 ∷ n / 256 ∷ []

abbrev pub bytes32 : ℕ → List ℕ
bytes32 n = bytes16 (n % 65536) ++ bytes16 (n / 65536)

-- an event: thread, kind, and object of two bytes; what is left of its z bytes is 0
abbrev pub written_event : ℕ → Event → List ℕ
written_event z e = e.thread ∷ e.kind ∷ (bytes16 e.object ++ replicate (z - 4) 0)

unfoldable pub written_events : ℕ → Trace → List ℕ
written_events z [] = []
written_events z (e ∷ t) = written_event z e ++ written_events z t

-- the trailer of n events: distance, number of events, mark
unfoldable pub written_trailer : ℕ → ℕ → List ℕ
written_trailer z n = bytes32 (trailer_bytes + z * n) ++ (bytes16 n ++ (mark_first ∷ mark_second ∷ []))

-- preamble, events, trailer
unfoldable pub written : ℕ → List ℕ → Trace → List ℕ
written z p t = p ++ (written_events z t ++ written_trailer z (length t))

-- the same at the size that events have
abbrev pub file_with : List ℕ → Trace → List ℕ
file_with p t = written event_bytes p t

-- how many bytes that is
unfoldable pub written_bytes : ℕ → ℕ → ℕ → ℕ
written_bytes z p n = p + (z * n + trailer_bytes)

-- the events of three lists: the thread, the kind and the object of each
unfoldable pub trace_from : List ℕ → List ℕ → List ℕ → Trace
trace_from [] ds xs = []
trace_from (c ∷ cs) [] xs = []
trace_from (c ∷ cs) (d ∷ ds) [] = []
trace_from (c ∷ cs) (d ∷ ds) (x ∷ xs) = record { thread = c; kind = d; object = x } ∷ trace_from cs ds xs

-- the lists have one length
pub record Even (threads kinds objects : List ℕ) : Type 0 where
  pub kinds_too : length kinds ≡ length threads
  pub objects_too : length objects ≡ length threads

-- what `put_file` asks: events of lists of one length, and a file that is not too long
pub record Fitting (preamble threads kinds objects : List ℕ) : Type 0 where
  pub even : Even threads kinds objects
  pub fits : written_bytes event_bytes (length preamble) (length threads) ≤ max_bytes
