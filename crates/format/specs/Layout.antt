-- A file: preamble, events of z bytes each, trailer. Refusals 1 to 4 and 13.
use Rattle.std.specs.Prelude.{ℕ, ◌+◌, ◌-◌, ◌*◌, ◌≤◌, ◌≡◌, Bool, ◌&&◌, not, List, [], ◌∷◌, ◌++◌, length, take, drop, eqb, leb, Result, Ok, Err}
use Rattle.std.proofs.Math.Option.{Option, none, some}
use Rattle.model.specs.Trace.{Trace, Valid, at}
use Rattle.model.specs.Good.{max_events}
use Rattle.model.specs.Rows.{Row, row, nothing, first}
use Rattle.limits.specs.Limits.{event_bytes, trailer_bytes, max_bytes, is_file_size, mark_first, mark_second}
use Rattle.format.specs.Readable.{Readable, is_readable}
use Rattle.format.specs.Bytes.{byte, number16, number32, event_at, trace_of}
use Rattle.limits.specs.declared.Refusal.{Refusal}
use Rattle.limits.specs.declared.Refusal.TheVariants.{FileSize, Mark, EventCount, Distance, Preamble}
use Rattle.limits.specs.declared.Recording.{Recording}

-- ---- the trailer: distance (4 bytes), number of events (2 bytes), mark (2 bytes)

unfoldable pub distance : List ℕ → ℕ
distance s = number32 s (length s - trailer_bytes)

unfoldable pub count : List ℕ → ℕ
count s = number16 s (length s - 4)

-- ---- the parts of a file

-- where the first event begins: the distance back from the end
unfoldable pub start : List ℕ → ℕ
start s = length s - distance s

-- all bytes before that point
unfoldable pub preamble : List ℕ → List ℕ
preamble s = take (start s) s

unfoldable pub event_part : ℕ → List ℕ → List ℕ
event_part z s = take (z * count s) (drop (start s) s)

-- the same at the size that events have
abbrev pub part_of : List ℕ → List ℕ
part_of s = event_part event_bytes s

-- the events of a file, of z bytes each
unfoldable pub events : ℕ → List ℕ → Trace
events z s = trace_of z (event_part z s)

unfoldable pub trailer : List ℕ → List ℕ
trailer s = drop (length s - trailer_bytes) s

-- ---- what refusals 1 to 4 and 13 ask

-- refusal 1: from the trailer's bytes to the most
pub record Sized (s : List ℕ) : Type 0 where
  pub least : trailer_bytes ≤ length s
  pub most : length s ≤ max_bytes

-- refusal 2: the mark
pub record Marked (s : List ℕ) : Type 0 where
  pub first : byte s (length s - 2) ≡ mark_first
  pub second : byte s (length s - 1) ≡ mark_second

-- refusal 4: the distance is that of the first event, and not beyond the file
pub record Pointed (z : ℕ) (s : List ℕ) : Type 0 where
  pub back : distance s ≡ trailer_bytes + z * count s
  pub within : distance s ≤ length s

-- a file with the layout of the paper; refusal 13 asks for a readable preamble
pub record Layout (z : ℕ) (s : List ℕ) : Type 0 where
  pub sized : Sized s
  pub marked : Marked s
  pub few : count s ≤ max_events
  pub pointed : Pointed z s
  pub readable : Readable (preamble s)

-- the rows of the layout
abbrev pub layout_rows : ℕ → List ℕ → List Row
layout_rows z s =
    row 1 nothing (¬ Sized s)
    ∷ row 2 nothing (¬ Marked s)
    ∷ row 3 nothing (¬ (count s ≤ max_events))
    ∷ row 4 nothing (¬ Pointed z s)
    ∷ row 13 nothing (¬ Readable (preamble s))
    ∷ []

-- what a file with the layout is made of, and where each event stands in it
pub record Parts (z : ℕ) (s : List ℕ) : Type 0 where
  pub whole : preamble s ++ (event_part z s ++ trailer s) ≡ s
  pub of_preamble : length (preamble s) ≡ start s
  pub of_events : length (event_part z s) ≡ z * count s
  pub of_trailer : length (trailer s) ≡ trailer_bytes
  pub number : length (events z s) ≡ count s
  pub each : (k : ℕ) → Valid (events z s) k → at (events z s) k ≡ event_at s (start s + z * (k - 1))

-- ---- computed

unfoldable pub is_marked : List ℕ → Bool
is_marked s = eqb (byte s (length s - 2)) mark_first && eqb (byte s (length s - 1)) mark_second

unfoldable pub is_pointed : ℕ → List ℕ → Bool
is_pointed z s = eqb (distance s) (trailer_bytes + z * count s) && leb (distance s) (length s)

-- the rows' tests, and the first refusal
abbrev pub layout_tests : ℕ → List ℕ → List Bool
layout_tests z s =
    not (is_file_size (length s)) ∷ not (is_marked s) ∷ not (leb (count s) max_events) ∷ not (is_pointed z s) ∷ not (is_readable (preamble s)) ∷ []

unfoldable pub layout_refusal : ℕ → List ℕ → Option Refusal
layout_refusal z s = first (layout_tests z s) (FileSize ∷ Mark ∷ EventCount ∷ Distance ∷ Preamble ∷ [])

-- where a file's events begin
abbrev pub recording_of : List ℕ → Recording
recording_of s = record { start = start s }

-- what reading a file gives, by its refusal
abbrev pub file_of : List ℕ → Option Refusal → Result Recording Refusal
file_of s none = Ok (recording_of s)
file_of s (some r) = Err r

-- what `read_distance` asks: refusals 1 to 3 have no case, and the trailer counts n events
pub record Counted (s : List ℕ) (n : ℕ) : Type 0 where
  pub sized : Sized s
  pub marked : Marked s
  pub number : n ≡ count s
  pub few : n ≤ max_events

-- a file with the layout, and t says where its events begin
pub record Placed (s : List ℕ) (t : Recording) : Type 0 where
  pub layout : Layout event_bytes s
  pub span : t ≡ recording_of s
