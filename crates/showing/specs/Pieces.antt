-- The pieces of a text, as the code puts them one behind the other.
use Rattle.std.specs.Prelude.{ℕ, ◌+◌, ◌*◌, ◌≤◌, cond, List, [], ◌∷◌, ◌++◌, map, length, eqb}
use Rattle.model.specs.Trace.{Event, Trace, Valid, at}
use Rattle.model.specs.Good.{Good}
use Rattle.format.specs.Readable.{line_feed}
use Rattle.format.specs.Bytes.{trace_in}
use Rattle.format.specs.Layout.{Placed}
use Rattle.judging.specs.Judged.{IsGoodFile}
use Rattle.limits.specs.Limits.{event_bytes}
use Rattle.limits.specs.declared.Recording.{Recording}
use Rattle.wording.specs.Lines.{note_word, note_line, kind_word, event_line}
use Rattle.composing.specs.Texts.{text_bytes}
use Rattle.showing.specs.Shown.{notes_of, text_from}

-- a byte of a preamble in its note lines: behind a line feed the next of them begins
abbrev pub note_byte : ℕ → List ℕ
note_byte b = cond (eqb b line_feed) (line_feed ∷ note_word) (b ∷ [])

-- so many bytes of a text are enough for a byte of a file: a line feed and `note `
abbrev pub byte_width : ℕ
byte_width = 6

unfoldable pub note_bytes : List ℕ → List ℕ
note_bytes [] = []
note_bytes (b ∷ p) = note_byte b ++ note_bytes p

-- the note lines of a preamble
unfoldable pub notes_text : List ℕ → List ℕ
notes_text p = text_from (map note_line (notes_of p))

-- a kind's word after a space
abbrev pub spaced_kind : ℕ → List ℕ
spaced_kind k = 32 ∷ kind_word k

-- an event's line with its line feed, and those of all events
unfoldable pub event_text : Event → List ℕ
event_text e = event_line e ++ (line_feed ∷ [])

unfoldable pub events_text : Trace → List ℕ
events_text es = text_from (map event_line es)

-- that of event k
abbrev pub event_text_at : List ℕ → ℕ → List ℕ
event_text_at ev k = event_text (at (trace_in ev) k)

-- no event's line is longer than so many for each of its bytes
abbrev pub event_line_bytes : ℕ
event_line_bytes = byte_width * event_bytes

-- an event of a good trace
pub record GoodAt (ev : List ℕ) (k : ℕ) : Type 0 where
  pub good : Good (trace_in ev)
  pub valid : Valid (trace_in ev) k

-- the events of a good trace, and room for their lines
pub record EventsLent (ev out : List ℕ) (end : ℕ) : Type 0 where
  pub good : Good (trace_in ev)
  pub room : end + event_line_bytes * length (trace_in ev) ≤ length out

-- a good file, where its events begin, and room for any text
pub record TextLent (s : List ℕ) (t : Recording) (out : List ℕ) : Type 0 where
  pub good : IsGoodFile s
  pub placed : Placed s t
  pub room : text_bytes ≤ length out
