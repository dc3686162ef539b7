-- What the parts of a text give: what the private functions promise.
use Rattle.std.specs.Prelude.{ℕ, ◌+◌, ◌-◌, ◌≤◌, ◌<◌, ◌≡◌, ◌⊎◌, Bool, false, cond, length, get_or, take, drop, eqb, Some, None, IsSome}
use mathlib.Core.List.{List, [], ◌∷◌, ◌++◌, map, Memᴰ}
use Rattle.model.specs.Trace.{Event, Trace}
use Rattle.format.specs.Readable.{line_feed, Readable}
use Rattle.appending.specs.Appended.{Appends}
use Rattle.wording.specs.Lines.{note_line, IsNote, event_line, InRange, IsEvent}
use Rattle.composing.specs.Texts.{lines, said, line_of, joined, Listed}
use Rattle.wording.specs.Reasons.{reason_of}
use Rattle.composing.specs.declared.BadLine.{BadLine}
use Rattle.composing.specs.declared.Events.{Events}

-- the line that begins at a place ends at `end`, and what follows the byte there are the lines after it
pub record LineEnd (text : List ℕ) (at end : ℕ) : Type 0 where
  pub low : at ≤ end
  pub high : end ≤ length text
  pub splits : lines (drop at text) ≡ take (end - at) (drop at text) ∷ lines (drop (end + 1) text)

-- and the next line begins at `next`
pub record NextLine (text : List ℕ) (at next : ℕ) : Type 0 where
  pub line : List ℕ
  pub splits : lines (drop at text) ≡ line ∷ lines (drop next text)
  pub on : at < next
  pub within : next ≤ length text

-- the lines between two places say these
pub record Says (text : List ℕ) (from at : ℕ) (these : List (List ℕ)) : Type 0 where
  pub between : List (List ℕ)
  pub splits : lines (drop from text) ≡ between ++ lines (drop at text)
  pub says : said between ≡ these

-- does a comment begin at a place?
abbrev pub comment_at : List ℕ → ℕ → Bool
comment_at text at = eqb (get_or text at 0) 35

-- a place of the text, its end included, at which none begins
pub record Stands (text : List ℕ) (at : ℕ) : Type 0 where
  pub within : at ≤ length text
  pub plain : comment_at text at ≡ false

-- there is nothing but comments from one place to such a place
pub record Skips (text : List ℕ) (from at : ℕ) : Type 0 where
  pub nothing : Says text from at []
  pub low : from ≤ at
  pub stands : Stands text at

-- nor between the line that ends at `end` and place `next`
pub record NextSaid (text : List ℕ) (end next : ℕ) : Type 0 where
  pub nothing : Says text (end + 1) next []
  pub low : end ≤ next
  pub on : (end < next) ⊎ (length text ≤ end)
  pub stands : Stands text next

-- what a note line adds to the preamble, n note lines being before it
abbrev pub note_bytes : ℕ → List ℕ → List ℕ
note_bytes n text = cond (eqb n 0) text (line_feed ∷ text)

-- the lines up to place at say n note lines, whose p bytes are put
pub record NotesRead (text pre pre' : List ℕ) (n p at : ℕ) : Type 0 where
  pub notes : List (List ℕ)
  pub these : Says text 0 at (map note_line notes)
  pub readable : (t : List ℕ) → Memᴰ t notes → Readable t
  pub number : n ≡ length notes
  pub put : Appends (joined notes) 0 pre pre' p
  pub stands : Stands text at
  pub few : n ≤ at
  pub short : p ≤ at

-- the same, and the line there, if there is one, is none
pub record NotesUpTo (text pre pre' : List ℕ) (n p at : ℕ) : Type 0 where
  pub read : NotesRead text pre pre' n p at
  pub stops : (l : List ℕ) (more : List (List ℕ)) → lines (drop at text) ≡ l ∷ more → ¬ IsNote l

-- the events are read from a place on, and the lists are as long as the text
pub record ListsLent (text : List ℕ) (from : ℕ) (th ki ob : List ℕ) : Type 0 where
  pub start : Stands text from
  pub threads : length text ≤ length th
  pub kinds : length text ≤ length ki
  pub objects : length text ≤ length ob

-- the lines between two places say n event lines, whose events are put
pub record EventsRead (text : List ℕ) (from : ℕ) (th th' ki ki' ob ob' : List ℕ) (n at : ℕ) : Type 0 where
  pub es : Trace
  pub these : Says text from at (map event_line es)
  pub in_range : (e : Event) → Memᴰ e es → InRange e
  pub number : n ≡ length es
  pub put : Listed es th th' ki ki' ob ob' n
  pub stands : Stands text at
  pub few : from + n ≤ at

-- all lines from a place on but the comments are event lines, or the first that is none is reached
pub data ReadsEvents (text : List ℕ) (from : ℕ) (th th' ki ki' ob ob' : List ℕ) (v : Events) : Type 0 where
  all : {at : ℕ} → EventsRead text from th th' ki ki' ob ob' v.count at → length text ≤ at → v.stop ≡ None → ReadsEvents text from th th' ki ki' ob ob' v
  stopped : {at : ℕ} {l : List ℕ} {more : List (List ℕ)} → EventsRead text from th th' ki ki' ob ob' v.count at → at < length text → lines (drop at text) ≡ l ∷ more
      → ((e : Event) → ¬ IsEvent l e) → v.stop ≡ Some at → ReadsEvents text from th th' ki ki' ob ob' v

-- a line begins at a place, behind so many note lines and event lines; there are no more lines than bytes
pub record StopsAt (text : List ℕ) (a n at : ℕ) : Type 0 where
  pub within : at < length text
  pub few : a + n + 1 ≤ length text
  pub numbered : IsSome (line_of (a + n + 1) (lines text))

-- the answer for the line that begins at a place, the m-th of those that are no comments
pub record BadAt (text : List ℕ) (m at : ℕ) (b : BadLine) : Type 0 where
  pub line : List ℕ
  pub more : List (List ℕ)
  pub number : line_of m (lines text) ≡ Some b.number
  pub there : lines (drop at text) ≡ line ∷ more
  pub reason : b.reason ≡ reason_of line
