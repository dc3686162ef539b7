-- What reading a text gives.
use Rattle.std.specs.Prelude.{ℕ, ◌+◌, ◌-◌, ◌*◌, ◌≤◌, ◌≡◌, cond, length, get_or, take, eqb, Option, Some, None, Result, Ok, Err}
use mathlib.Core.List.{List, [], ◌∷◌, ◌++◌, map, Memᴰ}
use Rattle.model.specs.Trace.{Event, Trace, thread_list, kind_list, object_list}
use Rattle.limits.specs.Limits.{max_bytes}
use Rattle.format.specs.Readable.{line_feed, Readable}
use Rattle.appending.specs.Appended.{Appends}
use Rattle.wording.specs.Lines.{note_line, event_line, InRange, is_comment}
use Rattle.wording.specs.Reasons.{reason_of}
use Rattle.composing.specs.declared.Parts.{Parts}
use Rattle.composing.specs.declared.BadLine.{BadLine}

-- the most bytes of a text: eight for each byte of the longest file. Six are enough for its text (showing: text_short); the others are for comments
abbrev pub text_bytes : ℕ
text_bytes = 8 * max_bytes

-- ---- the lines of a text

-- a byte at the front of the first line
abbrev pub extend : ℕ → List (List ℕ) → List (List ℕ)
extend b [] = (b ∷ []) ∷ []
extend b (l ∷ ls) = (b ∷ l) ∷ ls

-- a line feed ends a line, and any other byte stands in front of the first line of what follows; so what follows the last line feed is a line
-- where it has a byte
unfoldable pub lines : List ℕ → List (List ℕ)
lines [] = []
lines (b ∷ s) = cond (eqb b line_feed) ([] ∷ lines s) (extend b (lines s))

-- line n, from 1
abbrev pub line_at : ℕ → List ℕ → List ℕ
line_at n text = get_or (lines text) (n - 1) []

-- the lines that are no comments, in their order
unfoldable pub said : List (List ℕ) → List (List ℕ)
said [] = []
said (l ∷ ls) = cond (is_comment l) (said ls) (l ∷ said ls)

-- the number of the line that is the m-th of those, if there is one, with k lines before these
abbrev pub line_from : ℕ → ℕ → List (List ℕ) → Option ℕ
line_from k m [] = None
line_from k m (l ∷ ls) = cond (is_comment l) (line_from (k + 1) m ls) (cond (eqb m 1) (Some (k + 1)) (line_from (k + 1) (m - 1) ls))

-- lines are counted from 1, with the comments
unfoldable pub line_of : ℕ → List (List ℕ) → Option ℕ
line_of m ls = line_from 0 m ls

-- ---- what a text says

-- texts with a line feed between them
unfoldable pub joined : List (List ℕ) → List ℕ
joined [] = []
joined (t ∷ []) = t
joined (t ∷ u ∷ l) = t ++ (line_feed ∷ joined (u ∷ l))

-- lines that make a recording: but for the comments, note lines of these texts, then the lines of these events
pub record Makes (ls : List (List ℕ)) (notes : List (List ℕ)) (es : Trace) : Type 0 where
  pub these : said ls ≡ map note_line notes ++ map event_line es
  pub readable : (t : List ℕ) → Memᴰ t notes → Readable t
  pub in_range : (e : Event) → Memᴰ e es → InRange e

-- the events stand in the front of the three lists, and the rest of each is as it was
pub record Listed (es : Trace) (th th' ki ki' ob ob' : List ℕ) (n : ℕ) : Type 0 where
  pub threads : Appends (thread_list es) 0 th th' n
  pub kinds : Appends (kind_list es) 0 ki ki' n
  pub objects : Appends (object_list es) 0 ob ob' n

-- line n is the first bad line: the lines before it make a recording, and with it they do not
pub record FirstBad (text : List ℕ) (n : ℕ) : Type 0 where
  pub notes : List (List ℕ)
  pub es : Trace
  pub least : 1 ≤ n
  pub most : n ≤ length (lines text)
  pub before : Makes (take (n - 1) (lines text)) notes es
  pub none : (other : List (List ℕ)) (more : Trace) → ¬ Makes (take n (lines text)) other more

-- what each answer means: the lines make a recording, or there is a first bad line, with the reason; the preamble and the events of the lines, or of those before
-- the bad one, stand in the front of what is lent, the rest of which is as it was
pub data ReadsText (text pre pre' th th' ki ki' ob ob' : List ℕ) : Result Parts BadLine → Type 0 where
  good : {notes : List (List ℕ)} {es : Trace} {v : Parts} → Makes (lines text) notes es → v.notes ≡ length notes → v.events ≡ length es
      → Appends (joined notes) 0 pre pre' v.preamble → Listed es th th' ki ki' ob ob' v.events → ReadsText text pre pre' th th' ki ki' ob ob' (Ok v)
  bad_line : {b : BadLine} {p m : ℕ} (x : FirstBad text b.number) → b.reason ≡ reason_of (line_at b.number text) → Appends (joined x.notes) 0 pre pre' p → Listed x.es th th' ki ki' ob ob' m
      → ReadsText text pre pre' th th' ki ki' ob ob' (Err b)

-- two answers are one, and what is lent holds the same in the end
pub record Settled (r s : Result Parts BadLine) (pre pre' th th' ki ki' ob ob' : List ℕ) : Type 0 where
  pub answer : r ≡ s
  pub preamble : pre ≡ pre'
  pub threads : th ≡ th'
  pub kinds : ki ≡ ki'
  pub objects : ob ≡ ob'

-- what is lent is as long as the text, which is longer than any preamble and any list of events in it
pub record Lent (text pre th ki ob : List ℕ) : Type 0 where
  pub preamble : length text ≤ length pre
  pub threads : length text ≤ length th
  pub kinds : length text ≤ length ki
  pub objects : length text ≤ length ob
