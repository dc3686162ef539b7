-- A judged recording as one table of 16-bit numbers: a row of words for each event, its own and its links.
use Rattle.std.specs.Prelude.{ℕ, zero, suc, ◌+◌, ◌-◌, ◌*◌, ◌/◌, ◌%◌, ◌≤◌, ◌<◌, ◌≡◌, List, [], ◌∷◌, length, get_or, set}
use Rattle.model.specs.Trace.{Event, Trace, Valid, thread_of, kind_of, object_of}
use Rattle.model.specs.Good.{Good, max_events}
use Rattle.table.specs.Links.{previous, waits_for, lock_depth, release_of, began, fork_of}

-- the words of a row
abbrev pub words : ℕ
words = 8

-- word c of event k's row
abbrev pub word : List ℕ → ℕ → ℕ → ℕ
word s k c = get_or s (words * (k - 1) + c) 0

-- the first word has an event's thread and kind, a byte each, and the second its object
abbrev pub event_in : List ℕ → ℕ → Event
event_in s k = record { thread = word s k 0 % 256; kind = word s k 0 / 256; object = word s k 1 }

-- n events, from event k on
unfoldable pub rows : List ℕ → ℕ → ℕ → Trace
rows s k zero = []
rows s k (suc n) = event_in s k ∷ rows s (suc k) n

-- the trace of a table
unfoldable pub trace : List ℕ → Trace
trace s = rows s 1 (length s / words)

-- the words of the longest table
abbrev pub room : ℕ
room = words * max_events

-- ---- the columns: the event's own two words, and its links

-- the first word
abbrev pub own_word : Trace → ℕ → ℕ
own_word t k = thread_of t k + 256 * kind_of t k

abbrev pub column_list : List (Trace → ℕ → ℕ)
column_list = own_word ∷ object_of ∷ previous ∷ waits_for ∷ lock_depth ∷ release_of ∷ began ∷ fork_of ∷ []

abbrev pub columns : ℕ
columns = 8

abbrev pub column : ℕ → Trace → ℕ → ℕ
column c = get_or column_list c (λ t k. 0)

-- a table of a good trace, with the links of all its events
pub record Linked (s : List ℕ) : Type 0 where
  pub good : Good (trace s)
  pub is : (c k : ℕ) → c < columns → Valid (trace s) k → word s k c ≡ column c (trace s) k

-- ---- setting a word

-- word c of event k's row is there
pub record Place (k c : ℕ) (s : List ℕ) : Type 0 where
  pub first : 1 ≤ k
  pub row : words * k ≤ length s
  pub column : c < words

abbrev pub with_word : List ℕ → ℕ → ℕ → ℕ → List ℕ
with_word s k c x = set s (words * (k - 1) + c) x
