-- What is written reads back, and what is read is written again: the words of the two round trips.
use Rattle.std.specs.Prelude.{ℕ, ◌+◌, ◌*◌, ◌≤◌, ◌<◌, ◌≡◌, List, length}
use Rattle.model.specs.Trace.{Trace}
use Rattle.format.specs.Bytes.{byte}
use Rattle.format.specs.Layout.{count, start, preamble, events}

-- the file s reads as the preamble p and the trace t
pub record ReadsAs (z : ℕ) (s p : List ℕ) (t : Trace) : Type 0 where
  pub same_preamble : preamble s ≡ p
  pub same_events : events z s ≡ t
  pub same_number : count s ≡ length t

-- a list of bytes
abbrev pub AllBytes : List ℕ → Type 0
AllBytes s = (p : ℕ) → byte s p < 256

-- what an event's bytes have beyond thread, kind and object is 0; at four bytes to an event there is nothing beyond
abbrev pub Plain : ℕ → List ℕ → Type 0
Plain z s = (k j : ℕ) → k < count s → 4 ≤ j → j < z → byte s (start s + z * k + j) ≡ 0
