-- A text, put together of its pieces.
use Prim.Native.Nat.{ℕ, ◌+◌, ◌-◌, ◌*◌, ◌≤◌, ◌<◌}
use native.Mathlib.Omega.{arith}
use native.Mathlib.Numerals.{add-one}
use mathlib.Core.Path.{◌≡◌}
use mathlib.Core.List.{List, [], ◌∷◌, ◌++◌, append_assoc, append-nil}
use lib.ListN.{length, get_or, take}
use lib.Seq.{take-suc, take_all}
use borrow.Author.Tests.{eq-eqb}
use mir.Syntax.{w8}
use mir.Val.{Fits}
use Rattle.limits.specs.Kinds.{kind_number}
use Rattle.limits.specs.declared.Kind.{Kind}
use Rattle.appending.specs.Decimal.{decimal, spaced}
use Rattle.appending.specs.Appended.{Appends, AppendsShort}
use Rattle.appending.proofs.DecimalLaws.{decimal_few}
use Rattle.appending.proofs.AppendLaws.{appends_nothing, appends_then}
use Rattle.format.specs.Bytes.{trace_in}
use Rattle.wording.specs.Lines.{note_word, event_line}
use Rattle.showing.specs.Shown.{text_from}
use Rattle.showing.specs.Pieces.{note_byte, byte_width, note_bytes, notes_text, spaced_kind, event_text, event_text_at, events_text, event_line_bytes, EventsLent}
use Rattle.showing.proofs.LineLaws.{bytes_append, no_notes, some_notes, word_few, events-next}

-- ---- a byte of a preamble

module _ (b : ℕ) {at : ℕ} {out mid : List ℕ} {p : ℕ} (a : Appends (b ∷ []) at out mid p) where
  pub feed_put : b ≡ 10 → {out' : List ℕ} {r : ℕ} → Appends note_word p mid out' r → AppendsShort byte_width (note_byte b) at out out' r
  feed_put q w = record { appends = rw (eq-eqb b 10 q, ← q) (appends_then a w); short = let e = a.ends in let f = w.ends in omega arith }

-- ---- the note lines

-- the first i bytes of the preamble are there
pub record NotesLaid (preamble : List ℕ) (at : ℕ) (out₀ out : List ℕ) (end i : ℕ) : Type 0 where
  pub done : Appends (note_bytes (take i preamble)) at out₀ out end
  pub short : end ≤ at + byte_width * i
  pub low : i ≤ length preamble
  pub room : at + byte_width * length preamble + 1 ≤ length out₀

pub notes_none : (preamble : List ℕ) → length preamble ≡ 0 → (out : List ℕ) → Appends (notes_text preamble) 0 out out 0
notes_none preamble e out = rw (no_notes preamble e) (appends_nothing 0 out (omega arith))

module _ {preamble mid : List ℕ} {p : ℕ} where
  pub notes_first : {out₀ : List ℕ} → byte_width * length preamble + byte_width ≤ length out₀ → Appends note_word 0 out₀ mid p → NotesLaid preamble p mid mid p 0
  unfolding note_bytes
  notes_first h a =
      let e = a.ends in
      let s = a.same in
      record { done = appends_nothing p mid (omega arith); short = omega arith; low = omega arith; room = omega arith }

  module _ {out : List ℕ} {end i : ℕ} (w : NotesLaid preamble p mid out end i) where
    pub notes_on : i < length preamble → {out' : List ℕ} {r : ℕ} → AppendsShort byte_width (note_byte (get_or preamble i 0)) end out out' r → NotesLaid preamble p mid out' r (i + 1)
    unfolding note_bytes
    notes_on h b = record {
      done = rw (add-one i, take-suc preamble i 0 h, bytes_append (take i preamble) (get_or preamble i 0 ∷ []), append-nil) (appends_then w.done b.appends);
      short = let e = b.short in let p = w.short in omega arith;
      low = omega arith;
      room = w.room;
    }

    pub notes_put : length preamble ≤ i → (length preamble ≡ 0 → ⊥) → {out₀ : List ℕ} → Appends note_word 0 out₀ mid p → {out' : List ℕ} {r : ℕ} → Appends (10 ∷ []) end out out' r → Appends (notes_text preamble) 0 out₀ out' r
    notes_put h ne a b = rw (some_notes preamble ne) (appends_then a (appends_then (rw (take_all i preamble h) at w.done) b))

-- ---- the line of an event

pub kind_put : {k j : Kind} → k ≡ j → {at : ℕ} {out out' : List ℕ} {r : ℕ} → Appends (spaced_kind (kind_number j)) at out out' r → AppendsShort 8 (spaced_kind (kind_number k)) at out out' r
kind_put {j = j} e a = record { appends = rw e a; short = let h = word_few (kind_number j) in let f = a.ends in omega arith }

module _ (n : ℕ) (fits : Fits w8 n) (at : ℕ) (out : List ℕ) where
  pub thread_room : at + 3 ≤ length out → at + length (decimal n) ≤ length out
  thread_room h = let f = decimal_few 2 n (omega arith) in omega arith

  pub thread_put : {out' : List ℕ} {r : ℕ} → Appends (decimal n) at out out' r → AppendsShort 3 (decimal n) at out out' r
  thread_put a = record { appends = a; short = let f = decimal_few 2 n (omega arith) in let e = a.ends in omega arith }

pub line_put : (c d x : ℕ) {at p q r z : ℕ} {out o₁ o₂ o₃ out' : List ℕ} → AppendsShort 3 (decimal c) at out o₁ p → AppendsShort 8 (spaced_kind d) p o₁ o₂ q → AppendsShort 6 (spaced x) q o₂ o₃ r
    → Appends (10 ∷ []) r o₃ out' z → AppendsShort event_line_bytes (event_text (record { thread = c; kind = d; object = x })) at out out' z
unfolding event_text event_line
line_put c d x a b v w = record {
  appends = simp append_assoc (appends_then a.appends (appends_then b.appends (appends_then v.appends w)));
  short = let e = a.short in let f = b.short in let g = v.short in let i = w.ends in omega arith;
}

-- ---- the event lines

-- those of the events before k are there
pub record EventsLaid (ev : List ℕ) (at : ℕ) (out₀ out : List ℕ) (end k : ℕ) : Type 0 where
  pub done : Appends (events_text (take (k - 1) (trace_in ev))) at out₀ out end
  pub short : end ≤ at + event_line_bytes * (k - 1)
  pub low : 1 ≤ k
  pub high : k ≤ length (trace_in ev) + 1
  pub lent : EventsLent ev out₀ at

module _ {ev : List ℕ} {at : ℕ} {out₀ : List ℕ} where
  pub events-first : EventsLent ev out₀ at → EventsLaid ev at out₀ out₀ at 1
  unfolding events_text text_from
  events-first l = record { done = appends_nothing at out₀ (let h = l.room in omega arith); short = omega arith; low = omega arith; high = omega arith; lent = l }

  module _ {out : List ℕ} {end k : ℕ} (w : EventsLaid ev at out₀ out end k) (n : ℕ) (is : n ≡ length (trace_in ev)) where
    module _ (h : k < n + 1) where
      next_text : events_text (take (k + 1 - 1) (trace_in ev)) ≡ events_text (take (k - 1) (trace_in ev)) ++ event_text_at ev k
      next_text = let z : k + 1 - 1 ≡ k = omega arith in rw z (events-next (trace_in ev) k w.low (omega arith))

      pub events_on : {out' : List ℕ} {r : ℕ} → AppendsShort event_line_bytes (event_text_at ev k) end out out' r → EventsLaid ev at out₀ out' r (k + 1)
      events_on b = record {
        done = rw next_text (appends_then w.done b.appends);
        short = let a = w.short in let c = b.short in let d = w.low in omega arith;
        low = omega arith;
        high = omega arith;
        lent = w.lent;
      }
