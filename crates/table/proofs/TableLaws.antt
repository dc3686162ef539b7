-- Where an event of a trace stands in its table.
use Prim.Native.Nat.{ℕ, zero, suc, ◌+◌, ◌-◌, ◌*◌, ◌/◌, ◌%◌, ◌≤◌, ◌<◌}
use native.Mathlib.Omega.{arith}
use mathlib.Core.Path.{◌≡◌, refl, ap, sym, ◌∙◌}
use mathlib.Core.List.{List}
use lib.ListN.{length, get_or}
use Rattle.model.specs.Trace.{Event, Trace, no_event, fork, at, thread_of, kind_of, object_of, Valid}
use Rattle.model.specs.Good.{Good, max_thread, max_object}
use Rattle.model.proofs.Tests.{child_small, object_small}
use Rattle.table.specs.Table.{words, word, event_in, rows, trace, columns, column, Linked, Place}

length-rows : (s : List ℕ) (k n : ℕ) → length (rows s k n) ≡ n
unfolding rows
length-rows s k zero = refl
length-rows s k (suc n) = ap suc (length-rows s (suc k) n)

rows_at : (s : List ℕ) (k n j : ℕ) → j < n → get_or (rows s k n) j no_event ≡ event_in s (k + j)
unfolding rows
rows_at s k zero j h = absurd (omega arith)
rows_at s k (suc n) zero h = ap (event_in s) (omega arith)
rows_at s k (suc n) (suc j) h = rows_at s (suc k) n j (omega arith) ∙ ap (event_in s) (omega arith)

pub trace-length : (s : List ℕ) → length (trace s) ≡ length s / words
unfolding trace
trace-length s = length-rows s 1 (length s / words)

pub count_is : (s : List ℕ) → length s / words ≡ length (trace s)
count_is s = sym (trace-length s)

pub trace-at : (s : List ℕ) (k : ℕ) → Valid (trace s) k → at (trace s) k ≡ event_in s k
unfolding trace
trace-at s zero v = absurd (let p = v.positive in omega arith)
trace-at s (suc j) v = let l = trace-length s in let b = v.bounded in rows_at s 1 (length s / words) j (omega arith) ∙ ap (event_in s) (omega arith)

module _ (s : List ℕ) (k : ℕ) (v : Valid (trace s) k) where
  -- the event's row is there
  pub row_there : words * (k - 1) + words ≤ length s
  row_there = let l = trace-length s in let b = v.bounded in let p = v.positive in omega arith

  module _ (x : ℕ) where
    pub thread_is : x ≡ word s k 0 → x % 256 ≡ thread_of (trace s) k
    thread_is e = ap (λ (n : ℕ). n % 256) e ∙ sym (ap (λ (e : Event). e.thread) (trace-at s k v))

    pub kind_is : x ≡ word s k 0 → x / 256 ≡ kind_of (trace s) k
    kind_is e = ap (λ (n : ℕ). n / 256) e ∙ sym (ap (λ (e : Event). e.kind) (trace-at s k v))

    pub object_is : x ≡ word s k 1 → x ≡ object_of (trace s) k
    object_is e = e ∙ sym (ap (λ (e : Event). e.object) (trace-at s k v))

    pub column_is : Linked s → (c : ℕ) → c < columns → x ≡ word s k c → x ≡ column c (trace s) k
    column_is w c l e = e ∙ w.is c k l v

-- within the limits
module _ {t : Trace} {k : ℕ} (g : Good t) (v : Valid t k) (x : ℕ) where
  pub thread_place : x ≡ thread_of t k → x ≤ max_thread
  thread_place e = let z = g.thread_limit k v in omega arith

  pub object_place : x ≡ object_of t k → x ≤ max_object
  object_place e = let z = object_small t g k v in omega arith

  pub child_place : fork ≤ kind_of t k → x ≡ object_of t k → x ≤ max_thread
  child_place f e = let z = child_small t k (g.object-limit k v) f in omega arith

-- the place of a word is there
pub word_there : {k c : ℕ} {s : List ℕ} → Place k c s → words * (k - 1) + c < length s
word_there p = let a = p.first in let b = p.row in let d = p.column in omega arith
