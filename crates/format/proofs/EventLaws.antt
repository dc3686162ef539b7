-- Where an event of a trace stands in its bytes, whatever the size of an event.
use Prim.Native.Nat.{ℕ, zero, suc, ◌+◌, ◌-◌, ◌*◌, ◌/◌, ◌≤◌, ◌<◌}
use native.Mathlib.Omega.{arith}
use native.Mathlib.Nat.{mul-suc, mul-zero}
use mathlib.Core.Path.{◌≡◌, refl, ap, sym, ◌∙◌}
use mathlib.Core.List.{List}
use lib.ListN.{length, get_or}
use Rattle.model.specs.Trace.{Event, no_event, at, thread_of, kind_of, object_of, Valid}
use Rattle.limits.specs.Limits.{event_bytes}
use Rattle.format.specs.Bytes.{byte, number16, event_at, events_from, trace_of, trace_in, plain}
use Rattle.limits.specs.declared.Event.{Event as Decoded}

length-events : (z : ℕ) (s : List ℕ) (p n : ℕ) → length (events_from z s p n) ≡ n
unfolding events_from
length-events z s p zero = refl
length-events z s p (suc n) = ap suc (length-events z s (p + z) n)

event_at_lem : (z : ℕ) (s : List ℕ) (p n j : ℕ) → j < n → get_or (events_from z s p n) j no_event ≡ event_at s (p + z * j)
unfolding events_from
event_at_lem z s p zero j h = absurd (omega arith)
event_at_lem z s p (suc n) zero h = ap (event_at s) (let e = mul-zero z in omega arith)
event_at_lem z s p (suc n) (suc j) h = event_at_lem z s (p + z) n j (omega arith) ∙ ap (event_at s) (let e = mul-suc z j in omega arith)

pub trace-length : (z : ℕ) (s : List ℕ) → length (trace_of z s) ≡ length s / z
unfolding trace_of
trace-length z s = length-events z s 0 (length s / z)

pub trace-at : (z : ℕ) (s : List ℕ) (k : ℕ) → Valid (trace_of z s) k → at (trace_of z s) k ≡ event_at s (z * (k - 1))
unfolding trace_of
trace-at z s zero v = absurd (let p = v.positive in omega arith)
trace-at z s (suc j) v =
    let b = v.bounded in
    let l = length-events z s 0 (length s / z) in
    let e : suc j - 1 ≡ j = omega arith in
    event_at_lem z s 0 (length s / z) j (omega arith) ∙ ap (event_at s) (rw e (omega arith))

-- ---- today's size

module _ (s : List ℕ) (k : ℕ) (v : Valid (trace_in s) k) where
  -- the event's bytes are there
  pub bytes_there : event_bytes * (k - 1) + event_bytes ≤ length s
  bytes_there = let l = trace-length event_bytes s in let b = v.bounded in let p = v.positive in omega arith

  pub thread_is : byte s (event_bytes * (k - 1)) ≡ thread_of (trace_in s) k
  thread_is = sym (ap (λ (e : Event). e.thread) (trace-at event_bytes s k v))

  pub kind_is : byte s (event_bytes * (k - 1) + 1) ≡ kind_of (trace_in s) k
  kind_is = sym (ap (λ (e : Event). e.kind) (trace-at event_bytes s k v))

  pub object_is : (x : ℕ) → x ≡ number16 s (event_bytes * (k - 1) + 2) → x ≡ object_of (trace_in s) k
  object_is x e = e ∙ sym (ap (λ (e : Event). e.object) (trace-at event_bytes s k v))

pub count_is : (s : List ℕ) → length s / event_bytes ≡ length (trace_in s)
count_is s = sym (trace-length event_bytes s)

pub event_is : (s : List ℕ) (k : ℕ) (e : Decoded) → e.thread.number ≡ thread_of (trace_in s) k → e.kind ≡ kind_of (trace_in s) k → e.object ≡ object_of (trace_in s) k → plain e ≡ at (trace_in s) k
event_is s k e t d o = rw (t, d, o)
