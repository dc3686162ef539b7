-- The events of three lists, and the bytes of events one after the other.
use Prim.Native.Nat.{ℕ, zero, suc, ◌-◌, ◌*◌, ◌≤◌, ◌<◌}
use native.Mathlib.Omega.{arith}
use native.Mathlib.Nat.{mul-suc, mul-zero}
use mathlib.Core.Path.{◌≡◌, refl, sym, ◌∙◌, ap}
use mathlib.Core.List.{List, [], ◌∷◌, ◌++◌, append_assoc}
use lib.ListN.{length, get_or, length-append, length-replicate, length-map}
use Rattle.model.specs.Trace.{Event, Trace, no_event, thread_list, kind_list, object_list}
use Rattle.writing.specs.Written.{written_event, written_events, trace_from, Even}

-- ---- the events of three lists

even_rest : (c d x : ℕ) (cs ds xs : List ℕ) → Even (c ∷ cs) (d ∷ ds) (x ∷ xs) → Even cs ds xs
even_rest c d x cs ds xs e = let a = e.kinds_too in let b = e.objects_too in record { kinds_too = omega arith; objects_too = omega arith }

pub from-length : (cs ds xs : List ℕ) → Even cs ds xs → length (trace_from cs ds xs) ≡ length cs
unfolding trace_from
from-length [] ds xs e = refl
from-length (c ∷ cs) [] xs e = absurd (let a = e.kinds_too in omega arith)
from-length (c ∷ cs) (d ∷ ds) [] e = absurd (let a = e.objects_too in omega arith)
from-length (c ∷ cs) (d ∷ ds) (x ∷ xs) e = ap suc (from-length cs ds xs (even_rest c d x cs ds xs e))

pub from_at : (cs ds xs : List ℕ) → Even cs ds xs → (i : ℕ) → i < length cs
    → get_or (trace_from cs ds xs) i no_event ≡ record { thread = get_or cs i 0; kind = get_or ds i 0; object = get_or xs i 0 }
unfolding trace_from
from_at [] ds xs e i h = absurd (omega arith)
from_at (c ∷ cs) [] xs e i h = absurd (let a = e.kinds_too in omega arith)
from_at (c ∷ cs) (d ∷ ds) [] e i h = absurd (let a = e.objects_too in omega arith)
from_at (c ∷ cs) (d ∷ ds) (x ∷ xs) e zero h = refl
from_at (c ∷ cs) (d ∷ ds) (x ∷ xs) e (suc i) h = from_at cs ds xs (even_rest c d x cs ds xs e) i (omega arith)

-- the lists of a trace have its events
pub lists_back : (t : Trace) → trace_from (thread_list t) (kind_list t) (object_list t) ≡ t
unfolding trace_from
lists_back [] = refl
lists_back (e ∷ t) = ap (λ (u : Trace). e ∷ u) (lists_back t)

pub lists_even : (t : Trace) → Even (thread_list t) (kind_list t) (object_list t)
lists_even t = record { kinds_too = rw (length-map, length-map); objects_too = rw (length-map, length-map) }

-- ---- their bytes

pub events_then : (z : ℕ) (t u : Trace) → written_events z (t ++ u) ≡ written_events z t ++ written_events z u
unfolding written_events
events_then z [] u = refl
events_then z (e ∷ t) u = ap (λ (l : List ℕ). written_event z e ++ l) (events_then z t u) ∙ sym (append_assoc (written_event z e) (written_events z t) (written_events z u))

pub event_length : (z : ℕ) → 4 ≤ z → (e : Event) → length (written_event z e) ≡ z
event_length z h e = let r = length-replicate {A = ℕ} (z - 4) 0 in omega arith

pub events-length : (z : ℕ) → 4 ≤ z → (t : Trace) → length (written_events z t) ≡ z * length t
unfolding written_events
events-length z h [] = sym (mul-zero z)
events-length z h (e ∷ t) =
    let a = event_length z h e in
    let b = events-length z h t in
    let m = mul-suc z (length t) in
    rw length-append (omega arith)
