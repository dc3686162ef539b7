-- What is written reads back as the same preamble and events, whatever the size of an event.
use Prim.Native.Nat.{ℕ, ◌+◌, ◌-◌, ◌*◌, ◌/◌, ◌%◌, ◌≤◌}
use native.Mathlib.Omega.{arith}
use native.Mathlib.Nat.{mul-div_right}
use mathlib.Core.Path.{◌≡◌, refl, sym, ◌∙◌, ap, ap₂}
use mathlib.Core.List.{List, [], ◌∷◌, ◌++◌, append_assoc}
use lib.ListN.{length, length-append}
use lib.Seq.{get_or-append-add, take_at, drop_at}
use Rattle.model.specs.Trace.{Event, Trace}
use Rattle.limits.specs.Limits.{trailer_bytes}
use Rattle.format.specs.Bytes.{byte, event_at, events_from, trace_of}
use Rattle.format.specs.Layout.{distance, count, start, preamble, event_part, events, Marked, Pointed}
use Rattle.writing.specs.Written.{written_event, written_events, written_trailer, written, written_bytes}
use Rattle.writing.specs.RoundTrip.{ReadsAs}
use Rattle.writing.proofs.ListLaws.{event_length, events-length}
use Rattle.writing.proofs.SizeLaws.{written-length}

-- ---- the events

-- an event behind the bytes l
event_back : (z : ℕ) (l r : List ℕ) (e : Event) → event_at (l ++ (written_event z e ++ r)) (length l) ≡ e
event_back z l r e =
    let s = l ++ (written_event z e ++ r) in
    let a : byte s (length l) ≡ e.thread = ap (byte s) (omega arith) ∙ get_or-append-add l (written_event z e ++ r) 0 0 in
    let b : byte s (length l + 1) ≡ e.kind = get_or-append-add l (written_event z e ++ r) 1 0 in
    let c : byte s (length l + 2) ≡ e.object % 256 = get_or-append-add l (written_event z e ++ r) 2 0 in
    let d : byte s (length l + 2 + 1) ≡ e.object / 256 = ap (byte s) (omega arith) ∙ get_or-append-add l (written_event z e ++ r) 3 0 in
    let o : e.object % 256 + 256 * (e.object / 256) ≡ e.object = omega arith in
    rw (a, b, c, d, o)

events_back : (z : ℕ) → 4 ≤ z → (l : List ℕ) (t : Trace) → events_from z (l ++ written_events z t) (length l) (length t) ≡ t
unfolding written_events events_from
events_back z h l [] = refl
events_back z h l (e ∷ t) =
    let w = written_event z e in
    let n : length (l ++ w) ≡ length l + z = length-append l w ∙ ap (λ (m : ℕ). length l + m) (event_length z h e) in
    let i : events_from z ((l ++ w) ++ written_events z t) (length (l ++ w)) (length t) ≡ t = events_back z h (l ++ w) t in
    let j : events_from z (l ++ (w ++ written_events z t)) (length l + z) (length t) ≡ t = rw (append_assoc l w (written_events z t), n) at i in
    ap₂ (λ (a : Event) (u : Trace). a ∷ u) (event_back z l (written_events z t) e) j

-- ---- the file

module _ (z : ℕ) (h : 4 ≤ z) (p : List ℕ) (t : Trace) where
  -- a byte of the trailer, counted from its first
  trailer-byte : (q i : ℕ) → q ≡ length (written z p t) - trailer_bytes + i → byte (written z p t) q ≡ byte (written_trailer z (length t)) i
  unfolding written written_bytes
  trailer-byte q i e =
      let front = p ++ written_events z t in
      let a : length front ≡ length p + z * length t = length-append p (written_events z t) ∙ ap (λ (n : ℕ). length p + n) (events-length z h t) in
      let b = written-length z h p t in
      let d : q ≡ length front + i = omega arith in
      rw (d, ← append_assoc p (written_events z t) (written_trailer z (length t))) (get_or-append-add front (written_trailer z (length t)) i 0)

  long : trailer_bytes ≤ length (written z p t)
  unfolding written_bytes
  long = let b = written-length z h p t in omega arith

  pub count_back : count (written z p t) ≡ length t
  unfolding count written_trailer
  count_back =
      let n = long in
      let a = trailer-byte (length (written z p t) - 4) 4 (omega arith) in
      let b = trailer-byte (length (written z p t) - 4 + 1) 5 (omega arith) in
      omega arith

  distance_back : distance (written z p t) ≡ trailer_bytes + z * length t
  unfolding distance written_trailer
  distance_back =
      let q = length (written z p t) - trailer_bytes in
      let a = trailer-byte q 0 (omega arith) in
      let b = trailer-byte (q + 1) 1 (omega arith) in
      let c = trailer-byte (q + 2) 2 (omega arith) in
      let d = trailer-byte (q + 2 + 1) 3 (omega arith) in
      omega arith

  pub marked_back : Marked (written z p t)
  unfolding written_trailer
  marked_back =
      let n = long in record {
        first = trailer-byte (length (written z p t) - 2) 6 (omega arith);
        second = trailer-byte (length (written z p t) - 1) 7 (omega arith);
      }

  pub pointed_back : Pointed z (written z p t)
  unfolding written_bytes
  pointed_back =
      let d = distance_back in
      let b = written-length z h p t in
      record { back = rw count_back d; within = omega arith }

  start_back : start (written z p t) ≡ length p
  unfolding start written_bytes
  start_back = let d = distance_back in let b = written-length z h p t in omega arith

  preamble_back : preamble (written z p t) ≡ p
  unfolding preamble written
  preamble_back = take_at p (written_events z t ++ written_trailer z (length t)) (start (written z p t)) (sym start_back)

  part_back : event_part z (written z p t) ≡ written_events z t
  unfolding event_part written
  part_back =
      rw (count_back, drop_at p (written_events z t ++ written_trailer z (length t)) (start (written z p t)) (sym start_back))
      (take_at (written_events z t) (written_trailer z (length t)) (z * length t) (events-length z h t))

  same-events_back : events z (written z p t) ≡ t
  unfolding events trace_of
  same-events_back =
      let n : length (written_events z t) / z ≡ length t = ap (λ (m : ℕ). m / z) (events-length z h t) ∙ mul-div_right (length t) (omega arith) in
      rw (part_back, n) (events_back z h [] t)

  -- the first round trip
  pub reads_back : ReadsAs z (written z p t) p t
  reads_back = record { same_preamble = preamble_back; same_events = same-events_back; same_number = count_back }
