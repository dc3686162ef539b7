-- What the layout says of the bytes: preamble, events and trailer are the file, and where each event stands.
use Prim.Native.Nat.{ℕ, suc, ◌+◌, ◌-◌, ◌*◌, ◌/◌, ◌≤◌, ◌<◌}
use native.Mathlib.Omega.{arith}
use native.Mathlib.Nat.{mul-div_right, mul-suc, mul-le-mul_left}
use mathlib.Core.Path.{◌≡◌, refl, ap, sym, ◌∙◌}
use mathlib.Core.Option.{Option, none, some}
use mathlib.Core.List.{List, ◌++◌}
use lib.ListN.{length, take, drop, take-append-drop, length-take, length-drop}
use lib.Seq.{drop-drop, get_or-take, get_or-drop, length-take-le}
use Rattle.model.specs.Trace.{at, Valid}
use Rattle.limits.specs.Limits.{event_bytes, trailer_bytes}
use Rattle.format.specs.Bytes.{byte, event_at, trace_in}
use Rattle.format.specs.Layout.{count, start, preamble, event_part, events, trailer, Layout, Parts, recording_of, file_of, Placed}
use Rattle.limits.specs.declared.Recording.{Recording}
use Rattle.limits.specs.declared.Refusal.{Refusal}
use Rattle.std.specs.Prelude.{Ok, Err}
use Rattle.format.proofs.EventLaws.{trace-length, trace-at}

module _ (z : ℕ) (s : List ℕ) (l : Layout z s) where
  -- the three parts fill the file
  pub filled : start s + z * count s + trailer_bytes ≡ length s
  unfolding start
  filled = let b = l.pointed.back in let w = l.pointed.within in omega arith

  part_length : length (event_part z s) ≡ z * count s
  unfolding event_part
  part_length = let f = filled in simp (length-take, length-drop) (omega arith)

  pub preamble-length : length (preamble s) ≡ start s
  unfolding preamble
  preamble-length = let f = filled in length-take-le (start s) s (omega arith)

  joined : preamble s ++ (event_part z s ++ trailer s) ≡ s
  unfolding preamble event_part trailer
  joined =
      let f = filled in
      let e : start s + z * count s ≡ length s - trailer_bytes = omega arith in
      let d : drop (length s - trailer_bytes) s ≡ drop (z * count s) (drop (start s) s) = sym (drop-drop (z * count s) (start s) s ∙ ap (λ (n : ℕ). drop n s) e) in
      ap (λ (r : List ℕ). take (start s) s ++ (take (z * count s) (drop (start s) s) ++ r)) d
      ∙ ap (λ (r : List ℕ). take (start s) s ++ r) (take-append-drop (z * count s) (drop (start s) s))
      ∙ take-append-drop (start s) s

  trailer-length : length (trailer s) ≡ trailer_bytes
  unfolding trailer
  trailer-length = let f = filled in simp length-drop (omega arith)

  module _ (h : 4 ≤ z) where
    pub number_of_events : length (events z s) ≡ count s
    unfolding events
    number_of_events = trace-length z (event_part z s) ∙ ap (λ (n : ℕ). n / z) part_length ∙ mul-div_right (count s) (omega arith)

    pub byte_of : (p : ℕ) → p < z * count s → byte (event_part z s) p ≡ byte s (start s + p)
    unfolding event_part
    byte_of p q = rw (get_or-take, get_or-drop)

    event_of_lem : (p : ℕ) → p + 4 ≤ z * count s → event_at (event_part z s) p ≡ event_at s (start s + p)
    event_of_lem p q =
        let a : byte (event_part z s) p ≡ byte s (start s + p) = byte_of p (omega arith) in
        let b : byte (event_part z s) (p + 1) ≡ byte s (start s + p + 1) = byte_of (p + 1) (omega arith) ∙ ap (byte s) (omega arith) in
        let c : byte (event_part z s) (p + 2) ≡ byte s (start s + p + 2) = byte_of (p + 2) (omega arith) ∙ ap (byte s) (omega arith) in
        let d : byte (event_part z s) (p + 2 + 1) ≡ byte s (start s + p + 2 + 1) = byte_of (p + 2 + 1) (omega arith) ∙ ap (byte s) (omega arith) in
        rw (a, b, c, d)

    each_event : (k : ℕ) → Valid (events z s) k → at (events z s) k ≡ event_at s (start s + z * (k - 1))
    unfolding events
    each_event k v =
        let n = number_of_events in
        let b = v.bounded in
        let p = v.positive in
        let m : z * k ≤ z * count s = mul-le-mul_left z (omega arith) in
        let e : suc (k - 1) ≡ k = omega arith in
        let q : z * k ≡ z * (k - 1) + z = ap (λ (n : ℕ). z * n) (sym e) ∙ mul-suc z (k - 1) in
        trace-at z (event_part z s) k v ∙ event_of_lem (z * (k - 1)) (omega arith)

    -- what a file with the layout is made of
    pub layout_parts : Parts z s
    layout_parts =
        record {
          whole = joined;
          of_preamble = preamble-length;
          of_events = part_length;
          of_trailer = trailer-length;
          number = number_of_events;
          each = each_event;
        }

-- ---- the parts that the code lends

module _ (s : List ℕ) (t : Recording) (p : Placed s t) where
  pub span_low : t.start ≤ length s - trailer_bytes
  span_low = let f = filled event_bytes s p.layout in let e = ap (λ (u : Recording). u.start) p.span in omega arith

  pub event_part_lem : take (length s - trailer_bytes - t.start) (drop t.start s) ≡ event_part event_bytes s
  unfolding event_part
  event_part_lem =
      let f = filled event_bytes s p.layout in
      let e : t.start ≡ start s = ap (λ (u : Recording). u.start) p.span in
      let m : length s - trailer_bytes - start s ≡ event_bytes * count s = omega arith in
      rw (e, m)

-- the trace of those bytes is that of the file
pub part-trace : (s ev : List ℕ) → ev ≡ event_part event_bytes s → trace_in ev ≡ events event_bytes s
unfolding events
part-trace s ev e = ap trace_in e

-- ---- what a reading says of the refusal

module _ (s : List ℕ) (o : Option Refusal) where
  pub read-good : (t : Recording) → file_of s o ≡ Ok t → (o ≡ none) × (t ≡ recording_of s)
  read-good t e = go o refl e
    where
      go : (p : Option Refusal) → o ≡ p → file_of s p ≡ Ok t → (o ≡ none) × (t ≡ recording_of s)
      go none q f = (q, cc)
      go (some r) q f = let x : ◌≡◌ {A = ℕ} 0 1 = cc in absurd (omega arith)

  pub read_refused : (r : Refusal) → file_of s o ≡ Err r → o ≡ some r
  read_refused r e = go o refl e
    where
      go : (p : Option Refusal) → o ≡ p → file_of s p ≡ Err r → o ≡ some r
      go none q f = let x : ◌≡◌ {A = ℕ} 0 1 = cc in absurd (omega arith)
      go (some q) p f = p ∙ cc
