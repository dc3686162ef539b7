-- The bytes of a file, put together from their pieces.
use Prim.Native.Nat.{ℕ, ◌+◌, ◌*◌, ◌≤◌, ◌<◌}
use native.Mathlib.Omega.{arith}
use native.Mathlib.Numerals.{add-one}
use mathlib.Core.Path.{◌≡◌, ◌∙◌, ap}
use mathlib.Core.List.{List, [], ◌∷◌, ◌++◌}
use lib.ListN.{length, get_or, take}
use lib.Seq.{take-suc, take_all}
use mir.Val.{Fits}
use mir.Syntax.{w16}
use Rattle.std.specs.List.{zip}
use Rattle.std.proofs.lemmas.List.{get_or_default}
use Rattle.std.proofs.lemmas.Slice.Zip.{length-zip, get_or-zip}
use Rattle.model.specs.Trace.{no_event}
use Rattle.limits.specs.Limits.{event_bytes, trailer_bytes, max_bytes, mark_first, mark_second}
use Rattle.appending.specs.Appended.{Appends}
use Rattle.appending.proofs.AppendLaws.{appends_nothing, appends_then}
use Rattle.writing.specs.Written.{bytes16, bytes32, written_event, written_events, written_trailer, written, written_bytes, trace_from, Even, Fitting, file_with}
use Rattle.writing.proofs.ListLaws.{from-length, from_at, events_then, events-length}

-- ---- an event, and the trailer

module _ {at p r : ℕ} {out o₁ out' : List ℕ} where
  module _ {q : ℕ} {o₂ : List ℕ} where
    pub event_put : (c d x : ℕ) → Appends (c ∷ []) at out o₁ p → Appends (d ∷ []) p o₁ o₂ q → Appends (bytes16 x) q o₂ out' r
        → Appends (written_event event_bytes (record { thread = c; kind = d; object = x })) at out out' r
    event_put c d x a b e = appends_then a (appends_then b e)

    pub trailer_put : (n : ℕ) → Appends (bytes32 (trailer_bytes + event_bytes * n)) at out o₁ p → Appends (bytes16 n) p o₁ o₂ q
        → Appends (mark_first ∷ mark_second ∷ []) q o₂ out' r → Appends (written_trailer event_bytes n) at out out' r
    unfolding written_trailer
    trailer_put n a b c = appends_then a (appends_then b c)

-- ---- the events, one by one

-- the first i events are there
pub record Laid (threads kinds objects : List ℕ) (at : ℕ) (out₀ out : List ℕ) (end i : ℕ) : Type 0 where
  pub done : Appends (written_events event_bytes (take i (trace_from threads kinds objects))) at out₀ out end
  pub place : end ≡ at + event_bytes * i
  pub low : i ≤ length threads
  pub even : Even threads kinds objects
  pub room : at + event_bytes * length threads ≤ length out₀

module _ {threads kinds objects : List ℕ} {at : ℕ} {out₀ : List ℕ} where
  pub laid_none : Even threads kinds objects → at + event_bytes * length threads ≤ length out₀ → Laid threads kinds objects at out₀ out₀ at 0
  unfolding written_events
  laid_none e h = record { done = appends_nothing at out₀ (omega arith); place = omega arith; low = omega arith; even = e; room = h }

  module _ {out : List ℕ} {end i : ℕ} (w : Laid threads kinds objects at out₀ out end i) where
    one_more : i < length threads → written_events event_bytes (take (i + 1) (trace_from threads kinds objects))
        ≡ written_events event_bytes (take i (trace_from threads kinds objects)) ++ written_event event_bytes (record { thread = get_or threads i 0; kind = get_or kinds i 0; object = get_or objects i 0 })
    unfolding written_events
    one_more h =
        let t = trace_from threads kinds objects in
        let l = from-length threads kinds objects w.even in
        rw (add-one i, take-suc t i no_event (omega arith), events_then event_bytes (take i t) (get_or t i no_event ∷ []), from_at threads kinds objects w.even i h)

    zipped : length (zip (zip threads kinds) objects) ≡ length threads
    zipped = let e = w.even.kinds_too in let f = w.even.objects_too in rw (length-zip (zip threads kinds) objects, length-zip threads kinds) (omega arith)

    -- what the lists have at place i is put
    pub laid_one : {c d x : ℕ} → i < length (zip (zip threads kinds) objects) → ((c, d), x) ≡ get_or (zip (zip threads kinds) objects) i ((c, d), x) → {out' : List ℕ} {r : ℕ}
        → Appends (written_event event_bytes (record { thread = c; kind = d; object = x })) end out out' r → Laid threads kinds objects at out₀ out' r (i + 1)
    laid_one {c} {d} {x} h e b =
        let n = zipped in
        let k = w.even.kinds_too in
        let o = w.even.objects_too in
        let z = e ∙ get_or-zip (zip threads kinds) objects i ((c, d), x) (rw length-zip (omega arith)) (omega arith) in
        let y = ap (λ (p : (ℕ × ℕ) × ℕ). p.0) z ∙ get_or-zip threads kinds i (c, d) (omega arith) (omega arith) in
        let ec : c ≡ get_or threads i 0 = ap (λ (p : ℕ × ℕ). p.0) y ∙ get_or_default threads i c 0 (omega arith) in
        let ed : d ≡ get_or kinds i 0 = ap (λ (p : ℕ × ℕ). p.1) y ∙ get_or_default kinds i d 0 (omega arith) in
        let ex : x ≡ get_or objects i 0 = ap (λ (p : (ℕ × ℕ) × ℕ). p.1) z ∙ get_or_default objects i x 0 (omega arith) in
        record {
          done = rw (one_more (omega arith)) (appends_then w.done (rw (ec, ed, ex) at b));
          place = let e = b.ends in let p = w.place in omega arith;
          low = omega arith;
          even = w.even;
          room = w.room;
        }

    pub laid_all : i ≡ length (zip (zip threads kinds) objects) → Appends (written_events event_bytes (trace_from threads kinds objects)) at out₀ out end
    laid_all h = let n = zipped in let l = from-length threads kinds objects w.even in rw (take_all i (trace_from threads kinds objects) (omega arith)) at w.done

-- ---- the whole file

module _ {preamble threads kinds objects : List ℕ} (w : Fitting preamble threads kinds objects) (out : List ℕ) (l : length out ≡ max_bytes) where
  pub preamble-room : 0 + length preamble ≤ length out
  unfolding written_bytes
  preamble-room = let f = w.fits in omega arith

  pub count_fits : Fits w16 (length threads)
  unfolding written_bytes
  count_fits = let f = w.fits in record { fits = omega arith }

  module _ {p : ℕ} {o₁ : List ℕ} (a : Appends preamble 0 out o₁ p) where
    pub events-room : p + event_bytes * length threads ≤ length o₁
    unfolding written_bytes
    events-room = let f = w.fits in let e = a.ends in let s = a.same in omega arith

    module _ {q : ℕ} {o₂ : List ℕ} (b : Appends (written_events event_bytes (trace_from threads kinds objects)) p o₁ o₂ q) where
      pub trailer-room : q + trailer_bytes ≤ length o₂
      unfolding written_bytes
      trailer-room =
          let n = from-length threads kinds objects w.even in
          let m = events-length event_bytes (omega arith) (trace_from threads kinds objects) in
          let f = w.fits in
          let e = a.ends in
          let s = a.same in
          let g = b.ends in
          let u = b.same in
          omega arith

      pub file_put : {out' : List ℕ} {r : ℕ} → Appends (written_trailer event_bytes (length threads)) q o₂ out' r
          → Appends (file_with preamble (trace_from threads kinds objects)) 0 out out' r
      unfolding written
      file_put c = rw (from-length threads kinds objects w.even) (appends_then a (appends_then b c))
