-- A file written again from what was read is the same file, whatever the size of an event.
use Prim.Native.Nat.{ℕ, zero, suc, ◌+◌, ◌-◌, ◌*◌, ◌/◌, ◌≤◌, ◌<◌}
use native.Mathlib.Omega.{arith}
use native.Mathlib.Nat.{mul-div_right, mul-suc, mul-zero, mul-le-mul_left}
use mathlib.Core.Path.{◌≡◌, refl, sym, ◌∙◌, ap, ap₂}
use mathlib.Core.List.{List, ◌++◌}
use lib.ListN.{length, take, drop, length-drop, get_or-replicate, get_or-eq_default}
use lib.Dec.{ltb}
use borrow.Author.Tests.{ltb-true, ltb-false}
use lib.Seq.{ext_get_or, take_all, get_or-take, get_or-drop, take-add, drop-drop, length-take-le}
use Rattle.model.proofs.Tests.{by_cases}
use Rattle.limits.specs.Limits.{event_bytes, trailer_bytes}
use Rattle.format.specs.Bytes.{byte, event_at, events_from, trace_of}
use Rattle.format.specs.Layout.{distance, count, start, preamble, event_part, events, trailer, Layout}
use Rattle.format.proofs.PartLaws.{layout_parts, byte_of}
use Rattle.writing.specs.Written.{written_event, written_events, written_trailer, written}
use Rattle.writing.specs.RoundTrip.{AllBytes, Plain}
use Rattle.writing.proofs.ListLaws.{event_length}
use Rattle.writing.proofs.SizeLaws.{trailer-length}

-- ---- the events

module _ (z : ℕ) (h : 4 ≤ z) (s : List ℕ) (bytes : AllBytes s) where
  -- the bytes of the event at place p
  event_byte : (p : ℕ) → ((j : ℕ) → 4 ≤ j → j < z → byte s (p + j) ≡ 0) → (i : ℕ) → i < z → byte (written_event z (event_at s p)) i ≡ byte s (p + i)
  event_byte p plain zero q = ap (byte s) (omega arith)
  event_byte p plain (suc zero) q = refl
  event_byte p plain (suc (suc zero)) q = let b = bytes (p + 2) in omega arith
  event_byte p plain (suc (suc (suc zero))) q =
      let b = bytes (p + 2) in
      let e : byte s (p + 2 + 1) ≡ byte s (p + 3) = ap (byte s) (omega arith) in
      omega arith
  event_byte p plain (suc (suc (suc (suc j)))) q = get_or-replicate (z - 4) j 0 0 (omega arith) ∙ sym (plain (suc (suc (suc (suc j)))) (omega arith) q)

  event_again : (p : ℕ) → p + z ≤ length s → ((j : ℕ) → 4 ≤ j → j < z → byte s (p + j) ≡ 0) → written_event z (event_at s p) ≡ take z (drop p s)
  event_again p b plain =
      let n : length (written_event z (event_at s p)) ≡ z = event_length z h (event_at s p) in
      let m : length (take z (drop p s)) ≡ z = length-take-le z (drop p s) (rw length-drop (omega arith)) in
      ext_get_or 0 (written_event z (event_at s p)) (take z (drop p s)) (n ∙ sym m) (λ i q. event_byte p plain i (omega arith) ∙ sym (get_or-take z (drop p s) i 0 (omega arith) ∙ get_or-drop p s i 0))

  events_again : (n p : ℕ) → p + z * n ≤ length s → ((k j : ℕ) → k < n → 4 ≤ j → j < z → byte s (p + z * k + j) ≡ 0) → written_events z (events_from z s p n) ≡ take (z * n) (drop p s)
  unfolding written_events events_from
  events_again zero p b plain = rw mul-zero
  events_again (suc n) p b plain =
      let m = mul-suc z n in
      let one = event_again p (omega arith) (λ j x y. ap (byte s) (let o = mul-zero z in omega arith) ∙ plain 0 j (omega arith) x y) in
      let more = events_again n (p + z) (omega arith) (λ k j x y w. ap (byte s) (let o = mul-suc z k in omega arith) ∙ plain (suc k) j (omega arith) y w) in
      let e : z * suc n ≡ z + z * n = omega arith in
      ap₂ (λ (x y : List ℕ). x ++ y) one (more ∙ ap (take (z * n)) (sym (drop-drop z p s))) ∙ sym (ap (λ (i : ℕ). take i (drop p s)) e ∙ take-add z (z * n) (drop p s))

-- ---- the trailer

module _ (z : ℕ) (s : List ℕ) (bytes : AllBytes s) (l : Layout z s) where
  from_end : (q i : ℕ) → q ≡ length s - trailer_bytes + i → byte s q ≡ byte (trailer s) i
  unfolding trailer
  from_end q i e = ap (byte s) e ∙ sym (get_or-drop (length s - trailer_bytes) s i 0)

  -- the distance and the count by their bytes
  distance_bytes : byte (trailer s) 0 + 256 * byte (trailer s) 1 + 65536 * (byte (trailer s) 2 + 256 * byte (trailer s) 3) ≡ trailer_bytes + z * count s
  unfolding distance
  distance_bytes =
      let q = length s - trailer_bytes in
      let a = from_end q 0 (omega arith) in
      let b = from_end (q + 1) 1 (omega arith) in
      let c = from_end (q + 2) 2 (omega arith) in
      let d = from_end (q + 2 + 1) 3 (omega arith) in
      let e = l.pointed.back in
      omega arith

  count_bytes : byte (trailer s) 4 + 256 * byte (trailer s) 5 ≡ count s
  unfolding count
  count_bytes =
      let n = l.sized.least in
      let a = from_end (length s - 4) 4 (omega arith) in
      let b = from_end (length s - 4 + 1) 5 (omega arith) in
      omega arith

  small : (i : ℕ) → byte (trailer s) i < 256
  small i = let e = from_end (length s - trailer_bytes + i) i refl in let b = bytes (length s - trailer_bytes + i) in omega arith

  trailer-byte : (i : ℕ) → i < 8 → byte (written_trailer z (count s)) i ≡ byte (trailer s) i
  unfolding written_trailer
  trailer-byte zero q = let d = distance_bytes in let a = small 0 in let b = small 1 in omega arith
  trailer-byte (suc zero) q = let d = distance_bytes in let a = small 0 in let b = small 1 in omega arith
  trailer-byte (suc (suc zero)) q = let d = distance_bytes in let a = small 0 in let b = small 1 in let c = small 2 in omega arith
  trailer-byte (suc (suc (suc zero))) q = let d = distance_bytes in let a = small 0 in let b = small 1 in let c = small 2 in omega arith
  trailer-byte (suc (suc (suc (suc zero)))) q = let d = count_bytes in let a = small 4 in omega arith
  trailer-byte (suc (suc (suc (suc (suc zero))))) q = let d = count_bytes in let a = small 4 in omega arith
  trailer-byte (suc (suc (suc (suc (suc (suc zero)))))) q =
      let n = l.sized.least in sym l.marked.first ∙ from_end (length s - 2) 6 (omega arith)
  trailer-byte (suc (suc (suc (suc (suc (suc (suc zero))))))) q =
      let n = l.sized.least in sym l.marked.second ∙ from_end (length s - 1) 7 (omega arith)
  trailer-byte (suc (suc (suc (suc (suc (suc (suc (suc i)))))))) q = absurd (omega arith)

  trailer_again : length (trailer s) ≡ trailer_bytes → written_trailer z (count s) ≡ trailer s
  trailer_again n =
      let m = trailer-length z (count s) in
      ext_get_or 0 (written_trailer z (count s)) (trailer s) (m ∙ sym n) (λ i q. trailer-byte i (omega arith))

-- ---- the file

module _ (z : ℕ) (h : 4 ≤ z) (s : List ℕ) (bytes : AllBytes s) (l : Layout z s) (plain : Plain z s) where
  part_bytes : AllBytes (event_part z s)
  unfolding event_part
  part_bytes p =
      let n = (layout_parts z s l h).of_events in
      by_cases (ltb p (z * count s))
      (λ e. let a = byte_of z s l h p (ltb-true p (z * count s) e) in let b = bytes (start s + p) in omega arith)
      (λ e. let g = ltb-false p (z * count s) e in let a = get_or-eq_default (event_part z s) 0 {n = p} (omega arith) in omega arith)

  plain-part : (k j : ℕ) → k < count s → 4 ≤ j → j < z → byte (event_part z s) (0 + z * k + j) ≡ 0
  plain-part k j a b c =
      let m : z * suc k ≤ z * count s = mul-le-mul_left z (omega arith) in
      let n = mul-suc z k in
      byte_of z s l h (0 + z * k + j) (omega arith) ∙ ap (byte s) (omega arith) ∙ plain k j a b c

  part_again : written_events z (events z s) ≡ event_part z s
  unfolding events trace_of
  part_again =
      let ev = event_part z s in
      let n : length ev ≡ z * count s = (layout_parts z s l h).of_events in
      let m : length ev / z ≡ count s = ap (λ (i : ℕ). i / z) n ∙ mul-div_right (count s) (omega arith) in
      rw m (events_again z h ev part_bytes (count s) 0 (omega arith) plain-part ∙ take_all (z * count s) ev (omega arith))

  -- the second round trip
  pub writes_again : written z (preamble s) (events z s) ≡ s
  unfolding written
  writes_again =
      let p = layout_parts z s l h in
      rw (p.number, part_again, trailer_again z s bytes l p.of_trailer) p.whole

-- with four bytes to an event there is nothing beyond them
pub plain_today : (s : List ℕ) → Plain event_bytes s
plain_today s k j a b c = absurd (omega arith)
