-- The ways through the functions that go from place to place.
use Prim.Native.Nat.{ℕ, ◌≤◌}
use native.Mathlib.Nat.{zero-add}
use mathlib.Core.Path.{◌≡◌, sym, ◌∙◌, ap}
use mathlib.Core.Bool.{Bool, true, false, not}
use mathlib.Core.List.{List, ◌++◌}
use lib.ListN.{length, get_or, drop, take-append-drop}
use lib.Dec.{leb}
use borrow.Author.Tests.{not-false, leb-true, le-leb}
use Rattle.model.specs.Lists.{in_front}
use Rattle.model.proofs.Tests.{both}
use Rattle.lines.specs.Room.{line_bytes}
use Rattle.report.specs.Rest.{max_races, lines_at, fill}
use Rattle.report.specs.Places.{position_of, Place, is_place, answer_lines}
use Rattle.report.specs.Writing.{bytes_of, placed, Writes}
use Rattle.report.specs.declared.Position.{Position}
use Rattle.report.specs.declared.Progress.{Progress}

-- ---- four words

module _ (w : List ℕ) where
  pub place-true : is_place w ≡ true → Place w
  place-true e =
      let p = both _ (leb (get_or w 3 0) max_races) e in
      let q = both _ (leb (get_or w 2 0) 65535) p.0 in
      let r = both (leb (get_or w 0 0) 1) (leb (get_or w 1 0) 65535) q.0 in
      record {
        next = leb-true (get_or w 0 0) 1 r.0;
        lower = leb-true (get_or w 1 0) 65535 r.1;
        higher = leb-true (get_or w 2 0) 65535 q.1;
        count = leb-true (get_or w 3 0) max_races p.1;
      }

  pub true-place : Place w → is_place w ≡ true
  true-place p = rw (le-leb (get_or w 0 0) 1 p.next, le-leb (get_or w 1 0) 65535 p.lower, le-leb (get_or w 2 0) 65535 p.higher, le-leb (get_or w 3 0) max_races p.count)

-- ---- an answer

module _ (s place out : List ℕ) (b : Bool) (is : b ≡ is_place place) (e : not b ≡ false) where
  a_place : is_place place ≡ true
  a_place = sym is ∙ not-false b e

  -- the lines that were written are the answer
  pub lines-answered : line_bytes ≤ length out → (p : Position) → p ≡ position_of place → {out' : List ℕ} (w : Progress) → Writes (lines_at s p) out out' w
      → (r : ℕ) (place' : List ℕ) → (r, place') ≡ placed w → (r, place', out') ≡ answer_lines s place out
  unfolding answer_lines in_front
  lines-answered h p q {out' = out'} w x r place' put =
      let y : Writes (lines_at s (position_of place)) out out' w = rw q at x in
      let f = fill (length out) (lines_at s (position_of place)) in
      let n : bytes_of w ≡ length f.0 = y.puts.ends ∙ zero-add (length f.0) in
      let o : out' ≡ f.0 ++ drop (length f.0) out = sym (take-append-drop (bytes_of w) out') ∙ rw (y.puts.front, y.puts.rest, n) in
      let i = ap (λ (z : ℕ × List ℕ). z.0) put in
      let j = ap (λ (z : ℕ × List ℕ). z.1) put in
      rw (a_place, le-leb line_bytes (length out) h, i, j, o, n, y.stops)
