-- The lines of a text, one after the other.
use Prim.Native.Nat.{ℕ, ◌+◌, ◌-◌, ◌≤◌, ◌<◌, min}
use native.Mathlib.Omega.{arith}
use mathlib.Core.Path.{◌≡◌, refl, sym, ◌∙◌, ap}
use mathlib.Core.List.{List, [], ◌∷◌, ◌++◌}
use lib.ListN.{length, get_or, take, drop, length-drop, drop_of_length-le}
use lib.Seq.{get_or-drop, drop-drop, take_all}
use lib.Dec.{eqb, ltb}
use borrow.Author.Tests.{ltb-true, ltb-false, eqb-true}
use Rattle.model.proofs.Tests.{by_cases}
use Rattle.wording.specs.Lines.{is_comment}
use Rattle.wording.specs.Parts.{first_at}
use Rattle.wording.proofs.FirstLaws.{from, from-drop, first_rest, first_split, first_clear}
use Rattle.composing.specs.Texts.{extend, lines}
use Rattle.composing.specs.Parts.{LineEnd, NextLine, comment_at}

lines_ended : (x y : List ℕ) → first_at 10 x ≡ length x → lines (x ++ (10 ∷ y)) ≡ x ∷ lines y
unfolding lines
lines_ended [] y h = refl
lines_ended (b ∷ x) y h = let g = first_rest 10 b x h in rw (g.0, lines_ended x y g.1)

lines_last : (x : List ℕ) → first_at 10 x ≡ length x → 1 ≤ length x → lines x ≡ x ∷ []
unfolding lines
lines_last [] h l = absurd (omega arith)
lines_last (b ∷ []) h l = let g = first_rest 10 b [] h in rw g.0
lines_last (b ∷ c ∷ x) h l = let g = first_rest 10 b (c ∷ x) h in rw (g.0, lines_last (c ∷ x) g.1 (omega arith))

pub lines_none : (text : List ℕ) (at : ℕ) → length text ≤ at → lines (drop at text) ≡ []
unfolding lines
lines_none text at h = rw (drop_of_length-le text h)

-- ---- where a line ends

module _ (text : List ℕ) (at i : ℕ) (h : at < length text) (is : i ≡ first_at 10 (from at text)) (short : i ≤ length (from at text)) where
  first_feed : i ≡ first_at 10 (drop at text)
  first_feed = is ∙ ap (first_at 10) (from-drop at text)

  clear : first_at 10 (take i (drop at text)) ≡ length (take i (drop at text))
  clear = rw first_feed (first_clear 10 (drop at text))

  splits_ended : at + i < length text → lines (drop at text) ≡ take i (drop at text) ∷ lines (drop (at + i + 1) text)
  splits_ended g =
      let d = length-drop at text in
      let q = first_split 10 (drop at text) i first_feed (omega arith) in
      let e : lines (drop at text) ≡ take i (drop at text) ∷ lines (drop (i + 1) (drop at text)) = ap lines q ∙ lines_ended (take i (drop at text)) (drop (i + 1) (drop at text)) clear in
      let k : at + (i + 1) ≡ at + i + 1 = omega arith in
      let f : drop (i + 1) (drop at text) ≡ drop (at + i + 1) text = drop-drop (i + 1) at text ∙ ap (λ (n : ℕ). drop n text) k in
      rw (← f) e

  splits_last : length text ≤ at + i → lines (drop at text) ≡ take i (drop at text) ∷ lines (drop (at + i + 1) text)
  splits_last g =
      let d = length-drop at text in
      let c = ap length (from-drop at text) in
      let t : take i (drop at text) ≡ drop at text = take_all i (drop at text) (omega arith) in
      let k : first_at 10 (drop at text) ≡ length (drop at text) = rw t at clear in
      rw (t, lines_none text (at + i + 1) (omega arith)) (lines_last (drop at text) k (omega arith))

  pub line_ends : LineEnd text at (at + i)
  line_ends =
      let d = length-drop at text in
      let c = ap length (from-drop at text) in
      let w : at + i - at ≡ i = omega arith in
      record {
        low = omega arith;
        high = omega arith;
        splits = by_cases (ltb (at + i) (length text)) (λ e. rw w (splits_ended (ltb-true _ _ e))) (λ e. rw w (splits_last (ltb-false _ _ e)));
      }

-- ---- where the next begins

pub next_begins : {text : List ℕ} {at end : ℕ} → at < length text → LineEnd text at end → NextLine text at (min (end + 1) (length text))
next_begins {text} {at} {end} h l =
    let a = l.low in
    let b = l.high in
    by_cases (ltb end (length text))
    (λ e.
    let g = ltb-true _ _ e in
    let z : min (end + 1) (length text) ≡ end + 1 = omega arith in
    rw z (record { line = take (end - at) (drop at text); splits = l.splits; on = omega arith; within = omega arith }))
    (λ e.
    let g = ltb-false _ _ e in
    let z : min (end + 1) (length text) ≡ length text = omega arith in
    let n : lines (drop (end + 1) text) ≡ lines (drop (length text) text) = lines_none text (end + 1) (omega arith) ∙ sym (lines_none text (length text) (omega arith)) in
    rw z (record { line = take (end - at) (drop at text); splits = rw (← n) l.splits; on = omega arith; within = omega arith }))

-- ---- a line is a comment where one begins

extend_begins : (b : ℕ) (ls : List (List ℕ)) {l : List ℕ} {more : List (List ℕ)} → extend b ls ≡ l ∷ more → is_comment l ≡ eqb b 35
extend_begins b [] {l} e = let q : l ≡ b ∷ [] = cc in rw q
extend_begins b (x ∷ ls) {l} e = let q : l ≡ b ∷ x = cc in rw q

line_begins : (s : List ℕ) {l : List ℕ} {more : List (List ℕ)} → lines s ≡ l ∷ more → is_comment l ≡ eqb (get_or s 0 0) 35
unfolding lines
line_begins [] e = let o : ◌≡◌ {A = ℕ} 0 1 = cc in absurd (omega arith)
line_begins (b ∷ s) {l} {more} e =
    by_cases (eqb b 10)
    (λ f. let g : [] ∷ lines s ≡ l ∷ more = rw f at e in let q : l ≡ [] = cc in let z = eqb-true b 10 f in rw (q, z))
    (λ f. extend_begins b (lines s) (rw f at e))

pub comment_line : (text : List ℕ) (at : ℕ) {l : List ℕ} {more : List (List ℕ)} → lines (drop at text) ≡ l ∷ more → is_comment l ≡ comment_at text at
comment_line text at e = let z : at + 0 ≡ at = omega arith in line_begins (drop at text) e ∙ rw (get_or-drop at text 0 0, z)
