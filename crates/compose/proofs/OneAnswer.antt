-- A text makes one recording, or is refused in one way, and leaves one content in the lent file.
use Prim.Native.Nat.{ℕ}
use mathlib.Core.Path.{◌≡◌, sym, ◌∙◌, ap}
use mathlib.Core.List.{List}
use Rattle.model.specs.Trace.{Trace}
use Rattle.composing.specs.Texts.{lines, joined, Makes}
use Rattle.composing.proofs.OneAnswer.{makes_one, none_bad, bad_one}
use Rattle.writing.proofs.WriteLaws.{refused_no_bytes}
use Rattle.std.specs.Prelude.{Result, Err}
use Rattle.limits.specs.declared.Refusal.{Refusal}
use Rattle.compose.specs.Composed.{recorded, Composes, bad_line, refused, recording}
use Rattle.composing.specs.declared.BadLine.{BadLine}
use Rattle.composing.proofs.OneAnswer.{same_bad}
use Rattle.compose.specs.declared.Failure.{Failure}
use Rattle.compose.specs.declared.Failure.TheVariants.{BadLine as Bad}

module _ (text file f g : List ℕ) where
  -- the same lines are given to the writer as the same preamble and events
  same-recorded : {notes more : List (List ℕ)} {es fs : Trace} → Makes (lines text) notes es → Makes (lines text) more fs → {w v : Result ℕ Refusal}
      → (w, f) ≡ recorded (joined notes) es file → (v, g) ≡ recorded (joined more) fs file → (w ≡ v) × (f ≡ g)
  same-recorded m k p q =
      let l = makes_one m k in
      let x = l.0 in
      let y = l.1 in
      let e = rw (x, y) at p ∙ sym q in
      (ap (λ (z : Result ℕ Refusal × List ℕ). z.0) e, ap (λ (z : Result ℕ Refusal × List ℕ). z.1) e)

  pub compose_one : {r s : Result ℕ Failure} → Composes text file f r → Composes text file g s → (r ≡ s) × (f ≡ g)
  compose_one (bad_line {b = b} x i p) (bad_line {b = c} y j q) =
      let z = bad_one text x y in
      let w : b.reason ≡ c.reason = rw z at i ∙ sym j in
      (ap (λ (d : BadLine). Err (Bad d)) (same_bad b c z w), p ∙ sym q)
  compose_one (bad_line {b} x i p) (refused m e q) = absurd (none_bad text m b.number x.none)
  compose_one (bad_line {b} x i p) (recording m q) = absurd (none_bad text m b.number x.none)
  compose_one (refused m e p) (bad_line {b} y i q) = absurd (none_bad text m b.number y.none)
  compose_one (refused {r = r} {n = a} m ea p) (refused {r = r'} {n = b} k eb q) =
      let s = same-recorded m k p q in
      let u = s.0 in
      let w : r ≡ r' = cc in
      let l = (makes_one m k).0 in
      let v : a ≡ b = rw (l, w) at ea ∙ sym eb in
      (cc, s.1)
  compose_one (refused {r = r} m e p) (recording {n = n} k q) = absurd (refused_no_bytes r n (same-recorded m k p q).0)
  compose_one (recording m p) (bad_line {b} y i q) = absurd (none_bad text m b.number y.none)
  compose_one (recording {n = n} m p) (refused {r = r} k e q) = absurd (refused_no_bytes r n (sym (same-recorded m k p q).0))
  compose_one (recording m p) (recording k q) = let s = same-recorded m k p q in let u = s.0 in (cc, s.1)
