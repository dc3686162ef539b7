-- The ways through question 6.
use Prim.Native.Nat.{ℕ, ◌≤◌}
use native.Mathlib.Omega.{arith}
use mathlib.Core.Path.{◌≡◌, refl, sym, ◌∙◌, ap}
use mathlib.Core.Option.{Option, none, some}
use mathlib.Core.List.{List}
use lib.ListN.{length}
use Rattle.std.specs.Prelude.{Option as RustOption, None, Some, Result, Ok, Err}
use lib.Dec.{eqb}
use borrow.Author.Tests.{eq-eqb, ne_eqb}
use Rattle.model.proofs.Tests.{by_cases}
use Rattle.limits.specs.Limits.{event_bytes, max_bytes}
use Rattle.limits.specs.Refusals.{settled}
use Rattle.format.specs.Layout.{start, preamble, file_of}
use Rattle.format.proofs.PartLaws.{filled, preamble-length}
use Rattle.limits.specs.declared.Refusal.{Refusal}
use Rattle.limits.specs.declared.Recording.{Recording}
use Rattle.judging.specs.Judged.{refusal_of}
use Rattle.judging.proofs.FileLaws.{meaning, judged_refused, judged_clean, judged_good, judged_placed}
use Rattle.questions.specs.Note.{Slice, Part, whole, front, standing, noted_in, answer_noted, answer_note}

-- ---- where the note stands

module _ (s : List ℕ) (f : Result Recording Refusal) (is : f ≡ file_of s (refusal_of s)) where
  pub refused_noted : (r : Refusal) → f ≡ Err r → Some 0 ≡ answer_noted s
  unfolding answer_noted
  refused_noted r e = rw (judged_refused s f is r e)

  module _ (t : Recording) (e : f ≡ Ok t) where
    starts : t.start ≡ start s
    starts = ap (λ (x : Recording). x.start) (judged_placed s f is t e).span

    long : length (preamble s) ≡ t.start
    long = preamble-length event_bytes s (judged_good s f is t e).layout ∙ sym starts

    pub operators_noted : t.start ≡ 0 → None ≡ answer_noted s
    unfolding answer_noted
    operators_noted z = rw (judged_clean s f is t e, eq-eqb (length (preamble s)) 0 (long ∙ z))

    pub preamble_noted : (t.start ≡ 0 → ⊥) → Some t.start ≡ answer_noted s
    unfolding answer_noted
    preamble_noted ne = rw (judged_clean s f is t e, ne_eqb (length (preamble s)) 0 (λ z. ne (sym long ∙ z)), starts)

-- ---- the note

module _ (s : List ℕ) where
  by_refusal : (o : Option Refusal) → refusal_of s ≡ o → (m : ℕ) → Some m ≡ settled (λ r. Some 0) (noted_in s) o → (m ≤ length s) × (m ≤ max_bytes)
  by_refusal none g m e =
      by_cases (eqb (length (preamble s)) 0)
      (λ z. let q : Some m ≡ None = rw z at e in let o : ◌≡◌ {A = ℕ} 0 1 = cc in absurd (omega arith))
      (λ z.
      let q : Some m ≡ Some (start s) = rw z at e in
      let h : m ≡ start s = cc in
      let y = ((meaning s none).0 g).layout in
      let l = filled event_bytes s y in
      let k = y.sized.most in
      (omega arith, omega arith))
  by_refusal (some r) g m e = let h : m ≡ 0 = cc in (omega arith, omega arith)

module _ (s : List ℕ) (x : RustOption ℕ) (is : x ≡ answer_noted s) (m : ℕ) (e : x ≡ Some m) where
  -- no longer than a file may be
  pub note_small : m ≤ max_bytes
  unfolding answer_noted
  note_small = (by_refusal s (refusal_of s) refl m (sym e ∙ is)).1

module _ (file operator : Slice) (x : RustOption ℕ) (is : x ≡ answer_noted file.now) where
  pub note_within : (m : ℕ) → x ≡ Some m → m ≤ length file.now
  unfolding answer_noted
  note_within m e = (by_refusal file.now (refusal_of file.now) refl m (sym e ∙ is)).0

  pub file_note : (m : ℕ) → x ≡ Some m → (p : Part) → p ≡ front m file → p ≡ answer_note file operator
  unfolding answer_note
  file_note m e p q = q ∙ ap (standing file operator) (sym e ∙ is)

  pub operators_note : x ≡ None → whole operator ≡ answer_note file operator
  unfolding answer_note
  operators_note e = ap (standing file operator) (sym e ∙ is)
