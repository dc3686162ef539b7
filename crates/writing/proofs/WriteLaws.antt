-- The ways through the writer.
use Prim.Native.Nat.{ℕ, ◌≤◌, ◌<◌}
use native.Mathlib.Omega.{arith}
use mathlib.Core.Path.{◌≡◌, refl, sym, ◌∙◌, ap}
use mathlib.Core.Logic.{inl}
use mathlib.Core.Bool.{Bool, true, false, not}
use mathlib.Core.Option.{some}
use mathlib.Core.List.{List}
use lib.ListN.{length, take-append-drop}
use lib.Dec.{eqb, leb}
use borrow.Author.Tests.{eqb-true, eq-eqb, leb-true, lt-ltb, le-ltb, not-true, not-false}
use Rattle.model.proofs.Tests.{both, true_both, test_false}
use Rattle.model.specs.Lists.{in_front}
use Rattle.limits.specs.Limits.{event_bytes, trailer_bytes, max_bytes, is_file_size}
use Rattle.limits.specs.declared.Refusal.{Refusal}
use Rattle.limits.specs.declared.Refusal.TheVariants.{FileSize, ListShort}
use Rattle.limits.specs.declared.Recording.{Recording}
use Rattle.format.specs.Layout.{file_of}
use Rattle.format.proofs.LayoutExact.{true_sized}
use Rattle.judging.specs.Judged.{refusal_of}
use Rattle.judging.proofs.FileLaws.{meaning, judged_refused, judged_clean}
use Rattle.appending.specs.Appended.{Appends}
use Rattle.writing.specs.Written.{written_bytes, trace_from, Even, Fitting}
use Rattle.writing.proofs.ListLaws.{from-length}
use Rattle.writing.proofs.SizeLaws.{written-length}
use Rattle.writing.specs.Writing.{file_from, is_even, handed, answer_write}
use Rattle.std.specs.Prelude.{Result, Ok, Err}

-- ---- the lists

module _ (threads kinds objects : List ℕ) where
  pub even_true : is_even threads kinds objects ≡ true → Even threads kinds objects
  unfolding is_even
  even_true e =
      let p = both (eqb (length kinds) (length threads)) (eqb (length objects) (length threads)) e in
      record { kinds_too = eqb-true _ _ p.0; objects_too = eqb-true _ _ p.1 }

  pub true_even : Even threads kinds objects → is_even threads kinds objects ≡ true
  unfolding is_even
  true_even p = true_both (eq-eqb _ _ p.kinds_too) (eq-eqb _ _ p.objects_too)

-- ---- handing a file to a buffer

pub refused_no_bytes : (r : Refusal) (n : ℕ) → ◌≡◌ {A = Result ℕ Refusal} (Err r) (Ok n) → ⊥
refused_no_bytes r n e = let z : ◌≡◌ {A = ℕ} 0 1 = cc in omega arith

module _ (s buffer : List ℕ) (f : Result Recording Refusal) (is : f ≡ file_of s (refusal_of s)) where
  pub hand_refused : (r : Refusal) → f ≡ Err r → (Err r, buffer) ≡ handed s buffer
  unfolding handed
  hand_refused r e = rw (judged_refused s f is r e)

  module _ (t : Recording) (e : f ≡ Ok t) where
    pub hand_short : length buffer < length s → (Err ListShort, buffer) ≡ handed s buffer
    unfolding handed
    hand_short h = rw (judged_clean s f is t e, lt-ltb (length buffer) (length s) h)

    pub hand_good : length s ≤ length buffer → {out : List ℕ} {r : ℕ} → Appends s 0 buffer out r → (Ok r, out) ≡ handed s buffer
    unfolding handed in_front
    hand_good h {out} {r} a =
        let n : r ≡ length s = let x = a.ends in omega arith in
        let o : out ≡ in_front s buffer = sym (take-append-drop r out) ∙ rw (a.front, a.rest, n) in
        rw (judged_clean s f is t e, le-ltb (length buffer) (length s) h, n, o)

-- ---- the writer

module _ {threads kinds objects : List ℕ} (b : Bool) (eb : b ≡ is_even threads kinds objects) (ok : not b ≡ false) where
  lists_even : Even threads kinds objects
  lists_even = even_true _ _ _ (sym eb ∙ not-false b ok)

  pub fitting : (p : List ℕ) (d : Bool) → d ≡ is_file_size (written_bytes event_bytes (length p) (length threads)) → not d ≡ false → Fitting p threads kinds objects
  fitting p d ed h =
      let m = written_bytes event_bytes (length p) (length threads) in
      record { even = lists_even; fits = leb-true m max_bytes (both (leb trailer_bytes m) (leb m max_bytes) (sym ed ∙ not-false d h)).1 }

module _ (p threads kinds objects buffer : List ℕ) (b : Bool) (eb : b ≡ is_even threads kinds objects) where
  pub lists_uneven : not b ≡ true → (Err ListShort, buffer) ≡ answer_write p threads kinds objects buffer
  unfolding answer_write
  lists_uneven h = rw (← eb, h)

  module _ (ok : not b ≡ false) where
    are_even : is_even threads kinds objects ≡ true
    are_even = sym eb ∙ not-false b ok

    size : length (file_from p threads kinds objects) ≡ written_bytes event_bytes (length p) (length threads)
    size =
        written-length event_bytes (omega arith) p (trace_from threads kinds objects)
        ∙ ap (written_bytes event_bytes (length p)) (from-length threads kinds objects (lists_even b eb ok))

    module _ (d : Bool) (ed : d ≡ is_file_size (written_bytes event_bytes (length p) (length threads))) where
      pub file_long : not d ≡ true → (Err FileSize, buffer) ≡ answer_write p threads kinds objects buffer
      unfolding answer_write
      file_long h =
          let file = file_from p threads kinds objects in
          let n = test_false (true_sized file) (ap is_file_size size ∙ sym ed ∙ not-true d h) in
          rw (are_even, (meaning file (some FileSize)).1 (record { first_row = inl (n, refl) }))

    pub handed_on : {w : Result ℕ Refusal} {buffer' : List ℕ} → (w, buffer') ≡ handed (file_from p threads kinds objects) buffer → (w, buffer') ≡ answer_write p threads kinds objects buffer
    unfolding answer_write handed
    handed_on e = e ∙ rw are_even
