-- Note lines, and the test of two lists of bytes.
use Prim.Native.Nat.{ℕ}
use mathlib.Core.Path.{◌≡◌, refl, sym, ◌∙◌, ap}
use mathlib.Core.Bool.{Bool, true, false, true≢false}
use mathlib.Core.List.{List, ◌++◌}
use lib.ListN.{take, drop, take-append-drop}
use Rattle.model.proofs.Tests.{both, true_both, clash, false_test}
use Rattle.format.specs.Readable.{is_readable}
use Rattle.format.proofs.ReadableExact.{readable_true, true_readable}
use Rattle.wording.specs.Lines.{note_word, note_line, IsNote}
use Rattle.wording.specs.Parts.{SaysNote, is_note, no_note}
use Rattle.std.proofs.lemmas.Slice.Eq.{bytes_eq-Decides}
use Rattle.wording.specs.Reasons.{begins_note, is_note_line}
use Rattle.wording.proofs.FirstLaws.{from, from-drop}

-- ---- a note line

-- the line, where the word is there
pub note_these : (line : List ℕ) → begins_note line ≡ true → line ≡ note_line (drop 5 line)
note_these line e = sym (take-append-drop 5 line) ∙ ap (λ (w : List ℕ). w ++ drop 5 line) ((bytes_eq-Decides (take 5 line) note_word).0 e)

-- the test is what it is for
pub true_note : (line : List ℕ) → is_note_line line ≡ true → IsNote line
true_note line e =
    let p = both (begins_note line) (is_readable (drop 5 line)) e in
    record { text = drop 5 line; readable = readable_true (drop 5 line) p.1; these = note_these line p.0 }

pub note_true : {line : List ℕ} → IsNote line → is_note_line line ≡ true
note_true {line} n =
    true_both {b = begins_note line} ((bytes_eq-Decides (take 5 line) note_word).1 (ap (take 5) n.these))
    (true_readable (drop 5 line) (rw n.these n.readable))

note_is : (line : List ℕ) (r : Bool) → r ≡ is_note_line line → SaysNote line r
note_is line true e = is_note (true_note line (sym e))
note_is line false e = no_note (λ n. clash (note_true n) (sym e))

module _ (line : List ℕ) (a : Bool) (is : a ≡ begins_note line) where
  pub note_other : a ≡ false → SaysNote line a
  note_other h = note_is line a (h ∙ sym (rw (← is, h) refl))

  pub note_read : a ≡ true → (r : Bool) → r ≡ is_readable (from 5 line) → SaysNote line r
  note_read h r e = note_is line r (e ∙ (rw (← is, h, from-drop 5 line)))

-- ---- what an answer says

pub says_note : {line : List ℕ} {b : Bool} → SaysNote line b → b ≡ true → IsNote line
says_note (is_note n) e = n
says_note (no_note f) e = absurd (true≢false (sym e))

pub says_none : {line : List ℕ} {b : Bool} → SaysNote line b → b ≡ false → ¬ IsNote line
says_none (is_note n) e = absurd (true≢false e)
says_none (no_note f) e = f

pub says_is : {line : List ℕ} {b : Bool} → SaysNote line b → b ≡ is_note_line line
says_is (is_note n) = sym (note_true n)
says_is {line} (no_note f) = sym (false_test (true_note line) f)
