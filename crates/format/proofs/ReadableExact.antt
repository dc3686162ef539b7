-- The computed test of a preamble says just what its definition does.
use Prim.Native.Nat.{ℕ}
use mathlib.Core.Path.{◌≡◌, refl}
use mathlib.Core.Logic.{inl, inr, ⊎_elim}
use mathlib.Core.Bool.{true, ◌&&◌}
use mathlib.Core.List.Memᴰ
use mathlib.Core.List.{List, [], ◌∷◌}
use lib.Dec.{eqb, leb}
use borrow.Author.Tests.{eqb-true, eq-eqb, leb-true, le-leb}
use Rattle.model.proofs.Tests.{in_cons, both, true_both, either_true, true-either}
use Rattle.format.specs.Readable.{line_feed, lowest_byte, highest_byte, ReadableByte, Readable, is_readable_byte, is_readable}

module _ (b : ℕ) where
  byte-true : is_readable_byte b ≡ true → ReadableByte b
  unfolding is_readable_byte
  byte-true e =
      ⊎_elim
      (λ f. inl (eqb-true b line_feed f))
      (λ f. let p = both (leb lowest_byte b) (leb b highest_byte) f in inr (leb-true lowest_byte b p.0, leb-true b highest_byte p.1))
      (either_true (eqb b line_feed) (leb lowest_byte b && leb b highest_byte) e)

  true-byte : ReadableByte b → is_readable_byte b ≡ true
  unfolding is_readable_byte
  true-byte p =
      true-either (eqb b line_feed) (leb lowest_byte b && leb b highest_byte)
      (⊎_elim (λ e. inl (eq-eqb b line_feed e)) (λ q. inr (true_both (le-leb lowest_byte b q.0) (le-leb b highest_byte q.1))) p)

pub readable_true : (s : List ℕ) → is_readable s ≡ true → Readable s
unfolding is_readable
readable_true [] e b m = absurd (Memᴰ.not-nil m)
readable_true (x ∷ s) e b m =
    let p = both (is_readable_byte x) (is_readable s) e in
    in_cons m (λ d. rw d (byte-true x p.0)) (λ n. readable_true s p.1 b n)

pub true_readable : (s : List ℕ) → Readable s → is_readable s ≡ true
unfolding is_readable
true_readable [] f = refl
true_readable (x ∷ s) f = true_both (true-byte x (f x (Memᴰ.head refl))) (true_readable s (λ b m. f b (Memᴰ.tail m)))
