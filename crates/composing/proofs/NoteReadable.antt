-- The preamble of a text is one that a recording may have.
use Prim.Native.Nat.{ℕ}
use mathlib.Core.Path.{◌≡◌, refl}
use mathlib.Core.Bool.{true}
use mathlib.Core.List.{List, [], ◌∷◌, ◌++◌, Memᴰ}
use Rattle.model.specs.Trace.{Trace}
use Rattle.model.proofs.Tests.{both, true_both}
use Rattle.format.specs.Readable.{line_feed, Readable, is_readable_byte, is_readable}
use Rattle.format.proofs.ReadableExact.{readable_true, true_readable}
use Rattle.composing.specs.Texts.{joined, Makes}

then_readable : (s t : List ℕ) → is_readable s ≡ true → is_readable t ≡ true → is_readable (s ++ t) ≡ true
unfolding is_readable
then_readable [] t p q = q
then_readable (b ∷ s) t p q = let a = both (is_readable_byte b) (is_readable s) p in true_both a.0 (then_readable s t a.1 q)

all_readable : (notes : List (List ℕ)) → ((t : List ℕ) → Memᴰ t notes → is_readable t ≡ true) → is_readable (joined notes) ≡ true
unfolding joined is_readable is_readable_byte
all_readable [] f = refl
all_readable (t ∷ []) f = f t (Memᴰ.head refl)
all_readable (t ∷ u ∷ l) f = then_readable t (line_feed ∷ joined (u ∷ l)) (f t (Memᴰ.head refl)) (all_readable (u ∷ l) (λ x m. f x (Memᴰ.tail m)))

pub preamble_readable : {ls : List (List ℕ)} {notes : List (List ℕ)} {es : Trace} → Makes ls notes es → Readable (joined notes)
preamble_readable {notes = notes} m = readable_true (joined notes) (all_readable notes (λ t i. true_readable t (m.readable t i)))
