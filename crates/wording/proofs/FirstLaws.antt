-- The first place of a byte.
use Prim.Native.Nat.{ℕ, suc, ◌+◌, ◌-◌, ◌≤◌, ◌<◌}
use native.Mathlib.Omega.{arith}
use native.Mathlib.Numerals.{add-one}
use mathlib.Core.Path.{◌≡◌, refl}
use mathlib.Core.Logic.{◌≢◌}
use mathlib.Core.Bool.{false, cond}
use mathlib.Core.List.{List, [], ◌∷◌, ◌++◌, Memᴰ}
use lib.ListN.{length, get_or, take, drop, length-drop}
use lib.Seq.{split_at, take_all}
use lib.Dec.{eqb, ltb}
use borrow.Author.Tests.{eq-eqb, ne_eqb, eqb-true, ltb-false, lt-ltb}
use Rattle.model.proofs.Tests.{by_cases}
use Rattle.wording.specs.Parts.{first_at}
use Rattle.std.specs.Prelude.{Option, Some, None, unwrap_or}
use Rattle.std.specs.List.{position_or_len, list_any}
use Rattle.std.proofs.lemmas.List.Recursion.{is_position_or_len}
use Rattle.std.proofs.lemmas.Bool.Decides.{nat_tests}

-- what the code lends of a list from a place on
abbrev pub from : ℕ → List ℕ → List ℕ
from i s = take (length s - i) (drop i s)

pub from-drop : (i : ℕ) (s : List ℕ) → from i s ≡ drop i s
from-drop i s = take_all (length s - i) (drop i s) (let h = length-drop i s in omega arith)

-- ---- the search for a byte

pub first_position : (stop : ℕ) (s : List ℕ) → first_at stop s ≡ position_or_len (λ b. eqb b stop) s
first_position stop = is_position_or_len (first_at stop) (λ b. eqb b stop) refl (λ b s. grind arith)

pub first_or_end : (stop : ℕ) (s : List ℕ) (found : Option ℕ)
    → found ≡ cond (ltb (position_or_len (λ b. eqb b stop) s) (length s)) (Some (position_or_len (λ b. eqb b stop) s)) None
    → unwrap_or found (length s) ≡ first_at stop s
first_or_end stop s found e =
    let q = first_position stop s in
    let l = first_least stop s in
    by_cases (ltb (first_at stop s) (length s)) (λ h. rw (e, ← q, h) refl)
    (λ h. let g = ltb-false _ _ h in rw (e, ← q, h) (omega arith))
  where
    first_least : (stop : ℕ) (s : List ℕ) → first_at stop s ≤ length s
    first_least stop [] = omega arith
    first_least stop (b ∷ s) = let h = first_least stop s in by_cases (eqb b stop) (λ e. rw e (omega arith)) (λ e. rw e (omega arith))

pub has_any : (b : ℕ) (s : List ℕ) → list_any (λ x. eqb x b) s ≡ ltb (first_at b s) (length s)
has_any b [] = refl
has_any b (c ∷ s) = by_cases (eqb c b) (λ e. rw (e, lt-ltb 0 (suc (length s)) (omega arith)) refl) (λ e. rw (e, has_any b s) (grind (arith, nat_tests)))

-- ---- what stands before the first place, and after it

pub first_stops : (stop : ℕ) (s : List ℕ) → first_at stop s < length s → get_or s (first_at stop s) 0 ≡ stop
first_stops stop [] h = absurd (omega arith)
first_stops stop (b ∷ s) h =
    by_cases (eqb b stop) (λ e. rw e (eqb-true b stop e))
    (λ e. let g : suc (first_at stop s) < suc (length s) = rw e at h in rw e (first_stops stop s (omega arith)))

-- a list without the byte: neither its first byte is it, nor has the rest it
pub first_rest : (stop b : ℕ) (x : List ℕ) → first_at stop (b ∷ x) ≡ length (b ∷ x) → (eqb b stop ≡ false) × (first_at stop x ≡ length x)
first_rest stop b x h =
    by_cases (eqb b stop) (λ e. let g : ◌≡◌ {A = ℕ} 0 (suc (length x)) = rw e at h in absurd (omega arith))
    (λ e. let g : suc (first_at stop x) ≡ suc (length x) = rw e at h in (e, omega arith))

-- such a list, then the byte
pub first-append : (stop : ℕ) (x y : List ℕ) → first_at stop x ≡ length x → first_at stop (x ++ (stop ∷ y)) ≡ length x
first-append stop [] y h = rw (eq-eqb stop stop refl)
first-append stop (b ∷ x) y h = let g = first_rest stop b x h in rw (g.0, first-append stop x y g.1)

-- what stands before the first place is such a list
pub first_clear : (stop : ℕ) (s : List ℕ) → first_at stop (take (first_at stop s) s) ≡ length (take (first_at stop s) s)
first_clear stop [] = refl
first_clear stop (b ∷ s) = by_cases (eqb b stop) (λ e. rw e) (λ e. rw (e, e, first_clear stop s))

pub first_absent : (stop : ℕ) (x : List ℕ) → ((b : ℕ) → Memᴰ b x → b ≢ stop) → first_at stop x ≡ length x
first_absent stop [] h = refl
first_absent stop (b ∷ x) h = rw (ne_eqb b stop (h b (Memᴰ.head refl)), first_absent stop x (λ c m. h c (Memᴰ.tail m)))

-- a list is what stands before the byte, the byte, and what stands after
pub first_split : (stop : ℕ) (s : List ℕ) (i : ℕ) → i ≡ first_at stop s → i < length s → s ≡ take i s ++ (stop ∷ drop (i + 1) s)
first_split stop s i e h =
    let g : get_or s i 0 ≡ stop = rw e (first_stops stop s (omega arith)) in
    rw (add-one i) (rw g at (split_at s i 0 h))
