-- What `beyond` finds, and what it says of a pair's cone.
use Prim.Native.Nat.{ℕ, ◌+◌, ◌<◌}
use native.Mathlib.Omega.{arith}
use mathlib.Core.Path.{◌≡◌, sym, ◌∙◌, ap}
use mathlib.Core.Logic.{◌≢◌}
use mathlib.Core.Bool.{Bool, true, false, true≢false, not, ◌&&◌}
use mathlib.Core.List.{List}
use lib.ListN.{length, get_or}
use lib.Dec.{eqb, ltb}
use borrow.Author.Tests.{eqb-true, eqb-false, ne_eqb, lt-ltb}
use Rattle.std.specs.List.{list_any, enumerate_from}
use Rattle.std.proofs.lemmas.List.FromFn.{get_or-enumerate_from, length-enumerate_from}
use Rattle.model.specs.Trace.{Trace, thread_of}
use Rattle.model.specs.Lists.{pair}
use Rattle.model.specs.Good.{Good, max_thread}
use Rattle.model.specs.Cone.{ConeInside}
use Rattle.model.specs.Race.{Apart}
use Rattle.model.proofs.Tests.{by_cases, clash}
use Rattle.model.proofs.Threads.{in_pair_a, in_pair_b}
use Rattle.model.proofs.ConeEvents.{cone_valid}
use Rattle.cone.specs.Tops.{is_third, Beyond, one_beyond, none_beyond, Tops}
use Rattle.cone.proofs.RoundLaws.{any_place, none_place}

-- ---- `beyond`

-- a thread, and its top, that is neither m's nor n's
abbrev pub third : ℕ → ℕ → ℕ × ℕ → Bool
third m n p = not (eqb p.0 m) && (not (eqb p.0 n) && ltb 0 p.1)

entry : (tops : List ℕ) (c : ℕ) → c < length tops → get_or (enumerate_from 0 tops) c (0, 0) ≡ (c, get_or tops c 0)
entry tops c h = get_or-enumerate_from 0 tops c (0, 0) h ∙ ap (λ (i : ℕ). (i, get_or tops c 0)) (omega arith)

pub beyond_any : (tops : List ℕ) (m n : ℕ) → length tops ≡ max_thread + 1 → (b : Bool) → b ≡ list_any (third m n) (enumerate_from 0 tops) → Beyond tops m n b
unfolding is_third
beyond_any tops m n l true e =
    let x = any_place (third m n) (0, 0) (enumerate_from 0 tops) e in
    let i = x.0 in
    let h : i < length tops = omega (arith, x.1, length-enumerate_from 0 tops) in
    let z = entry tops i h in
    one_beyond {c = i} (omega arith) (rw z at x.2)
beyond_any tops m n l false e =
    none_beyond (λ c u.
    let h : c < length tops = omega arith in
    let z = entry tops c h in
    rw z at (none_place (third m n) (0, 0) (enumerate_from 0 tops) e c (omega (arith, length-enumerate_from 0 tops))))

-- ---- the cone of a pair whose threads are m and n

third_true : (tops : List ℕ) (m n c : ℕ) → c ≢ m → c ≢ n → 0 < get_or tops c 0 → is_third tops m n c ≡ true
unfolding is_third
third_true tops m n c d e h = rw (ne_eqb c m d, ne_eqb c n e, lt-ltb 0 (get_or tops c 0) h)

pub pair_inside : {t : Trace} → Good t → (a b : ℕ) → Apart t (pair a b) → {tops : List ℕ} → Tops t (pair a b) tops → {x : Bool} → Beyond tops (thread_of t a) (thread_of t b) x → x ≡ false → ConeInside t (pair a b)
pair_inside g a b d p (one_beyond l h) e k i = absurd (true≢false e)
pair_inside {t} g a b d {tops} p (none_beyond f) e k i =
    let v = cone_valid t (pair a b) d.valid i in
    by_cases (eqb (thread_of t k) (thread_of t a))
    (λ q. (a, in_pair_a a b, sym (eqb-true _ _ q)))
    (λ q.
    by_cases (eqb (thread_of t k) (thread_of t b))
    (λ r. (b, in_pair_b a b, sym (eqb-true _ _ r)))
    (λ r.
    let u = (p.is k v).1 i in
    let w = v.positive in
    absurd (clash (third_true tops _ _ (thread_of t k) (eqb-false _ _ q) (eqb-false _ _ r) (omega arith)) (f (thread_of t k) (g.thread_limit k v)))))
