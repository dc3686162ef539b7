-- The threads counted are different, and are those that have an event.
use Prim.Native.Nat.{ℕ, zero, suc, ◌≤◌, ◌<◌}
use native.Mathlib.Omega.{arith}
use mathlib.Core.Path.{◌≡◌, refl, sym, ◌∙◌, ap}
use mathlib.Core.Logic.{◌≢◌, ◌⊎◌, inl, inr, ⊎_elim, ◌↔◌}
use mathlib.Core.List.Memᴰ
use mathlib.Core.List.{List, [], ◌∷◌, map}
use lib.ListN.{length, get_or}
use Rattle.model.specs.Trace.{Trace, Event, Valid, no_event, thread_of}
use Rattle.model.specs.Lists.{◌∈◌, Distinct, TwoThreads, OnlyBeside, listed, threads, pair}
use Rattle.model.specs.Cone.{AllInside}
use Rattle.model.specs.Race.{Apart, Conflicting}
use Rattle.model.proofs.Tests.{by_cases, in_cons, clash}
use Rattle.model.proofs.Lists.{mem_listed, listed_mem}

pub threads_distinct : (t : Trace) → Distinct (threads t)
unfolding threads
threads_distinct [] = tt
threads_distinct (e ∷ t) =
    let ih = threads_distinct t in
    by_cases (listed e.thread (threads t)) (λ q. rw q ih) (λ q. rw q ((λ m. clash (mem_listed m) q), ih))

-- some event is by thread c
abbrev HasEvent : Trace → ℕ → Type 0
HasEvent t c = (k : ℕ) × Valid t k × (thread_of t k ≡ c)

later : (e : Event) (t : Trace) (c : ℕ) → HasEvent t c → HasEvent (e ∷ t) c
later e t c x = go x.0 x.1 x.2
  where
    go : (k : ℕ) → Valid t k → thread_of t k ≡ c → HasEvent (e ∷ t) c
    go zero v p = absurd (let z = v.positive in omega arith)
    go (suc k) v p = (suc (suc k), record { positive = omega arith; bounded = let z = v.bounded in omega arith }, p)

threads_have : (t : Trace) (c : ℕ) → c ∈ threads t → HasEvent t c
unfolding threads
threads_have [] c m = absurd (Memᴰ.not-nil m)
threads_have (e ∷ t) c m =
    by_cases (listed e.thread (threads t))
    (λ q. later e t c (threads_have t c (rw q at m)))
    (λ q.
    in_cons (rw q at m)
    (λ p. (1, record { positive = omega arith; bounded = omega arith }, sym p))
    (λ n. later e t c (threads_have t c n)))

thread_in : (t : Trace) (k : ℕ) → k < length t → (get_or t k no_event).thread ∈ threads t
unfolding threads
thread_in [] k p = absurd (omega arith)
thread_in (e ∷ t) zero p =
    by_cases (listed e.thread (threads t)) (λ q. rw q (listed_mem e.thread (threads t) q)) (λ q. rw q (Memᴰ.head refl))
thread_in (e ∷ t) (suc k) p =
    let ih = thread_in t k (omega arith) in by_cases (listed e.thread (threads t)) (λ q. rw q ih) (λ q. rw q (Memᴰ.tail ih))

thread_mem : (t : Trace) (k : ℕ) → Valid t k → thread_of t k ∈ threads t
thread_mem t zero v = absurd (let z = v.positive in omega arith)
thread_mem t (suc k) v = thread_in t k v.bounded

pub threads_exactly : (t : Trace) (c : ℕ) → (c ∈ threads t) ↔ ((k : ℕ) × Valid t k × (thread_of t k ≡ c))
threads_exactly t c = (threads_have t c, (λ x. let e = x.2 in rw e at (thread_mem t x.0 x.1)))

-- ---- pairs

pub mem_pair {ℓ} : {G : Type ℓ} {a b r : ℕ} → r ∈ pair a b → (r ≡ a → G) → (r ≡ b → G) → G
mem_pair m f g = in_cons m f (λ n. g (Memᴰ.eq_of_singleton n))

pub in_pair_a : (a b : ℕ) → a ∈ pair a b
in_pair_a a b = Memᴰ.head refl

pub in_pair_b : (a b : ℕ) → b ∈ pair a b
in_pair_b a b = Memᴰ.tail (Memᴰ.head refl)

pub for_pair : (G : ℕ → Type 0) {a b : ℕ} → G a → G b → (r : ℕ) → r ∈ pair a b → G r
for_pair G x y r m = mem_pair m (λ e. rw e x) (λ e. rw e y)

pub conflicting_apart : (t : Trace) (a b : ℕ) → Conflicting t a b → Apart t (pair a b)
conflicting_apart t a b c = record {
  valid = for_pair (Valid t) c.first c.second;
  threads = ((λ m. c.threads (Memᴰ.eq_of_singleton m)), (Memᴰ.not-nil, tt));
}

-- roots by one thread are the same
pub apart_same : (t : Trace) (R : List ℕ) → Distinct (map (λ r. thread_of t r) R) → (q r : ℕ) → q ∈ R → r ∈ R → thread_of t q ≡ thread_of t r → q ≡ r
apart_same t [] d q r m n e = absurd (Memᴰ.not-nil m)
apart_same t (x ∷ R) d q r m n e =
    in_cons m
    (λ p. in_cons n (λ o. p ∙ sym o) (λ o. absurd (d.0 (thread_of_lem R x r (ap (thread_of t) (sym p) ∙ e) o))))
    (λ p. in_cons n (λ o. absurd (d.0 (thread_of_lem R x q (ap (thread_of t) (sym o) ∙ sym e) p))) (λ o. apart_same t R d.1 q r p o e))
  where
    thread_of_lem : (l : List ℕ) (i j : ℕ) → thread_of t i ≡ thread_of t j → j ∈ l → thread_of t i ∈ map (λ r. thread_of t r) l
    thread_of_lem [] i j p m = absurd (Memᴰ.not-nil m)
    thread_of_lem (y ∷ l) i j p m = in_cons m (λ o. Memᴰ.head (p ∙ ap (thread_of t) o)) (λ o. Memᴰ.tail (thread_of_lem l i j p o))

-- beside two different members of a list of at most two there is no third
no_third : (l : List ℕ) → length l ≤ 2 → (a b c : ℕ) → a ≢ b → a ∈ l → b ∈ l → c ∈ l → (c ≡ a) ⊎ (c ≡ b)
no_third [] p a b c ne x y z = absurd (Memᴰ.not-nil x)
no_third (u ∷ []) p a b c ne x y z = inl (Memᴰ.eq_of_singleton z ∙ sym (Memᴰ.eq_of_singleton x))
no_third (u ∷ v ∷ []) p a b c ne x y z =
    mem_pair x
    (λ e. mem_pair y (λ f. absurd (ne (e ∙ sym f))) (λ f. mem_pair z (λ g. inl (g ∙ sym e)) (λ g. inr (g ∙ sym f))))
    (λ e. mem_pair y (λ f. mem_pair z (λ g. inr (g ∙ sym f)) (λ g. inl (g ∙ sym e))) (λ f. absurd (ne (e ∙ sym f))))
no_third (u ∷ v ∷ w ∷ l) p a b c ne x y z = absurd (omega arith)

-- in a trace by at most two threads every event is by the thread of one or the other
module _ (t : Trace) (a b : ℕ) (two : TwoThreads t) (c : Apart t (pair a b)) where
  two_threads : (k : ℕ) → Valid t k → (thread_of t k ≡ thread_of t a) ⊎ (thread_of t k ≡ thread_of t b)
  two_threads k v =
      no_third (threads t) two (thread_of t a) (thread_of t b) (thread_of t k) (λ e. c.threads.0 (Memᴰ.head e))
      (thread_mem t a (c.valid a (in_pair_a a b))) (thread_mem t b (c.valid b (in_pair_b a b))) (thread_mem t k v)

  pub two_inside : AllInside t (pair a b)
  two_inside k v = ⊎_elim (λ e. (a, in_pair_a a b, sym e)) (λ e. (b, in_pair_b a b, sym e)) (two_threads k v)

  pub two_beside : OnlyBeside t (thread_of t a) (thread_of t b)
  two_beside k v ne = ⊎_elim (λ e. absurd (ne e)) (λ e. e) (two_threads k v)
