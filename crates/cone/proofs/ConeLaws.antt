-- The events up to the tops are the cone's, and what the answers say of it.
use Prim.Native.Nat.{ℕ, ◌+◌, ◌-◌, ◌≤◌}
use native.Mathlib.Omega.{arith}
use mathlib.Core.Path.{◌≡◌, refl, ◌∙◌, ap}
use mathlib.Core.Bool.{Bool, true, false, true≢false, false≢true}
use mathlib.Core.List.{List, [], ◌∷◌}
use lib.ListN.{length, take, drop, length-drop, length-reverse}
use lib.Seq.{take_all}
use borrow.Author.Tests.{leb-true, le-leb}
use Rattle.model.specs.Trace.{Trace, thread_of}
use Rattle.model.specs.Lists.{up_to, keep, any_in, listed, only, own, just, all_but}
use Rattle.model.specs.Race.{Apart}
use Rattle.decision.specs.Rounds.{cone}
use Rattle.model.proofs.Tests.{by_cases, false_test}
use Rattle.model.proofs.Lists.{mem_keep, keep_mem, any_mem, mem_any, mem_listed, listed_mem, mem_reverse, reverse_mem, mem_up_to, up_to_mem, increasing_reverse, increasing_unique}
use Rattle.model.proofs.ConeEvents.{cone_valid}
use Rattle.decision.proofs.ConeExact.{cone_exactly, cone_increasing}
use Rattle.decision.proofs.LeastSet.{length-keep}
use Rattle.cone.specs.Tops.{Tops, Told, none_in, one_in}
use Rattle.cone.specs.Split.{is_under, under, Moved, Others}

-- the tops, where no root is in the cone
pub told_tops : {t : Trace} {R tops : List ℕ} {b : Bool} → Told t R tops b → b ≡ true → Tops t R tops
told_tops (none_in f x) e = x
told_tops (one_in m x) e = absurd (false≢true e)

module _ {t : Trace} {R : List ℕ} (a : Apart t R) where
  -- ---- the two lists are the cone's

  module _ {tops : List ℕ} (x : Tops t R tops) where
    pub under-cone : under t tops ≡ cone t R
    unfolding under is_under
    under-cone =
        let p = is_under t tops in
        let l = up_to (length t) in
        increasing_unique (under t tops) (cone t R) (increasing_reverse p (length t)) (cone_increasing t R)
        (λ k m.
        let y = mem_keep p k l (mem_reverse k (keep p l) m) in
        let u = mem_up_to (length t) k y.0 in
        (cone_exactly t R a.valid k).1 ((x.is k (record { positive = u.0; bounded = u.1 })).0 (leb-true _ _ y.1)))
        (λ k m.
        let y = (cone_exactly t R a.valid k).0 m in
        let v = cone_valid t R a.valid y in
        reverse_mem (keep_mem p (up_to_mem (length t) k v.positive v.bounded) (le-leb _ _ ((x.is k v).1 y))))

    pub moved-cone : {m r : ℕ} {out : List ℕ} → Moved t m tops r out → drop r out ≡ own t m (cone t R)
    moved-cone {m} p = p.is ∙ ap (own t m) under-cone

    pub others_cone : {m r : ℕ} {out : List ℕ} → Others t m tops r out → take r out ≡ only t (all_but m) (cone t R)
    others_cone {m} p = p.is ∙ ap (only t (all_but m)) under-cone

  -- ---- the answer

  pub roots_out : {tops : List ℕ} {b : Bool} → Told t R tops b → b ≡ true → any_in (λ r. listed r (cone t R)) R ≡ false
  roots_out (none_in f x) e =
      false_test (mem_any (λ r. listed r (cone t R)) R) (λ y. f y.0 y.1 ((cone_exactly t R a.valid y.0).0 (listed_mem y.0 (cone t R) y.2)))
  roots_out (one_in m x) e = absurd (false≢true e)

  pub root_in : {tops : List ℕ} {b : Bool} → Told t R tops b → b ≡ false → any_in (λ r. listed r (cone t R)) R ≡ true
  root_in (none_in f x) e = absurd (true≢false e)
  root_in (one_in {r = r} m x) e = any_mem (λ r. listed r (cone t R)) m (mem_listed ((cone_exactly t R a.valid r).1 x))

-- ---- the two lists have different events of the trace

module _ (t : Trace) where
  sides_few : (m : ℕ) (l : List ℕ) → length (own t m l) + length (only t (all_but m) l) ≡ length l
  unfolding all_but
  sides_few m [] = refl
  sides_few m (k ∷ l) =
      let h = sides_few m l in
      by_cases (just m (thread_of t k)) (λ e. rw e (omega arith)) (λ e. rw e (omega arith))

  under_few : (tops : List ℕ) → length (under t tops) ≤ length t
  unfolding under
  under_few tops =
      let a = length-reverse (keep (is_under t tops) (up_to (length t))) in
      let b = length-keep (is_under t tops) (length t) in omega arith

module _ {t : Trace} {m : ℕ} {tops : List ℕ} {p : ℕ} {moved : List ℕ} (x : Moved t m tops p moved) where
  pub both_few : {q : ℕ} {others : List ℕ} → Others t m tops q others → length (drop p moved) + length (take q others) ≤ length t
  both_few y = rw (x.is, y.is) (let a = sides_few t m (under t tops) in let b = under_few t tops in omega arith)

-- a list from place r on, as a part of an array of n places
pub rest_whole : (l : List ℕ) (n r : ℕ) → length l ≡ n → take (n - r) (drop r l) ≡ drop r l
rest_whole l n r e = take_all (n - r) (drop r l) (let z = length-drop r l in omega arith)
