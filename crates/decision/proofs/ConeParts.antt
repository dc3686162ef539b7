-- The cone's two lists, and what the trace says of its reads and sections.
use Prim.Native.Nat.{ℕ, ◌<◌}
use native.Mathlib.Omega.{arith}
use mathlib.Core.Path.{◌≡◌, ◌∙◌, ap}
use mathlib.Core.Logic.{◌≢◌, ◌⊎◌, inl, inr}
use mathlib.Core.Bool.{Bool, true, false}
use mathlib.Core.List.{List}
use lib.Dec.{ltb}
use borrow.Author.Tests.{ltb-true, ltb-false}
use Rattle.model.specs.Trace.{Trace, Valid, read, write, kind_of, object_of, does}
use Rattle.model.specs.Lists.{◌∈◌, listed, just, all_but, own, only}
use Rattle.model.specs.Observed.{observed, LastBefore, Unwritten}
use Rattle.model.specs.Sections.{is_outermost}
use Rattle.model.specs.Cone.{InCone, matching}
use Rattle.decision.specs.Rounds.{cone}
use Rattle.model.proofs.Tests.{by_cases, clash, does-true, true-does, just-false, false-just, all_but-true, true-all_but}
use Rattle.model.proofs.Lists.{mem_listed, listed_mem, mem_only, only_mem}
use Rattle.model.proofs.ObservedExact.{observed-write_exactly, observed-start_exactly}
use Rattle.model.proofs.ConeEvents.{cone_valid}
use Rattle.decision.proofs.ConeExact.{cone_exactly}
use Rattle.model.proofs.MatchingExact.{Ends, matching_ends}
use Rattle.decision.proofs.Solutions.{Closed, Open, Rival, Part}

-- a read is no write
reader_writer : (t : Trace) (x j k : ℕ) → kind_of t j ≡ read → does t write x k ≡ true → j ≢ k
reader_writer t x j k r e z = let u = (does-true t write x k e).0 in let y : kind_of t k ≡ read = rw z at r in let n : ⊥ = omega arith in n

module _ (t : Trace) (R : List ℕ) (v : (r : ℕ) → r ∈ R → Valid t r) where
  pub cone-positive : {k : ℕ} → InCone t R k → k ≢ 0
  cone-positive x z = let u = (cone_valid t R v x).positive in let n : ⊥ = omega arith in n

  -- ---- reads

  -- the write that a read observed
  pub the_last : (k w : ℕ) → observed t k ≡ w → w ≢ 0 → LastBefore t (object_of t k) k w
  the_last k w o ne = (observed-write_exactly t k w ne).0 o

  pub its_cell : (k w : ℕ) → observed t k ≡ w → w ≢ 0 → does t write (object_of t k) w ≡ true
  its_cell k w o ne = let b = the_last k w o ne in true-does t write (object_of t k) w b.writes b.cell

  -- a read that saw the start comes in the trace before every write of its cell
  pub start-before : (k u : ℕ) → kind_of t k ≡ read → observed t k ≡ 0 → InCone t R u → does t write (object_of t k) u ≡ true → k < u
  start-before k u r o x e =
      let ne = reader_writer t (object_of t k) k u r e in
      let s : Unwritten t (object_of t k) 0 k = (observed-start_exactly t k).0 o in
      let d = does-true t write (object_of t k) u e in
      by_cases (ltb k u) (λ l. ltb-true k u l) (λ l. let z = ltb-false k u l in absurd (s u (cone_valid t R v x).positive (omega arith) d.0 d.1))

  -- another write comes before the observed one, or after the read
  pub rival_apart : (k w u : ℕ) → Rival t R k w u → (u < w) ⊎ (k < u)
  rival_apart k w u r =
      let ne = reader_writer t (object_of t k) k u r.reads r.writes in
      let other = r.other in
      let d = does-true t write (object_of t k) u r.writes in
      by_cases (ltb u w) (λ l. inl (ltb-true u w l)) (λ l.
      by_cases (ltb k u) (λ n. inr (ltb-true k u n)) (λ n.
      let y = ltb-false u w l in
      let z = ltb-false k u n in
      absurd ((the_last k w r.observes r.written).last u (omega arith) (omega arith) d.0 d.1)))

  -- ---- sections

  -- one is closed or open
  pub section : (a : ℕ) → is_outermost t a ≡ true → InCone t R a → Closed t R a ⊎ Open t R a
  section a o x =
      let r = matching t a in
      by_cases (listed r (cone t R))
      (λ e. inl (record { outermost = o; begun = x; ended = (cone_exactly t R v r).0 (listed_mem r (cone t R) e) }))
      (λ e. inr (record { outermost = o; begun = x; unended = λ i. clash (mem_listed ((cone_exactly t R v r).1 i)) e }))

  -- a release is later, and by the same thread
  pub ends : (a : ℕ) → InCone t R (matching t a) → Ends t a (matching t a)
  ends a x = matching_ends t a (cone-positive x)

  -- ---- the two lists

  module _ (m : ℕ) where
    -- a release is of its section's list
    pub release-part : {b : Bool} (a : ℕ) → Part t R m b a → InCone t R (matching t a) → Part t R m b (matching t a)
    release-part a x i = record { inside = i; list = ap (just m) (ends a i).thread ∙ x.list }

    pub part-P : (k : ℕ) → k ∈ own t m (cone t R) → Part t R m true k
    part-P k n = let y = mem_only t (just m) k (cone t R) n in record { inside = (cone_exactly t R v k).0 y.0; list = y.1 }

    pub part-Q : (k : ℕ) → k ∈ only t (all_but m) (cone t R) → Part t R m false k
    part-Q k n = let y = mem_only t (all_but m) k (cone t R) n in record { inside = (cone_exactly t R v k).0 y.0; list = false-just m _ (all_but-true m _ y.1) }

    pub P-part : (k : ℕ) → Part t R m true k → k ∈ own t m (cone t R)
    P-part k x = only_mem t (just m) ((cone_exactly t R v k).1 x.inside) x.list

    pub Q-part : (k : ℕ) → Part t R m false k → k ∈ only t (all_but m) (cone t R)
    Q-part k x = only_mem t (all_but m) ((cone_exactly t R v k).1 x.inside) (true-all_but m _ (just-false m _ x.list))
