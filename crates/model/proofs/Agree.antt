-- Two traces with the same first events say the same of lists of those; a trace and an extension are such.
use Prim.Native.Nat.{ℕ, zero, suc, ◌≤◌}
use native.Mathlib.Omega.{arith}
use mathlib.Core.Path.{◌≡◌, refl, sym, ◌∙◌, ap, ap₂}
use mathlib.Core.Logic.{inl, inr, ⊎_elim}
use mathlib.Core.Bool.{Bool, cond, ◌&&◌}
use mathlib.Core.List.Memᴰ
use mathlib.Core.List.{List, [], ◌∷◌, ◌++◌, reverse, reverse-reverse}
use lib.ListN.{length, length-append, get_or-append}
use lib.Dec.{eqb, leb}
use Rattle.model.specs.Trace.{Trace, Event, Valid, write, acquire, release, no_event, at, thread_of, kind_of, object_of, does}
use Rattle.model.specs.Lists.{◌∈◌, before, cons_if, only, just}
use Rattle.model.specs.Observed.{last_write, observed}
use Rattle.model.specs.Good.{depth, holder, Free}
use Rattle.model.specs.Awaits.{Awaits, forked, joined}
use Rattle.model.specs.Reordering.{Next, Enabled, EnabledAfter, Step, Correct}
use Rattle.model.specs.Race.{Conflicting}
use Rattle.model.specs.Extension.{Extension}
use Rattle.model.proofs.Lists.{mem_before}
use Rattle.model.proofs.AwaitsExact.{awaits_valid, awaits_before}
use Rattle.model.proofs.Histories.{Legal, to_legal, of_legal, legal_valid}

-- the traces agree on the events up to n
abbrev pub Agree : Trace → Trace → ℕ → Type 0
Agree u v n = (k : ℕ) → k ≤ n → at u k ≡ at v k

abbrev pub Within : ℕ → List ℕ → Type 0
Within n h = (k : ℕ) → k ∈ h → k ≤ n

-- what an event of v up to n waits for is an event of u up to n
abbrev pub Closed : Trace → Trace → ℕ → Type 0
Closed u v n = (k j : ℕ) → 1 ≤ k → k ≤ n → Awaits v k j → (j ≤ n) × Valid u j

within_before : (n k : ℕ) → k ≤ n → Within n (before k)
within_before n k p j m = let z = mem_before k j m in omega arith

module _ (u v : Trace) (n : ℕ) (same : Agree u v n) where
  pub same_thread : (k : ℕ) → k ≤ n → thread_of u k ≡ thread_of v k
  same_thread k p = ap (λ (e : Event). e.thread) (same k p)

  pub same_kind : (k : ℕ) → k ≤ n → kind_of u k ≡ kind_of v k
  same_kind k p = ap (λ (e : Event). e.kind) (same k p)

  same_object : (k : ℕ) → k ≤ n → object_of u k ≡ object_of v k
  same_object k p = ap (λ (e : Event). e.object) (same k p)

  does_agree : (c x k : ℕ) → k ≤ n → does u c x k ≡ does v c x k
  unfolding does
  does_agree c x k p = ap (λ (e : Event). eqb e.kind c && eqb e.object x) (same k p)

  pub only_agree : (s : ℕ → Bool) (h : List ℕ) → Within n h → only u s h ≡ only v s h
  only_agree s [] w = refl
  only_agree s (k ∷ h) w =
      let ih = only_agree s h (λ j m. w j (Memᴰ.tail m)) in
      ap₂ (λ (e : Event) (l : List ℕ). cons_if (s e.thread) k l) (same k (w k (Memᴰ.head refl))) ih

  last_write_agree : (x : ℕ) (h : List ℕ) → Within n h → last_write u x h ≡ last_write v x h
  last_write_agree x [] w = refl
  last_write_agree x (k ∷ h) w =
      let ih = last_write_agree x h (λ j m. w j (Memᴰ.tail m)) in rw (does_agree write x k (w k (Memᴰ.head refl)), ih)

  depth_agree : (x : ℕ) (h : List ℕ) → Within n h → depth u x h ≡ depth v x h
  depth_agree x [] w = refl
  depth_agree x (k ∷ h) w =
      let p = w k (Memᴰ.head refl) in
      let ih = depth_agree x h (λ j m. w j (Memᴰ.tail m)) in
      rw (does_agree acquire x k p, does_agree release x k p, ih)

  holder_agree : (x : ℕ) (h : List ℕ) → Within n h → holder u x h ≡ holder v x h
  holder_agree x [] w = refl
  holder_agree x (k ∷ h) w =
      let p = w k (Memᴰ.head refl) in
      let w' : Within n h = λ j m. w j (Memᴰ.tail m) in
      let ih = holder_agree x h w' in
      rw (does_agree acquire x k p, does_agree release x k p, depth_agree x h w')
      (ap₂ (λ (e : Event) (o : ℕ). cond (does v acquire x k) (suc e.thread) (cond (does v release x k && leb (depth v x h) 1) 0 o)) (same k p) ih)

  pub observed_agree : (k : ℕ) → k ≤ n → observed u k ≡ observed v k
  unfolding observed
  observed_agree k p = last_write_agree (object_of u k) (before k) (within_before n k p) ∙ ap (λ (x : ℕ). last_write v x (before k)) (same_object k p)

  next_agree : (h : List ℕ) (k : ℕ) → Within n h → k ≤ n → Valid v k → Next u h k → Next v h k
  next_agree h k w p q st = record {
    valid = q;
    turn =
        let c = thread_of v k in
        let e = same_thread k p in
        sym (only_agree (just c) h w) ∙ (rw e at st.turn) ∙ only_agree (just c) (before k) (within_before n k p);
  }

  pub awaits_agree : Closed u v n → (k j : ℕ) → 1 ≤ k → k ≤ n → Awaits v k j → Awaits u k j
  awaits_agree c k j q p a = go (c k j q p a) a
    where
      go : (j ≤ n) × Valid u j → Awaits v k j → Awaits u k j
      go z (forked f o) = forked (same_kind j z.0 ∙ f) (same_object j z.0 ∙ o ∙ sym (same_thread k p))
      go z (joined f x o) = joined (same_kind k p ∙ f) z.1 (same_thread j z.0 ∙ o ∙ sym (same_object k p))

  enabled_agree : Closed u v n → (h : List ℕ) (k : ℕ) → Within n h → k ≤ n → Valid v k → Enabled u h k → Enabled v h k
  enabled_agree c h k w p q e = record { next = next_agree h k w p q e.next; ready = λ j a. e.ready j (awaits_agree c k j q.positive p a) }

  free_agree : (h : List ℕ) (k : ℕ) → Within n h → k ≤ n → Free u h k → Free v h k
  free_agree h k w p f =
      let e : holder u (object_of u k) h ≡ holder v (object_of v k) h = ap (λ (x : ℕ). holder u x h) (same_object k p) ∙ holder_agree (object_of v k) h w in
      ⊎_elim (λ z. inl (sym e ∙ z)) (λ z. inr (sym e ∙ z ∙ ap suc (same_thread k p))) f

  step_agree : Closed u v n → (h : List ℕ) (k : ℕ) → Within n h → k ≤ n → Valid v k → Step u h k → Step v h k
  step_agree c h k w p q st = record {
    enabled = enabled_agree c h k w p q st.enabled;
    sees = λ r. sym (last_write_agree (object_of v k) h w) ∙ ap (λ (x : ℕ). last_write u x h) (sym (same_object k p)) ∙ st.sees (same_kind k p ∙ r) ∙ observed_agree k p;
    free = λ r. free_agree h k w p (st.free (same_kind k p ∙ r));
  }

  pub legal_agree : Closed u v n → (h : List ℕ) → Within n h → ((k : ℕ) → k ∈ h → Valid v k) → Legal u h → Legal v h
  legal_agree c [] w q l = tt
  legal_agree c (k ∷ h) w q l =
      let w' : Within n h = λ j m. w j (Memᴰ.tail m) in
      (step_agree c h k w' (w k (Memᴰ.head refl)) (q k (Memᴰ.head refl)) l.0, legal_agree c h w' (λ j m. q j (Memᴰ.tail m)) l.1)

-- ---- a trace and an extension of it

module _ (t t' : Trace) (long : Extension t t') where
  at-append : (added : Trace) (k : ℕ) → k ≤ length t → at (t ++ added) k ≡ at t k
  at-append added zero p = refl
  at-append added (suc k) p = get_or-append t added no_event k p

  pub extension_agree : Agree t t' (length t)
  extension_agree k p = rw long.same (sym (at-append long.added k p))

  pub extension_thread : (k : ℕ) → k ≤ length t → thread_of t k ≡ thread_of t' k
  extension_thread = same_thread t t' (length t) extension_agree

  pub extended_valid : (k : ℕ) → Valid t k → Valid t' k
  extended_valid k v =
      let z : length t ≤ length t' = rw long.same (let y = length-append t long.added in omega arith) in
      record { positive = v.positive; bounded = let y = v.bounded in omega arith }

  -- no fork of an event's thread is added, and no event of a joined thread
  pub extension_closed : Closed t t' (length t)
  extension_closed k j v p a =
      let y = (awaits_valid t' k j a).positive in
      let z = awaits_before t' long.good.well_formed k j (extended_valid k (record { positive = v; bounded = p })) a in
      (omega arith, record { positive = y; bounded = omega arith })

  pub trace_closed : Closed t' t (length t)
  trace_closed k j v p a = let y = awaits_valid t k j a in (y.bounded, extended_valid j y)

  -- a correct reordering stays one, and brings the same events next
  pub extended_correct : (ρ : List ℕ) → Correct t ρ → Correct t' ρ
  extended_correct ρ c =
      let l = to_legal t ρ c in
      let v : (k : ℕ) → k ∈ reverse ρ → Valid t k = legal_valid t (reverse ρ) l in
      rw (reverse-reverse ρ) at (of_legal t' (reverse ρ)
      (legal_agree t t' (length t) extension_agree extension_closed (reverse ρ) (λ k m. (v k m).bounded) (λ k m. extended_valid k (v k m)) l))

  pub extended_next : (ρ : List ℕ) → Correct t ρ → (k : ℕ) → EnabledAfter t ρ k → EnabledAfter t' ρ k
  extended_next ρ c k e =
      enabled_agree t t' (length t) extension_agree extension_closed (reverse ρ) k
      (λ j m. (legal_valid t (reverse ρ) (to_legal t ρ c) j m).bounded) e.next.valid.bounded (extended_valid k e.next.valid) e

  -- a conflicting pair stays one
  pub extended_conflicting : (a b : ℕ) → Conflicting t a b → Conflicting t' a b
  extended_conflicting a b c =
      let e : (k : ℕ) → k ≤ length t → at t k ≡ at t' k = extension_agree in
      let p = c.first.bounded in
      let q = c.second.bounded in
      let ka = same_kind t t' (length t) e a p in
      let kb = same_kind t t' (length t) e b q in record {
        first = extended_valid a c.first;
        second = extended_valid b c.second;
        threads = λ z. c.threads (same_thread t t' (length t) e a p ∙ z ∙ sym (same_thread t t' (length t) e b q));
        lower = c.lower;
        accesses = (
          ⊎_elim (λ z. inl (sym ka ∙ z)) (λ z. inr (sym ka ∙ z)) c.accesses.0,
          ⊎_elim (λ z. inl (sym kb ∙ z)) (λ z. inr (sym kb ∙ z)) c.accesses.1,
        );
        cell = sym (same_object t t' (length t) e a p) ∙ c.cell ∙ same_object t t' (length t) e b q;
        a_write = ⊎_elim (λ z. inl (sym ka ∙ z)) (λ z. inr (sym kb ∙ z)) c.a_write;
      }
