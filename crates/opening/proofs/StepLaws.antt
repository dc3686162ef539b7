-- The ways through the steps.
use Prim.Native.Nat.{ℕ, suc, ◌+◌, ◌-◌, ◌≤◌}
use native.Mathlib.Omega.{arith}
use mathlib.Core.Path.{◌≡◌, refl, sym, ◌∙◌, ap}
use mathlib.Core.Logic.{◌≢◌, ◌⊎◌, inl, inr}
use mathlib.Core.Bool.{Bool, true, false}
use mathlib.Core.List.{List}
use mir.Syntax.{w16}
use mir.Val.{Fits}
use lib.ListN.{get_or, set}
use lib.Dec.{eqb, leb}
use borrow.Author.Tests.{eqb-true, eqb-false, eq-eqb, ne_eqb}
use Rattle.model.specs.Trace.{Trace, Valid, read, write, acquire, release, fork, join, thread_of, kind_of, object_of}
use Rattle.model.specs.Lists.{before}
use Rattle.model.specs.Observed.{observed}
use Rattle.model.specs.Good.{depth, max_thread}
use Rattle.model.specs.Sections.{own_depth, is_outermost, is_last}
use Rattle.model.proofs.Tests.{by_cases, true-does, false-does, object_small}
use Rattle.model.proofs.Locks.{nobody, depth-before, locked_before}
use Rattle.model.proofs.SectionsExact.{own-depth-lock, outermost_acquires, last_releases}
use Rattle.model.proofs.MatchingExact.{matching_inner}
use Rattle.table.specs.Links.{previous, waits_for, lock_depth, release_of, began, fork_of}
use Rattle.table.specs.Table.{word, trace, with_word}
use Rattle.table.specs.Entries.{with_write}
use Rattle.table.proofs.LinkFacts.{reads_observed}
use Rattle.opening.specs.Filling.{Columns, Turn, Stepped}
use Rattle.opening.specs.Knows.{LastEvents, Tails, LastWrites, Forks, Depths, NextEnds, LastTaken, access_began}
use Rattle.opening.proofs.KnowsLaws.{events_step, forks_put, forks-same, depths_put, depths_same, ends_put, ends_same, matching-next, taken_put, taken_same}
use Rattle.opening.proofs.KnowsExact.{knows_kept}

-- ---- `put_previous`

pub previous_step : {k : ℕ} {s last : List ℕ} → Turn LastEvents 2 k s last → (c : ℕ) → c ≡ thread_of (trace s) k → {s' : List ℕ} → s' ≡ with_word s k 2 (get_or last c 0)
    → Stepped LastEvents 2 k (k + 1) s s' (set last c k)
unfolding previous
previous_step {k} {s} w c ec e =
    let g = w.columns.good in
    let v = w.valid in
    record { set = e ∙ rw (ec, w.knows.is (thread_of (trace s) k) (g.thread_limit k v)); knows = rw ec (events_step g v w.knows) }

-- ---- `put_waits` and `put_observed`

module _ {k : ℕ} {s last : List ℕ} (w : Turn LastWrites 3 k s last) (q : ℕ) (eq : q ≡ kind_of (trace s) k) where
  abbrev t : Trace
  t = trace s

  knows : LastWrites t (k + 1) (with_write t k last)
  knows = knows_kept w.columns.good w.valid w.knows

  -- an event that is no write leaves the list as it is
  no_write : kind_of t k ≢ write → LastWrites t (k + 1) last
  unfolding with_write
  no_write ne = rw (ne_eqb (kind_of t k) write ne) at knows

  -- `put_waits`
  pub waits_join : q ≡ join → (x : ℕ) → x ≡ object_of t k → (tails : List ℕ) → Tails (trace s) tails → x ≤ max_thread → {s' : List ℕ} → s' ≡ with_word s k 3 (get_or tails x 0) → Stepped LastWrites 3 k (k + 1) s s' last
  unfolding waits_for
  waits_join j x ex tails l h e =
      let d : kind_of t k ≡ join = sym eq ∙ j in
      record { set = e ∙ rw (ne_eqb (kind_of t k) read (omega arith), eq-eqb _ _ d, ← ex, l.is x h); knows = no_write (omega arith) }

  -- `put_observed`
  module _ (nj : kind_of (trace s) k ≢ join) (x : ℕ) (ex : x ≡ object_of t k) {s' : List ℕ} where
    pub observed-read : q ≡ read → s' ≡ with_word s k 3 (get_or last x 0) → Stepped LastWrites 3 k (k + 1) s s' last
    unfolding waits_for observed
    observed-read r e =
        let d : kind_of t k ≡ read = sym eq ∙ r in
        record { set = e ∙ rw (eq-eqb _ _ d, ex, w.knows.is (object_of t k) (object_small (trace s) w.columns.good k w.valid)); knows = no_write (omega arith) }

    module _ (nr : q ≡ read → ⊥) (e : s' ≡ with_word s k 3 0) where
      no_link : s' ≡ with_word s k 3 (waits_for t k)
      unfolding waits_for
      no_link = e ∙ rw (ne_eqb (kind_of t k) read (λ z. nr (eq ∙ z)), ne_eqb (kind_of t k) join nj)

      pub observed-write : q ≡ write → Stepped LastWrites 3 k (k + 1) s s' (set last x k)
      unfolding with_write
      observed-write d = record { set = no_link; knows = rw ex (rw (eq-eqb (kind_of t k) write (sym eq ∙ d)) at knows) }

      pub observed-other : (q ≡ write → ⊥) → Stepped LastWrites 3 k (k + 1) s s' last
      observed-other nw = record { set = no_link; knows = no_write (λ z. nw (eq ∙ z)) }

-- ---- `Depth::put`

module _ {k : ℕ} {s list : List ℕ} (w : Turn Depths 4 k s list) (x : ℕ) (ex : x ≡ object_of (trace s) k) (d : ℕ) (ed : d ≡ get_or list x 0) where
  abbrev t₄ : Trace
  t₄ = trace s

  -- what was read is the depth before the event
  is_depth : d ≡ depth t₄ (object_of t₄ k) (before k)
  is_depth = ed ∙ ap (λ (y : ℕ). get_or list y 0) ex ∙ w.knows.is (object_of t₄ k) (object_small (trace s) w.columns.good k w.valid)

  -- it is the thread's own
  own-depth : (kind_of t₄ k ≡ acquire) ⊎ (kind_of t₄ k ≡ release) → d ≡ own_depth t₄ k
  own-depth o = is_depth ∙ sym (own-depth-lock t₄ w.columns.good.well_formed k w.valid o)

  pub depth_fits : Fits w16 (d + 1)
  depth_fits =
      let a = is_depth in
      let b = depth-before t₄ (object_of t₄ k) k in
      let c = w.valid.bounded in
      let z = w.columns.good.size in omega arith

  module _ (q : ℕ) (eq : q ≡ kind_of t₄ k) where
    -- the thread that releases a lock holds it
    pub depth-positive : q ≡ release → 1 ≤ d
    depth-positive r =
        let v = w.valid in
        let g = w.columns.good.well_formed in
        let h = g.given_back k v (sym eq ∙ r) in
        let n = (nobody t₄ (object_of t₄ k) (before k) (locked_before t₄ g k v.bounded)).1 in
        let a = is_depth in
        by_cases (eqb d 0)
        (λ e. let z = n (sym a ∙ eqb-true _ _ e) in absurd (omega arith))
        (λ e. let z : d ≢ 0 = eqb-false _ _ e in omega arith)

    module _ {s' : List ℕ} where
      pub depth-acquire : q ≡ acquire → s' ≡ with_word s k 4 d → Stepped Depths 4 k (k + 1) s s' (set list x (d + 1))
      unfolding lock_depth
      depth-acquire a e =
          let f : kind_of t₄ k ≡ acquire = sym eq ∙ a in
          let i = is_depth in
          let z : d + 1 ≡ suc (depth t₄ (object_of t₄ k) (before k)) = omega arith in
          record {
            set = e ∙ rw (eq-eqb _ _ f, own-depth (inl f));
            knows = rw ex (depths_put w.columns.good w.valid w.knows (d + 1) (z ∙ rw (true-does t₄ acquire (object_of t₄ k) k f refl)));
          }

      pub depth-release : q ≡ release → s' ≡ with_word s k 4 d → Stepped Depths 4 k (k + 1) s s' (set list x (d - 1))
      unfolding lock_depth
      depth-release r e =
          let f : kind_of t₄ k ≡ release = sym eq ∙ r in
          let i = is_depth in
          let z : d - 1 ≡ depth t₄ (object_of t₄ k) (before k) - 1 = omega arith in
          let na = ne_eqb (kind_of t₄ k) acquire (omega arith) in
          record {
            set = e ∙ rw (na, eq-eqb _ _ f, own-depth (inr f));
            knows = rw ex (depths_put w.columns.good w.valid w.knows (d - 1) (z ∙ rw (false-does t₄ acquire (object_of t₄ k) k (omega arith), true-does t₄ release (object_of t₄ k) k f refl)));
          }

pub depth-other : {k : ℕ} {s list : List ℕ} → Turn Depths 4 k s list → (q : ℕ) → q ≡ kind_of (trace s) k → (q ≡ acquire → ⊥) → (q ≡ release → ⊥) → {s' : List ℕ} → s' ≡ with_word s k 4 0
    → Stepped Depths 4 k (k + 1) s s' list
unfolding lock_depth
depth-other {k} {s} w q eq na nr e =
    let a : kind_of (trace s) k ≢ acquire = λ z. na (eq ∙ z) in
    let r : kind_of (trace s) k ≢ release = λ z. nr (eq ∙ z) in
    record { set = e ∙ rw (ne_eqb _ _ a, ne_eqb _ _ r); knows = depths_same w.columns.good w.valid w.knows a r }

-- ---- `begins` and `ends`

module _ {k : ℕ} {s : List ℕ} (p : Columns (trace s) 5 s) (v : Valid (trace s) k) (q : ℕ) (eq : q ≡ kind_of (trace s) k) where
  pub begins_not : (q ≡ acquire → ⊥) → false ≡ is_outermost (trace s) k
  unfolding is_outermost
  begins_not ne = rw (ne_eqb (kind_of (trace s) k) acquire (λ z. ne (eq ∙ z)))

  pub ends_not : (q ≡ release → ⊥) → false ≡ is_last (trace s) k
  unfolding is_last
  ends_not ne = rw (ne_eqb (kind_of (trace s) k) release (λ z. ne (eq ∙ z)))

  module _ (d : ℕ) (ed : d ≡ word s k 4) where
    pub begins_test : q ≡ acquire → eqb d 0 ≡ is_outermost (trace s) k
    unfolding is_outermost lock_depth
    begins_test a = let e = ed ∙ p.is 4 k (omega arith) v in let f = eq-eqb (kind_of (trace s) k) acquire (sym eq ∙ a) in rw (e, f)

    pub ends_test : q ≡ release → leb d 1 ≡ is_last (trace s) k
    unfolding is_last lock_depth
    ends_test r =
        let e : kind_of (trace s) k ≡ release = sym eq ∙ r in rw (ed ∙ p.is 4 k (omega arith) v, ne_eqb (kind_of (trace s) k) acquire (omega arith), eq-eqb _ _ e)

-- ---- `put_released`

module _ {k : ℕ} {s list : List ℕ} (w : Turn NextEnds 5 k s list) (x : ℕ) (ex : x ≡ object_of (trace s) k) (b : Bool) (eb : b ≡ is_last (trace s) k) where
  pub released_last : {s' : List ℕ} → b ≡ true → s' ≡ with_word s k 5 k → Stepped NextEnds 5 k (k - 1) s s' (set list x k)
  unfolding release_of
  released_last l e = let i = sym eb ∙ l in record { set = e ∙ rw i; knows = rw ex (ends_put w.columns.good w.valid w.knows i) }

  module _ (nl : b ≡ false) (o : Bool) (eo : o ≡ is_outermost (trace s) k) where
    knows_same : NextEnds (trace s) (k - 1) list
    knows_same = ends_same w.columns.good w.valid w.knows (sym eb ∙ nl)

    pub released_outermost : {s' : List ℕ} → o ≡ true → s' ≡ with_word s k 5 (get_or list x 0) → Stepped NextEnds 5 k (k - 1) s s' list
    unfolding release_of
    released_outermost y e =
        let g = w.columns.good in
        let m = matching-next (trace s) g.well_formed k w.valid (sym eo ∙ y) in
        record { set = e ∙ rw (sym eb ∙ nl, ex, w.knows.is (object_of (trace s) k) (object_small (trace s) g k w.valid), m); knows = knows_same }

    pub released_other : {s' : List ℕ} → o ≡ false → s' ≡ with_word s k 5 0 → Stepped NextEnds 5 k (k - 1) s s' list
    unfolding release_of
    released_other n e = record { set = e ∙ rw (sym eb ∙ nl, matching_inner (trace s) k (sym eo ∙ n)); knows = knows_same }

-- ---- `access_began`

-- the columns before an earlier one are there
columns_less : {t : Trace} {c d : ℕ} {s : List ℕ} → Columns t c s → d ≤ c → Columns t d s
columns_less p l = record { good = p.good; long = p.long; is = λ i k h v. p.is i k (omega arith) v }

module _ {k : ℕ} {s : List ℕ} (p : Columns (trace s) 6 s) (v : Valid (trace s) k) (q : ℕ) (eq : q ≡ kind_of (trace s) k) where
  pub began-write : q ≡ write → k ≡ access_began (trace s) k
  unfolding access_began
  began-write e = let d : kind_of (trace s) k ≡ write = sym eq ∙ e in rw (eq-eqb _ _ d)

  module _ (nw : q ≡ write → ⊥) where
    pub began-read : q ≡ read → (o : ℕ) → o ≡ word s k 3 → o ≡ access_began (trace s) k
    unfolding access_began
    began-read r o eo =
        let d : kind_of (trace s) k ≡ read = sym eq ∙ r in
        eo ∙ p.is 3 k (omega arith) v ∙ reads_observed (trace s) k d ∙ rw (ne_eqb (kind_of (trace s) k) write (λ z. nw (eq ∙ z)), eq-eqb _ _ d)

    pub began-none : (q ≡ read → ⊥) → 0 ≡ access_began (trace s) k
    unfolding access_began
    began-none nr = rw (ne_eqb (kind_of (trace s) k) write (λ z. nw (eq ∙ z)), ne_eqb (kind_of (trace s) k) read (λ z. nr (eq ∙ z)))

-- ---- `Began::put`

access_is : (s : Trace) (k : ℕ) → is_outermost s k ≡ false → is_last s k ≡ false → access_began s k ≡ began s k
unfolding began access_began
access_is s k ni nl =
    by_cases (eqb (kind_of s k) write) (λ d. rw d) (λ d. by_cases (eqb (kind_of s k) read) (λ r. rw (d, r)) (λ r. rw (d, r, ni, nl)))

module _ {k : ℕ} {s list : List ℕ} (w : Turn LastTaken 6 k s list) where
  pub began-columns : Columns (trace s) 5 s
  began-columns = columns_less w.columns (omega arith)

  module _ (x : ℕ) (ex : x ≡ object_of (trace s) k) (b : Bool) (eb : b ≡ is_last (trace s) k) {s' : List ℕ} where
    pub began_last : b ≡ true → s' ≡ with_word s k 6 (get_or list x 0) → Stepped LastTaken 6 k (k + 1) s s' list
    unfolding began is_outermost
    began_last l e =
        let g = w.columns.good in
        let i = sym eb ∙ l in
        let r = last_releases (trace s) k i in
        let na = ne_eqb (kind_of (trace s) k) acquire (omega arith) in
        record {
          set = e ∙ rw (ne_eqb (kind_of (trace s) k) write (omega arith), ne_eqb (kind_of (trace s) k) read (omega arith), na, i, ex, w.knows.is (object_of (trace s) k) (object_small (trace s) g k w.valid));
          knows = taken_same g w.valid w.knows (rw na);
        }

    module _ (nl : b ≡ false) (o : Bool) (eo : o ≡ is_outermost (trace s) k) where
      pub began_outermost : o ≡ true → s' ≡ with_word s k 6 k → Stepped LastTaken 6 k (k + 1) s s' (set list x k)
      unfolding began
      began_outermost y e =
          let i = sym eo ∙ y in
          let a = outermost_acquires (trace s) k i in
          record {
            set = e ∙ rw (ne_eqb (kind_of (trace s) k) write (omega arith), ne_eqb (kind_of (trace s) k) read (omega arith), i);
            knows = rw ex (taken_put w.columns.good w.valid w.knows i);
          }

      pub began-other : o ≡ false → (z : ℕ) → z ≡ access_began (trace s) k → s' ≡ with_word s k 6 z → Stepped LastTaken 6 k (k + 1) s s' list
      began-other n z ez e = record { set = e ∙ rw (ez, access_is (trace s) k (sym eo ∙ n) (sym eb ∙ nl)); knows = taken_same w.columns.good w.valid w.knows (sym eo ∙ n) }

-- ---- `put_forked`

module _ {k : ℕ} {s forks : List ℕ} (w : Turn Forks 7 k s forks) (c : ℕ) (ec : c ≡ thread_of (trace s) k) {s' : List ℕ} (e : s' ≡ with_word s k 7 (get_or forks c 0)) (q : ℕ) (eq : q ≡ kind_of (trace s) k) where
  linked : s' ≡ with_word s k 7 (fork_of (trace s) k)
  unfolding fork_of
  linked = e ∙ rw (ec, w.knows.is (thread_of (trace s) k) (w.columns.good.thread_limit k w.valid))

  pub forked_more : q ≡ fork → (x : ℕ) → x ≡ object_of (trace s) k → x ≤ max_thread → Stepped Forks 7 k (k + 1) s s' (set forks x k)
  forked_more f x ex h = record { set = linked; knows = rw ex (forks_put w.columns.good w.valid w.knows (sym eq ∙ f) (rw ex at h)) }

  pub forked_same : (q ≡ fork → ⊥) → Stepped Forks 7 k (k + 1) s s' forks
  forked_same ne = record { set = linked; knows = forks-same w.columns.good w.valid w.knows (λ z. ne (eq ∙ z)) }
