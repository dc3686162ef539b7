-- One word of a table is set; one column; all of them.
use Prim.Native.Nat.{ℕ, suc, ◌+◌, ◌-◌, ◌*◌, ◌/◌, ◌%◌, ◌≤◌, ◌<◌}
use native.Mathlib.Omega.{arith}
use mathlib.Core.Path.{◌≡◌, refl, sym, ◌∙◌}
use mathlib.Core.Logic.{◌≢◌}
use mathlib.Core.List.{List, ◌++◌}
use lib.ListN.{length, take, length-set, length-append}
use lib.Seq.{get_or-set_same, get_or-set_other, ext_get_or, length-take-le, take_at}
use lib.Dec.{eqb}
use borrow.Author.Tests.{eqb-true, eqb-false}
use mir.Syntax.{w16}
use mir.Val.{Fits}
use Rattle.model.specs.Trace.{Trace, Valid, no_event, at, thread_of, kind_of, object_of}
use Rattle.model.specs.Good.{Good}
use Rattle.model.proofs.Tests.{by_cases, object_small}
use Rattle.table.specs.Table.{words, word, event_in, trace, columns, column, room, Place, with_word}
use Rattle.table.proofs.TableLaws.{trace-length, trace-at, word_there}
use Rattle.opening.specs.Filling.{Columns, Filled, Built}
use Rattle.opening.specs.Knows.{Tails}

-- ---- one word

module _ {k c : ℕ} {s : List ℕ} (p : Place k c s) (x : ℕ) where
  word_same : word (with_word s k c x) k c ≡ x
  word_same = get_or-set_same s (words * (k - 1) + c) x 0 (word_there p)

  word-other : (j d : ℕ) → 1 ≤ j → d < words → (j ≡ k → d ≡ c → ⊥) → word (with_word s k c x) j d ≡ word s j d
  word-other j d h l ne =
      get_or-set_other s (words * (k - 1) + c) (words * (j - 1) + d) x 0
      (λ e. let a = p.first in let b = p.column in ne (omega arith) (omega arith))

-- ---- one column

-- Some events have passed: they have column c, and every other word is as it was.
pub record Passed (t : Trace) (c : ℕ) (Past : ℕ → Type 0) (s₀ s : List ℕ) : Type 0 where
  pub before : Columns t c s₀
  pub within : c < columns
  pub long : length s ≡ length s₀
  pub is : (k : ℕ) → Past k → Valid t k → word s k c ≡ column c t k
  pub kept : (k d : ℕ) → 1 ≤ k → d < words → d ≢ c → word s k d ≡ word s₀ k d

pub passed_start : {t : Trace} {c : ℕ} {Past : ℕ → Type 0} {s : List ℕ} → Columns t c s → c < columns → ((k : ℕ) → Past k → Valid t k → ⊥) → Passed t c Past s s
passed_start p l none = record { before = p; within = l; long = refl; is = λ k m v. absurd (none k m v); kept = λ k d a b e. refl }

module _ {t : Trace} {c : ℕ} {Past : ℕ → Type 0} {s₀ s : List ℕ} (p : Passed t c Past s₀ s) where
  -- the columns before it are there on the way, and it is too where all events have passed
  pub passed-columns : Columns t c s
  passed-columns = let w = p.within in record {
    good = p.before.good;
    long = p.long ∙ p.before.long;
    is = λ d k l v. p.kept k d v.positive (omega arith) (λ e. let z : ⊥ = omega arith in z) ∙ p.before.is d k l v;
  }

  pub passed_end : ((k : ℕ) → Valid t k → Past k) → Columns t (suc c) s
  passed_end all = record {
    good = p.before.good;
    long = p.long ∙ p.before.long;
    is = λ d k l v.
        by_cases (eqb d c)
        (λ q. rw (eqb-true d c q) (p.is k (all k v) v))
        (λ q. let ne : d ≢ c = eqb-false d c q in passed-columns.is d k (omega arith) v);
  }

  module _ {k : ℕ} (v : Valid t k) where
    passed-place : Place k c s
    passed-place = let w = p.within in let a = passed-columns.long in let b = v.bounded in record { first = v.positive; row = omega arith; column = omega arith }

    -- event k passes
    pub passed_more : {Now : ℕ → Type 0} → ((j : ℕ) → Now j → j ≢ k → Past j) → {s' : List ℕ} {x : ℕ} → s' ≡ with_word s k c x → x ≡ column c t k → Passed t c Now s₀ s'
    passed_more now {x = x} e ex = rw e (record {
      before = p.before;
      within = p.within;
      long = length-set s (words * (k - 1) + c) x ∙ p.long;
      is = λ j m u.
          by_cases (eqb j k)
          (λ q. rw (eqb-true j k q) (word_same passed-place x ∙ ex))
          (λ q.
          let ne : j ≢ k = eqb-false j k q in
          word-other passed-place x j c u.positive passed-place.column (λ z y. ne z) ∙ p.is j (now j m ne) u);
      kept = λ j d a b ne. word-other passed-place x j d a b (λ z y. ne y) ∙ p.kept j d a b ne;
    })

-- ---- the events are there from the second column on

module _ {t : Trace} {c : ℕ} {s : List ℕ} (p : Columns t c s) (two : 2 ≤ c) where
  event_is : (k : ℕ) → Valid t k → event_in s k ≡ at t k
  event_is k v =
      let x = p.good.thread_limit k v in
      let a = p.is 0 k (omega arith) v in
      let y : word s k 0 % 256 ≡ thread_of t k = omega arith in
      let z : word s k 0 / 256 ≡ kind_of t k = omega arith in
      rw (y, z, p.is 1 k (omega arith) v)

  pub columns-trace : trace s ≡ t
  columns-trace =
      let l : length (trace s) ≡ length t = let a = trace-length s in let b = p.long in omega arith in
      ext_get_or no_event (trace s) t l
      (λ i h. trace-at s (suc i) (record { positive = omega arith; bounded = omega arith }) ∙ event_is (suc i) (record { positive = omega arith; bounded = omega arith }))

  pub columns-own : Columns (trace s) c s
  columns-own = rw columns-trace p

  pub columns_tails : {tails : List ℕ} → Tails t tails → Tails (trace s) tails
  columns_tails x = rw columns-trace x

-- ---- `fill`

pub fill_end : {t : Trace} {s₂ s₃ s₄ s₅ s₆ s₇ s : List ℕ}
    → Columns (trace s₇) columns s → Columns (trace s₆) 7 s₇ → Columns (trace s₅) 6 s₆ → Columns (trace s₄) 5 s₅ → Columns (trace s₃) 4 s₄ → Columns (trace s₂) 3 s₃ → Columns t 2 s₂ → Filled t s
fill_end p p₇ p₆ p₅ p₄ p₃ p₂ =
    let e = columns-trace p₇ (omega arith) ∙ columns-trace p₆ (omega arith) ∙ columns-trace p₅ (omega arith) ∙ columns-trace p₄ (omega arith) ∙ columns-trace p₃ (omega arith) ∙ columns-trace p₂ (omega arith) in
    let q = columns-own p (omega arith) in
    record { long = p.long ∙ rw e; same = columns-trace p (omega arith) ∙ e; linked = record { good = q.good; is = q.is } }

-- ---- the events' own words

pub own_object : {t : Trace} {k : ℕ} → Good t → Valid t k → (o : ℕ) → o ≡ object_of t k → Fits w16 o
own_object {t} {k} g v o e = let z = object_small t g k v in omega arith

module _ (t : Trace) (k c : ℕ) where
  pub own_first : c ≡ 0 → (x y : ℕ) → x ≡ thread_of t k → y ≡ kind_of t k → x + 256 * y ≡ column c t k
  own_first e x y ex ey = rw (e, ex, ey)

  pub own_second : (c ≡ 0 → ⊥) → c < 2 → (o : ℕ) → o ≡ object_of t k → o ≡ column c t k
  own_second ne h o eo = let e : c ≡ 1 = omega arith in rw (e, eo)

-- ---- `build`

module _ {t : Trace} (n : ℕ) (e : n ≡ length t) where
  module _ (g : Good t) (a : List ℕ) (r : room ≤ length a) where
    pub build_long : words * n ≡ length (take (words * n) a)
    build_long = sym (length-take-le (words * n) a (let z = g.size in omega arith))

    pub build_start : Columns t 0 (take (words * n) a)
    build_start = record { good = g; long = let z = build_long in omega arith; is = λ d k l v. absurd (omega arith) }

  pub build_end : {u : List ℕ} → Filled t u → (rest : List ℕ) → Built t (words * n) (u ++ rest)
  build_end {u} f rest =
      let l : length u ≡ words * n = let z = f.long in omega arith in
      record { within = let z = length-append u rest in omega arith; filled = rw (take_at u rest (words * n) l) f }
