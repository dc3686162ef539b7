-- Entries and the answers that they stand for; the list of them.
use Prim.Native.Nat.{ℕ, zero, suc, ◌+◌, ◌-◌, ◌≤◌, ◌<◌}
use native.Mathlib.Omega.{arith}
use mathlib.Core.Path.{◌≡◌, refl, sym, ◌∙◌, ap}
use mathlib.Core.List.{List, map, ◌++◌}
use lib.ListN.{length, get_or, drop, length-append, length-drop}
use lib.Dec.{eqb, ltb}
use lib.Seq.{ext_get_or, get_or-append-add, get_or-drop}
use borrow.Author.Tests.{eqb-true, ne_eqb, ltb-true, ltb-false, lt-leb, le-leb}
use Rattle.model.specs.Trace.{Trace, read, kind_of}
use Rattle.model.specs.Lists.{numbers, in_front}
use Rattle.model.specs.Observed.{observed}
use Rattle.model.specs.Good.{Good}
use Rattle.model.proofs.Tests.{by_cases, kind_valid}
use Rattle.model.proofs.Lists.{after, numbers_split}
use Rattle.table.proofs.LinkFacts.{reads_observed, waits_less}
use Rattle.observing.specs.Observing.{sees, observed_in}
use Rattle.observing.specs.Entries.{not_aRead, answer_of, entry_at, entries, with_entries, observations_in}
use Rattle.observing.specs.declared.Observed.{Observed}
use Rattle.observing.specs.declared.Observed.TheVariants.{Write, Start, NotARead}
use mathlib.Core.Option.{none}
use Rattle.limits.specs.declared.Refusal.TheVariants.{ListShort}
use Rattle.std.specs.Prelude.{Ok, Err}

-- ---- entries and answers

-- the entry that stands for an answer
abbrev entry_of : Observed → ℕ
entry_of (Write w) = w
entry_of Start = 0
entry_of NotARead = not_aRead

entry_sees : (w : ℕ) → entry_of (sees w) ≡ w
entry_sees zero = refl
entry_sees (suc w) = refl

entry_answer : (e : ℕ) → entry_of (answer_of e) ≡ e
unfolding answer_of
entry_answer e = by_cases (eqb e not_aRead) (λ q. rw q (sym (eqb-true e not_aRead q))) (λ q. rw q (entry_sees e))

-- no two entries stand for one answer
pub answer_one : (e d : ℕ) → answer_of e ≡ answer_of d → e ≡ d
answer_one e d q = sym (entry_answer e) ∙ ap entry_of q ∙ entry_answer d

-- an observed write is an event, and so it has not the number of what is not a read
pub observed_small : {t : Trace} → Good t → (k : ℕ) → kind_of t k ≡ read → observed t k < not_aRead
observed_small {t} g k e =
    let v = kind_valid t k (λ z. omega arith) in
    let b = v.bounded in
    let s = g.size in
    let l = waits_less t g.well_formed k v in
    let r = reads_observed t k e in omega arith

-- an entry stands for question 2's answer
pub entry_answers : (t : Trace) → Good t → (k : ℕ) → answer_of (entry_at t k) ≡ observed_in t k
unfolding answer_of entry_at observed_in
entry_answers t g k = by_cases (eqb (kind_of t k) read) (λ e. rw (e, ne_eqb (observed t k) not_aRead (λ z. let y = observed_small g k (eqb-true _ _ e) in let x : ⊥ = omega arith in x))) (λ e. rw e)

-- ---- a lent list with f k at each place k before n, and the rest as it was

pub record Filled (f : ℕ → ℕ) (n : ℕ) (l l' : List ℕ) : Type 0 where
  pub long : length l' ≡ length l
  pub is : (k : ℕ) → k < n → get_or l' k 0 ≡ f k
  pub kept : (k : ℕ) → n ≤ k → get_or l' k 0 ≡ get_or l k 0

-- it is filled in one way
pub filled_one : {f : ℕ → ℕ} {n : ℕ} {l a b : List ℕ} → Filled f n l a → Filled f n l b → a ≡ b
filled_one {n = n} {a = a} {b = b} p q =
    ext_get_or 0 a b (p.long ∙ sym q.long)
    (λ i h.
    by_cases (ltb i n)
    (λ e. let m = ltb-true i n e in p.is i m ∙ sym (q.is i m))
    (λ e. let m = ltb-false i n e in p.kept i m ∙ sym (q.kept i m)))

-- ---- the list of entries

module _ (f : ℕ → ℕ) where
  length-after : (d j : ℕ) → length (map f (after j d)) ≡ d
  length-after zero j = refl
  length-after (suc d) j = ap suc (length-after d (suc j))

  get_d_after : (d j i : ℕ) (r : List ℕ) → i < d → get_or (map f (after j d) ++ r) i 0 ≡ f (suc (j + i))
  get_d_after zero j i r l = absurd (omega arith)
  get_d_after (suc d) j zero r l = ap f (omega arith)
  get_d_after (suc d) j (suc i) r l = get_d_after d (suc j) i r (omega arith) ∙ ap f (omega arith)

module _ (t : Trace) (l : List ℕ) where
  numbers_after : numbers t ≡ after 0 (length t)
  numbers_after = numbers_split t (length t) 0 (omega arith)

  length-entries : length (entries t) ≡ length t + 1
  length-entries = rw numbers_after (let e = length-after (entry_at t) (length t) 0 in omega arith)

  front : (k : ℕ) → k < length t + 1 → get_or (with_entries t l) k 0 ≡ entry_at t k
  unfolding in_front
  front zero h = refl
  front (suc k) h = rw numbers_after (get_d_after (entry_at t) (length t) 0 k _ (omega arith) ∙ ap (entry_at t) (omega arith))

  behind : (i : ℕ) → get_or (with_entries t l) (length t + 1 + i) 0 ≡ get_or l (length t + 1 + i) 0
  unfolding in_front
  behind i = rw (← length-entries) (get_or-append-add (entries t) (drop (length (entries t)) l) i 0 ∙ get_or-drop (length (entries t)) l i 0)

  pub entries-filled : length t < length l → Filled (entry_at t) (length t + 1) l (with_entries t l)
  unfolding in_front
  entries-filled h =
      record {
        long = length-append (entries t) (drop (length (entries t)) l) ∙ (let a = length-entries in let b = length-drop (length (entries t)) l in omega arith);
        is = front;
        kept = λ k o. let i : k ≡ length t + 1 + (k - (length t + 1)) = omega arith in rw i (behind (k - (length t + 1)));
      }

-- ---- the pass: the entries of the numbers below k stand in the list

pub record Entering (t : Trace) (k : ℕ) (l l' : List ℕ) : Type 0 where
  pub long : length t < length l
  pub filled : Filled (entry_at t) k l l'
  pub low : k ≤ length t + 1

entering_end : {t : Trace} {k : ℕ} {l l' : List ℕ} → Entering t k l l' → length t + 1 ≤ k → l' ≡ with_entries t l
entering_end {t} {k} {l} p h = let a = p.low in let z : k ≡ length t + 1 = omega arith in filled_one (rw z at p.filled) (entries-filled t l p.long)

-- ---- `observations_in`

module _ (t : Trace) (l : List ℕ) (n : ℕ) (e : n ≡ length t) where
  pub list_short : length l ≤ n → (Err ListShort, l) ≡ observations_in none t l
  unfolding observations_in
  list_short h = rw (le-leb (length l) (length t) (omega arith))

  pub list_given : {k : ℕ} {l' : List ℕ} → Entering t k l l' → n + 1 ≤ k → (Ok n, l') ≡ observations_in none t l
  unfolding observations_in
  list_given p h = rw (lt-leb (length l) (length t) p.long, e) (ap (λ (x : List ℕ). (Ok (length t), x)) (entering_end p (omega arith)))
