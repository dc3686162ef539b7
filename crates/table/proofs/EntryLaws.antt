-- Lists by number: a new one, one that stays, and one with a new entry; the last writes after one more event.
use Prim.Native.Nat.{ℕ, ◌+◌, ◌≤◌}
use native.Mathlib.Omega.{arith}
use mathlib.Core.Path.{◌≡◌, refl, sym, ◌∙◌}
use mathlib.Core.Logic.{◌≢◌}
use mathlib.Core.List.{List, ◌∷◌}
use lib.ListN.{replicate, set, length-set, get_or-replicate, length-replicate}
use lib.Seq.{get_or-set_same, get_or-set_other}
use lib.Dec.{eqb}
use borrow.Author.Tests.{eqb-true, eqb-false}
use Rattle.model.specs.Trace.{Trace, Valid, write, kind_of, object_of}
use Rattle.model.specs.Observed.{last_write}
use Rattle.model.specs.Good.{Good, max_object}
use Rattle.model.proofs.Tests.{by_cases, true-does, false-does, not_on, object_small}
use Rattle.table.specs.Entries.{Entries, with_write}

pub entries_new : (f : ℕ → ℕ) (n : ℕ) → ((x : ℕ) → f x ≡ 0) → Entries f n (replicate (n + 1) 0)
entries_new f n z =
    let w = length-replicate {A = ℕ} (n + 1) 0 in
    record { long = omega arith; is = λ x b. get_or-replicate (n + 1) x 0 0 (omega arith) ∙ sym (z x) }

module _ {f : ℕ → ℕ} {n : ℕ} {l : List ℕ} (p : Entries f n l) (g : ℕ → ℕ) where
  pub entries-same : ((x : ℕ) → g x ≡ f x) → Entries g n l
  entries-same e = record { long = p.long; is = λ x b. p.is x b ∙ sym (e x) }

  pub entries_put : (x v : ℕ) → x ≤ n → g x ≡ v → ((y : ℕ) → y ≢ x → g y ≡ f y) → Entries g n (set l x v)
  entries_put x v b new old =
      let w = p.long in
      let s = length-set l x v in
      record {
        long = omega arith;
        is = λ y c.
            by_cases (eqb y x)
            (λ q. rw (eqb-true y x q) (get_or-set_same l x v 0 (omega arith) ∙ sym new))
            (λ q. let ne = eqb-false y x q in get_or-set_other l x y v 0 ne ∙ p.is y c ∙ sym (old y ne));
      }

-- a list of last writes in a history, and one event more
pub write_known : (t : Trace) (k : ℕ) (h : List ℕ) {list : List ℕ} → Good t → Valid t k → Entries (λ x. last_write t x h) max_object list → Entries (λ x. last_write t x (k ∷ h)) max_object (with_write t k list)
unfolding with_write
write_known t k h g v p =
    let x = object_of t k in
    by_cases (eqb (kind_of t k) write)
    (λ e. rw e (entries_put p (λ y. last_write t y (k ∷ h)) x k (object_small t g k v) (rw (true-does t write x k (eqb-true _ _ e) refl)) (λ y ne. rw (not_on t write y k ne))))
    (λ e. rw e (entries-same p (λ y. last_write t y (k ∷ h)) (λ y. rw (false-does t write y k (eqb-false _ _ e)))))
