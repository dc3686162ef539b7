-- What the pass that finds observed writes knows: after each event every cell's last write so far, or that there is none.
use Prim.Native.Nat.{ℕ, ◌+◌, ◌≤◌}
use mathlib.Core.Path.{◌≡◌, refl, sym, ◌∙◌}
use mathlib.Core.Logic.{◌≢◌, ◌↔◌}
use mathlib.Core.List.{List}
use lib.ListN.{get_or, replicate}
use Rattle.model.specs.Trace.{Trace, Valid}
use Rattle.model.specs.Lists.{before}
use Rattle.model.specs.Observed.{LastBefore, Unwritten, last_write}
use Rattle.model.specs.Good.{Good, max_object}
use Rattle.model.proofs.ObservedExact.{last_write_exactly, unwritten_exactly}
use Rattle.table.specs.Entries.{with_write}
use Rattle.table.proofs.EntryLaws.{entries_new, write_known}
use Rattle.opening.specs.Knows.{LastWrites}
use Rattle.opening.proofs.KnowsLaws.{known_next}

-- it knows it before the first event
pub knows_first : (t : Trace) → LastWrites t 1 (replicate (max_object + 1) 0)
knows_first t = entries_new _ max_object (λ x. refl)

-- a step keeps it: what is known before event k is known before the next
pub knows_kept : {t : Trace} {k : ℕ} → Good t → Valid t k → {list : List ℕ} → LastWrites t k list → LastWrites t (k + 1) (with_write t k list)
knows_kept {t} {k} g v p = known_next g v (last_write t) (write_known t k (before k) g v p)

-- in words: a write is the cell's last before event k, and 0 is for a cell that is not written before it
module _ {t : Trace} {k : ℕ} {list : List ℕ} (p : LastWrites t k list) (x : ℕ) (l : x ≤ max_object) where
  pub knows_write : (w : ℕ) → w ≢ 0 → (get_or list x 0 ≡ w) ↔ LastBefore t x k w
  knows_write w ne = (λ e. (last_write_exactly t x k w ne).0 (sym (p.is x l) ∙ e), λ d. p.is x l ∙ (last_write_exactly t x k w ne).1 d)

pub knows_none : (t : Trace) (k : ℕ) {list : List ℕ} → LastWrites t k list → (x : ℕ) → x ≤ max_object → (get_or list x 0 ≡ 0) ↔ Unwritten t x 0 k
knows_none t k p x l = (λ e. (unwritten_exactly t x k).0 (sym (p.is x l) ∙ e), λ u. p.is x l ∙ (unwritten_exactly t x k).1 u)
