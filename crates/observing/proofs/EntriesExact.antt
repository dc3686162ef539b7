-- The answer for all events at once is given exactly in its case; its entries are question 2's answers, one by one.
use Prim.Native.Nat.{ℕ, ◌+◌, ◌<◌}
use native.Mathlib.Omega.{arith}
use mathlib.Core.Path.{◌≡◌, sym, ◌∙◌, ap}
use mathlib.Core.Logic.{◌↔◌}
use mathlib.Core.List.{List}
use lib.ListN.{length, get_or}
use Rattle.model.specs.Trace.{Trace}
use Rattle.model.specs.Good.{Good}
use Rattle.observing.specs.Entries.{answer_of, entry_at, Answered, ObservationsOf, given, with_entries}
use Rattle.std.specs.Prelude.{Result, Ok}
use Rattle.limits.specs.declared.Refusal.{Refusal}
use Rattle.observing.proofs.ObservingExact.{observed_in_exactly}
use Rattle.observing.proofs.EntriesLaws.{Filled, answer_one, entry_answers, filled_one, entries-filled}

module _ (t : Trace) (g : Good t) (l : List ℕ) where
  answered : length t < length l → Answered t l (with_entries t l)
  answered long =
      let p = entries-filled t l long in
      record {
        entry = λ k h. (observed_in_exactly t k _).0 (sym (ap answer_of (p.is k (omega arith)) ∙ entry_answers t g k));
        beyond = record { long = p.long; kept = λ k h. p.kept k (omega arith) };
      }

  -- the entries of an answer are those of the pass
  filled : {l' : List ℕ} → Answered t l l' → Filled (entry_at t) (length t + 1) l l'
  filled {l'} a =
      record {
        long = a.beyond.long;
        is = λ k h. answer_one (get_or l' k 0) (entry_at t k) (sym ((observed_in_exactly t k (answer_of (get_or l' k 0))).1 (a.entry k (omega arith))) ∙ sym (entry_answers t g k));
        kept = λ k h. a.beyond.kept k (omega arith);
      }

  -- where no refusal is
  pub given_exactly : length t < length l → (o : Result ℕ Refusal × List ℕ) → ((Ok (length t), with_entries t l) ≡ o) ↔ ObservationsOf t l o
  given_exactly long o = ((λ e. rw e at (given (answered long))), back o)
    where
      back : (o : Result ℕ Refusal × List ℕ) → ObservationsOf t l o → (Ok (length t), with_entries t l) ≡ o
      back o (given {l'} a) = ap (λ (x : List ℕ). (Ok (length t), x)) (filled_one (entries-filled t l long) (filled a))
