-- The walk over the list, and the ways through question 5.
use Prim.Native.Nat.{ℕ, suc, ◌+◌, ◌≤◌, ◌<◌}
use native.Mathlib.Numerals.{add-one}
use mathlib.Core.Path.{◌≡◌, refl, sym, ◌∙◌, ap}
use mathlib.Core.Bool.{Bool, true, false, not}
use mathlib.Core.Option.{none}
use mathlib.Core.List.{List, [], ◌∷◌, reverse}
use lib.ListN.{length, get_or, drop, replicate, drop_of_length-le}
use lib.Seq.{drop-cons}
use lib.Dec.{eqb}
use borrow.Author.Tests.{not-true, not-false, ne_eqb}
use Rattle.model.specs.Trace.{Trace, Valid}
use Rattle.model.specs.Good.{max_thread, max_object}
use Rattle.model.specs.Lists.{passed}
use Rattle.model.proofs.Passed.{passed-suc, passed-all}
use Rattle.decision.specs.Check.{is_enabled, place_fault, first_of, fault_from, is_correct, check}
use Rattle.decision.specs.Decision.{is_conflicting}
use Rattle.decision.proofs.CheckExact.{clean_step}
use Rattle.decision.proofs.ListingExact.{conflicting_exactly}
use Rattle.limits.specs.declared.Refusal.TheVariants.{NotConflicting}
use Rattle.table.proofs.EntryLaws.{entries_new}
use Rattle.checking.specs.Passing.{Knows, EnabledTold, FaultTold, KnowsMore, Walked}
use Rattle.checking.specs.Faults.{number_of, fault_number}
use Rattle.checking.specs.Checking.{check_in}
use Rattle.checking.proofs.PassLaws.{first_nonzero}
use Rattle.checking.proofs.FaultLaws.{numbered, result_checked}
use Rattle.std.specs.Prelude.{Option, Result, Ok, Err, is_ok}
use Rattle.std.specs.Result.{result_err}
use Rattle.checking.specs.declared.Fault.{Fault}

-- the first i places have no fault, and the lists are theirs
pub record Passing (t : Trace) (list : List ℕ) (i : ℕ) (last writes locks : List ℕ) : Type 0 where
  pub knows : Knows t (passed list i) last writes locks
  pub rest : fault_from t [] list ≡ fault_from t (passed list i) (drop i list)

module _ {t : Trace} {list : List ℕ} {i : ℕ} {last writes locks : List ℕ} (p : Passing t list i last writes locks) where
  module _ (h : i < length list) {r : Result (Unit {0}) Fault} (w : FaultTold t last writes locks (get_or list i 0) r) where
    here : fault_number r ≡ place_fault t (passed list i) (get_or list i 0)
    here = w.is (passed list i) p.knows

    split : fault_from t [] list ≡ first_of (fault_number r) (fault_from t (get_or list i 0 ∷ passed list i) (drop (suc i) list))
    unfolding fault_from
    split = p.rest ∙ rw (drop-cons list i 0 h, ← here) refl

  pub passing_fault : i < length list → (f : Fault) → FaultTold t last writes locks (get_or list i 0) (Err f) → (last' writes' locks' : List ℕ) → Walked t list (Err f) last' writes' locks'
  passing_fault h f w last' writes' locks' = record { says = first_nonzero (number_of f) _ (numbered f) ∙ sym (split h w); knows = λ e. absurd (numbered f e) }

  module _ (h : i < length list) {u : Unit {0}} (w : FaultTold t last writes locks (get_or list i 0) (Ok u)) where
    pub passing_valid : Valid t (get_or list i 0)
    passing_valid = (clean_step t (passed list i) (get_or list i 0) (sym (here h w))).enabled.next.valid

    pub passing_on : {last' writes' locks' : List ℕ} → KnowsMore t (get_or list i 0) last writes locks last' writes' locks' → Passing t list (i + 1) last' writes' locks'
    passing_on s =
        let r : passed list (suc i) ≡ get_or list i 0 ∷ passed list i = passed-suc list i h in
        rw (add-one i) (record { knows = rw r (s.knows (passed list i) p.knows (sym (here h w))); rest = rw r (split h w) })

  pub passing_end : length list ≤ i → Walked t list (Ok tt) last writes locks
  unfolding fault_from
  passing_end h = record { says = sym (p.rest ∙ rw (drop_of_length-le list h) refl); knows = λ e. rw (passed-all list i h) at p.knows }

-- ---- the whole list

pub knows_none : (t : Trace) → Knows t [] (replicate (max_thread + 1) 0) (replicate (max_object + 1) 0) (replicate (max_object + 1) 0)
knows_none t =
    record {
      correct = tt;
      threads = entries_new _ max_thread (λ c. refl);
      cells = entries_new _ max_object (λ x. refl);
      holders = entries_new _ max_object (λ x. refl);
    }

module _ {t : Trace} {list last writes locks : List ℕ} where
  pub walked_correct : (r : Result (Unit {0}) Fault) → Walked t list r last writes locks → is_ok r ≡ is_correct t list
  unfolding is_correct
  walked_correct (Ok u) w = ap (λ (n : ℕ). eqb n 0) w.says
  walked_correct (Err f) w = sym (ne_eqb (number_of f) 0 (numbered f)) ∙ ap (λ (n : ℕ). eqb n 0) w.says

  pub walked_fault : (f : Fault) → Walked t list (Err f) last writes locks → (a b : ℕ) → number_of f ≡ check t a b list
  unfolding check
  walked_fault f w a b = rw (← w.says) (first_nonzero (number_of f) _ (numbered f))

  module _ {x : Unit {0}} (w : Walked t list (Ok x) last writes locks) where
    enabled : {k : ℕ} {u : Bool} → EnabledTold t last k u → is_enabled t list k ≡ u
    unfolding is_enabled
    enabled n = sym (n.is (reverse list) writes locks (w.knows refl))

    module _ (a b : ℕ) {u : Bool} (na : EnabledTold t last a u) where
      pub walked_lower : not u ≡ true → 25 ≡ check t a b list
      unfolding check
      walked_lower i = rw (← w.says, enabled na, i) refl

      module _ (i : not u ≡ false) {v : Bool} (nb : EnabledTold t last b v) where
        pub walked_higher : not v ≡ true → 26 ≡ check t a b list
        unfolding check
        walked_higher j = rw (← w.says, enabled na, i, enabled nb, j) refl

        pub walked_both : not v ≡ false → 0 ≡ check t a b list
        unfolding check
        walked_both j = rw (← w.says, enabled na, i, enabled nb, j) refl

-- ---- question 5

module _ (t : Trace) (a b : ℕ) (c : Bool) (ec : c ≡ is_conflicting t a b) where
  module _ (yes : not c ≡ false) where
    pub lower_valid : Valid t a
    lower_valid = ((conflicting_exactly t a b).0 (sym ec ∙ not-false c yes)).first

    pub higher_valid : Valid t b
    higher_valid = ((conflicting_exactly t a b).0 (sym ec ∙ not-false c yes)).second

  module _ (list : List ℕ) where
    pub check_refused : not c ≡ true → Err NotConflicting ≡ check_in none t a b list
    unfolding check_in
    check_refused w = rw (sym ec ∙ not-true c w)

    pub check_told : not c ≡ false → (r : Result (Unit {0}) Fault) → fault_number r ≡ check t a b list → (o : Option Fault) → o ≡ result_err r → Ok o ≡ check_in none t a b list
    unfolding check_in
    check_told w r e o eo = rw (sym ec ∙ not-false c w, eo, ← e) (ap (λ (x : Option Fault). Ok x) (result_checked r))
