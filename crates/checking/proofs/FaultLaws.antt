-- Each fault is told by its number, and the check gives no numbers but theirs and 0.
use Prim.Native.Nat.{ℕ, zero, suc}
use mathlib.Core.Path.{◌≡◌, refl, sym, ◌∙◌, ap}
use mathlib.Core.Logic.{◌≢◌, ◌↔◌}
use mathlib.Core.Bool.{Bool, true, false, not}
use mathlib.Core.List.{List, [], ◌∷◌}
use Rattle.std.specs.Prelude.{Option, None, Some, Result}
use Rattle.std.specs.Result.{result_err}
use Rattle.model.specs.Trace.{Trace}
use Rattle.model.specs.Rows.{first, or_zero}
use Rattle.decision.specs.Check.{place_tests, place_fault, first_of, fault_from, is_enabled, check}
use Rattle.checking.specs.Faults.{number_of, number_or_zero, fault_number, checked}
use Rattle.checking.specs.declared.Fault.{Fault}
use Rattle.checking.specs.declared.Fault.TheVariants.{NoEvent, NotNext, SeesOtherwise, LockHeld, NotReady, LowerNotEnabled, HigherNotEnabled}

-- no fault has the number 0
pub numbered : (f : Fault) → number_of f ≢ 0
numbered NoEvent = λ e. cc
numbered NotNext = λ e. cc
numbered SeesOtherwise = λ e. cc
numbered LockHeld = λ e. cc
numbered NotReady = λ e. cc
numbered LowerNotEnabled = λ e. cc
numbered HigherNotEnabled = λ e. cc

-- a fault has its number alone
pub number_checked : (f : Fault) → checked (number_of f) ≡ Some f
number_checked NoEvent = refl
number_checked NotNext = refl
number_checked SeesOtherwise = refl
number_checked LockHeld = refl
number_checked NotReady = refl
number_checked LowerNotEnabled = refl
number_checked HigherNotEnabled = refl

zero_checked : (o : Option Fault) → checked (number_or_zero o) ≡ o
zero_checked None = refl
zero_checked (Some f) = number_checked f

pub result_checked : (r : Result (Unit {0}) Fault) → result_err r ≡ checked (fault_number r)
result_checked r = sym (zero_checked (result_err r))

-- ---- the numbers of the check

-- n is the number of a fault, or 0
record Told (n : ℕ) : Type 0 where
  is : number_or_zero (checked n) ≡ n

abbrev AllTold : List ℕ → Type 0
AllTold [] = Unit {0}
AllTold (n ∷ l) = Told n × AllTold l

told_first : (b : List Bool) (l : List ℕ) → AllTold l → Told (or_zero (first b l))
told_first [] l p = record { is = refl }
told_first (x ∷ b) [] p = record { is = refl }
told_first (true ∷ b) (n ∷ l) p = p.0
told_first (false ∷ b) (n ∷ l) p = told_first b l p.1

told_both : (f g : ℕ) → Told f → Told g → Told (first_of f g)
told_both zero g p q = q
told_both (suc f) g p q = p

module _ (t : Trace) where
  told_place : (h : List ℕ) (k : ℕ) → Told (place_fault t h k)
  unfolding place_fault
  told_place h k = told_first (place_tests t h k) (21 ∷ 22 ∷ 23 ∷ 24 ∷ 27 ∷ []) (record { is = refl }, (record { is = refl }, (record { is = refl }, (record { is = refl }, (record { is = refl }, tt)))))

  told_list : (h list : List ℕ) → Told (fault_from t h list)
  unfolding fault_from
  told_list h [] = record { is = refl }
  told_list h (k ∷ list) = told_both (place_fault t h k) _ (told_place h k) (told_list (k ∷ h) list)

  module _ (a b : ℕ) (list : List ℕ) where
    told : Told (check t a b list)
    unfolding check
    told = told_both (fault_from t [] list) _ (told_list [] list) (told_first (not (is_enabled t list a) ∷ not (is_enabled t list b) ∷ []) (25 ∷ 26 ∷ []) (record { is = refl }, (record { is = refl }, tt)))

    -- the first fault is the one that has the check's number
    pub checked_exactly : (o : Option Fault) → (checked (check t a b list) ≡ o) ↔ (check t a b list ≡ number_or_zero o)
    checked_exactly o = ((λ e. sym told.is ∙ ap number_or_zero e), λ e. ap checked e ∙ zero_checked o)
