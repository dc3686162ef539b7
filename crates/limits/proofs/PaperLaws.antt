-- The refusals have the numbers of their rows, and a refusal is told by its number and what goes with it; so what is asked is refused, and answered, exactly as the rows have it.
use Prim.Native.Nat.{ℕ}
use mathlib.Core.Path.{◌≡◌, refl, sym, ◌∙◌, ap}
use mathlib.Core.Logic.Iff
use mathlib.Core.Logic.{◌↔◌}
use mathlib.Core.Option.{Option, none, some, some-injective}
use mathlib.Core.List.{List, [], ◌∷◌, map}
use lib.Dec.{eqb}
use Rattle.model.specs.Trace.{Trace}
use Rattle.model.specs.Rows.{About, nothing, event, Answer, Row, First, Quiet, first, said}
use Rattle.model.specs.Refusals.{event_rows}
use Rattle.model.proofs.RowsExact.{none_quiet, quiet_none, first_exactly}
use Rattle.limits.specs.Refusals.{number_of, paper, event_refusals, RefusedBy, Asked, refuses, answers, settled}
use Rattle.limits.specs.declared.Refusal.{Refusal}
use Rattle.limits.specs.declared.Refusal.TheVariants.{FileSize, Mark, EventCount, Distance, Kind, Thread, Object, SelfOrSecond, AlreadyBegun, AlreadyJoined, LockHeld, NotHolder, ListShort, NotConflicting, AreaShort, Preamble}

pub event_numbers : (t : Trace) (k : ℕ) → map paper (event_refusals k) ≡ map (λ (r : Row). r.answer) (event_rows t k)
event_numbers t k = refl

every : About → List Refusal
every nothing = FileSize ∷ Mark ∷ EventCount ∷ Distance ∷ ListShort ∷ NotConflicting ∷ AreaShort ∷ Preamble ∷ []
every (event k) = event_refusals k

told : Answer → Option Refusal
told a = first (map (λ (r : Refusal). eqb (number_of r) a.number) (every a.about)) (every a.about)

tells : (r : Refusal) → told (paper r) ≡ some r
unfolding told every
tells FileSize = refl
tells Mark = refl
tells EventCount = refl
tells Distance = refl
tells (Kind k) = refl
tells (Thread k) = refl
tells (Object k) = refl
tells (SelfOrSecond k) = refl
tells (AlreadyBegun k) = refl
tells (AlreadyJoined k) = refl
tells (LockHeld k) = refl
tells (NotHolder k) = refl
tells ListShort = refl
tells NotConflicting = refl
tells AreaShort = refl
tells Preamble = refl

pub paper_one : (x y : Refusal) → paper x ≡ paper y → x ≡ y
paper_one x y e = some-injective x y (sym (tells x) ∙ ap told e ∙ tells y)

-- ---- what is asked

module _ (rows : List Row) (o : Option Refusal) (f : First rows (said paper o)) where
  pub refused_exactly : (r : Refusal) → (o ≡ some r) ↔ RefusedBy rows r
  refused_exactly r = let x = first_exactly paper paper_one rows o f (some r) in ((λ e. record { first_row = x.0 e }), (λ q. x.1 q.first_row))

  pub quiet_exactly : (o ≡ none) ↔ Quiet rows
  quiet_exactly = Iff.trans (first_exactly paper paper_one rows o f none) (none_quiet rows, quiet_none rows)

-- each answer exactly in its case, by the rows' refusal o and what is answered where there is none
module _ {A : Type 0} {rows : List Row} {refused : Refusal → A} {Means : A → Type 0} {a : A} (is : Quiet rows → (x : A) → (a ≡ x) ↔ Means x) where
  to : (o : Option Refusal) → First rows (said paper o) → Asked rows refused Means (settled refused a o)
  to none f = let q = none_quiet rows f in answers q ((is q a).0 refl)
  to (some r) f = refuses (record { first_row = f })

  back : (o : Option Refusal) → First rows (said paper o) → (x : A) → Asked rows refused Means x → settled refused a o ≡ x
  back o f x (refuses {r} q) = ap (settled refused a) ((refused_exactly rows o f r).1 q)
  back o f x (answers q m) = ap (settled refused a) ((quiet_exactly rows o f).1 q) ∙ (is q x).1 m

  pub asked_exactly : (o : Option Refusal) → First rows (said paper o) → (x : A) → (settled refused a o ≡ x) ↔ Asked rows refused Means x
  asked_exactly o f x = ((λ e. rw e at (to o f)), back o f x)
