-- An answer and its number say the same: what a caller reads out of the number is the answer.
use Prim.Native.Nat.{ℕ, ◌+◌, ◌*◌, ◌/◌, ◌%◌, ◌<◌, ◌≤◌}
use native.Mathlib.Omega.{arith}
use mathlib.Core.Path.{◌≡◌, refl}
use borrow.Author.Tests.{ne_eqb}
use Rattle.limits.specs.Refusals.{number_of}
use Rattle.limits.specs.declared.Refusal.{Refusal}
use Rattle.limits.specs.declared.Refusal.TheVariants.{FileSize, Mark, EventCount, Distance, Kind, Thread, Object, SelfOrSecond, AlreadyBegun, AlreadyJoined, LockHeld, NotHolder, ListShort, NotConflicting, AreaShort, Preamble}
use Rattle.std.specs.Prelude.{Option, None, Some, Result, Ok, Err}
use Rattle.questions.specs.declared.Counts.{Counts}
use Rattle.observing.specs.declared.Observed.{Observed}
use Rattle.observing.specs.declared.Observed.TheVariants.{Write, Start, NotARead}
use Rattle.verdicts.specs.declared.Pair.{Pair}
use Rattle.checking.proofs.FaultLaws.{number_checked}
use Rattle.numbers.specs.Numbers.{Parts, packed, unpacked, Small, ReadBack}
use Rattle.numbers.specs.Packed.{of_refusal, to_refusal, in_case, of_judgement, to_judgement, of_observed, to_observed, of_observations, to_observations, of_finding, to_finding, of_next, to_next, of_check, to_check, of_noted, to_noted, of_written, to_written, NumbersExact}

-- ---- a number and its parts

pub unpacked_exactly : (p : Parts) → Small p → unpacked (packed p) ≡ p
unfolding packed unpacked
unpacked_exactly p s =
    let a = s.case in
    let b = s.first in
    let i : packed p % 256 ≡ p.case = omega arith in
    let m : packed p / 256 ≡ p.first + 65536 * p.second = omega arith in
    let j : (p.first + 65536 * p.second) % 65536 ≡ p.first = omega arith in
    let k : (p.first + 65536 * p.second) / 65536 ≡ p.second = omega arith in
    rw (i, m, j, k)

-- ---- the parts and the answer

refusal_back : (r : Refusal) → to_refusal (of_refusal r) ≡ r
refusal_back FileSize = refl
refusal_back Mark = refl
refusal_back EventCount = refl
refusal_back Distance = refl
refusal_back (Kind k) = refl
refusal_back (Thread k) = refl
refusal_back (Object k) = refl
refusal_back (SelfOrSecond k) = refl
refusal_back (AlreadyBegun k) = refl
refusal_back (AlreadyJoined k) = refl
refusal_back (LockHeld k) = refl
refusal_back (NotHolder k) = refl
refusal_back ListShort = refl
refusal_back NotConflicting = refl
refusal_back AreaShort = refl
refusal_back Preamble = refl

low : (r : Refusal) → number_of r < 100
low FileSize = omega arith
low Mark = omega arith
low EventCount = omega arith
low Distance = omega arith
low (Kind k) = omega arith
low (Thread k) = omega arith
low (Object k) = omega arith
low (SelfOrSecond k) = omega arith
low (AlreadyBegun k) = omega arith
low (AlreadyJoined k) = omega arith
low (LockHeld k) = omega arith
low (NotHolder k) = omega arith
low ListShort = omega arith
low NotConflicting = omega arith
low AreaShort = omega arith
low Preamble = omega arith

-- no refusal has the case of another answer
module _ {A : Type 0} where
  passed : (r : Refusal) (c : ℕ) → 100 ≤ c → (x y : A) → in_case c (of_refusal r) x y ≡ y
  passed r c h x y = let l = low r in rw (ne_eqb (number_of r) c (λ e. omega arith))

judgement_back : (j : Result Counts Refusal) → to_judgement (of_judgement j) ≡ j
judgement_back (Err r) = rw (passed r 100 (omega arith), refusal_back r)
judgement_back (Ok c) = refl

observed_back : (o : Result Observed Refusal) → to_observed (of_observed o) ≡ o
observed_back (Err r) = rw (passed r 101 (omega arith), passed r 102 (omega arith), passed r 103 (omega arith), refusal_back r)
observed_back (Ok (Write w)) = refl
observed_back (Ok Start) = refl
observed_back (Ok NotARead) = refl

observations_back : (o : Result ℕ Refusal) → to_observations (of_observations o) ≡ o
observations_back (Err r) = rw (passed r 104 (omega arith), refusal_back r)
observations_back (Ok n) = refl

finding_back : (f : Result (Option ℕ) Refusal) → to_finding (of_finding f) ≡ f
finding_back (Err r) = rw (passed r 105 (omega arith), passed r 106 (omega arith), refusal_back r)
finding_back (Ok (Some n)) = refl
finding_back (Ok None) = refl

next_back : (n : Result (Option Pair) Refusal) → to_next (of_next n) ≡ n
next_back (Err r) = rw (passed r 107 (omega arith), passed r 108 (omega arith), refusal_back r)
next_back (Ok (Some x)) = refl
next_back (Ok None) = refl

check_back : (c : Result (Option ℕ) Refusal) → to_check (of_check c) ≡ c
check_back (Err r) = rw (passed r 109 (omega arith), passed r 110 (omega arith), refusal_back r)
check_back (Ok None) = refl
check_back (Ok (Some n)) = refl

noted_back : (n : Option ℕ) → to_noted (of_noted n) ≡ n
noted_back (Some m) = refl
noted_back None = refl

written_back : (w : Result ℕ Refusal) → to_written (of_written w) ≡ w
written_back (Err r) = rw (passed r 113 (omega arith), refusal_back r)
written_back (Ok n) = refl

-- ---- the number and the answer

module _ {A : Type 0} (of : A → Parts) (to : Parts → A) (back : (x : A) → to (of x) ≡ x) where
  read_back : ReadBack of to
  read_back x s = rw (unpacked_exactly (of x) s) (back x)

pub numbers_exact : NumbersExact
numbers_exact =
    record {
      judgement = read_back of_judgement to_judgement judgement_back;
      observed = read_back of_observed to_observed observed_back;
      observations = read_back of_observations to_observations observations_back;
      finding = read_back of_finding to_finding finding_back;
      next = read_back of_next to_next next_back;
      check = read_back of_check to_check check_back;
      fault = number_checked;
      noted = read_back of_noted to_noted noted_back;
      written = read_back of_written to_written written_back;
    }
