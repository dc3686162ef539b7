-- Demand 3 of the answers: a file s, the file s' of an extension of its events, and a pair (a, b).
use Rattle.std.specs.Prelude.{ℕ, ◌≡◌, ◌≢◌, ◌↔◌, Option, Some, None, Result, Ok, Err, List, take}
use Rattle.model.specs.Lists.{TwoThreads}
use Rattle.model.specs.Extension.{Extension, PredictableInExtension}
use Rattle.limits.specs.declared.Refusal.{Refusal}
use Rattle.judging.specs.Judged.{IsGoodFile, events_of}
use Rattle.questions.specs.Verdicts.{answer_verdict, answer_check}

-- s' is a good file, with any preamble that a good file may have, whose events extend those of s
pub record Extends (s s' : List ℕ) : Type 0 where
  pub file : IsGoodFile s'
  pub extension : Extension (events_of s) (events_of s')

-- question 3 asked of s, with any lent list and work area: the answer, and the lent list after it
abbrev pub verdict_on : List ℕ → ℕ → ℕ → List ℕ → List ℕ → Result (Option ℕ) Refusal
verdict_on s a b list area = (answer_verdict s a b list area).0

abbrev pub list_after : List ℕ → ℕ → ℕ → List ℕ → List ℕ → List ℕ
list_after s a b list area = (answer_verdict s a b list area).1

abbrev pub NotRefused : Result (Option ℕ) Refusal → Type 0
NotRefused f = (r : Refusal) → f ≢ Err r

abbrev pub IsReported : Result (Option ℕ) Refusal → Type 0
IsReported f = (n : ℕ) × (f ≡ Ok (Some n))

-- two askings that are not refused, of a file and of an extension's
pub record SameAnswer (s s' : List ℕ) (a b : ℕ) (list area list' area' : List ℕ) : Type 0 where
  -- reported exactly when some correct reordering, of the trace or of any of its extensions, brings both accesses next
  pub exact : IsReported (verdict_on s a b list area) ↔ PredictableInExtension (events_of s) a b
  -- the same verdict, with the same length
  pub same_verdict : verdict_on s' a b list' area' ≡ verdict_on s a b list area
  -- the same numbers in the same order
  pub same_numbers : (n : ℕ) → verdict_on s a b list area ≡ Ok (Some n) → take n (list_after s' a b list' area') ≡ take n (list_after s a b list area)

-- what is claimed of the two files, with any lent lists and work areas
pub record AnswersStayTrue (s s' : List ℕ) (a b : ℕ) (list area list' area' : List ℕ) : Type 0 where
  -- claimed where at most two threads have an event in s
  pub two_threads : TwoThreads (events_of s) → NotRefused (verdict_on s a b list area) → NotRefused (verdict_on s' a b list' area') → SameAnswer s s' a b list area list' area'
  -- claimed for any number of threads: question 5 asked of s' with the reordering that question 3 shows for s
  pub check_says_yes : (n : ℕ) → verdict_on s a b list area ≡ Ok (Some n) → answer_check s' a b (take n (list_after s a b list area)) ≡ Ok None

-- demand 3, whole
abbrev pub DemandThree : Type 0
DemandThree = (s s' : List ℕ) → Extends s s' → (a b : ℕ) (list area list' area' : List ℕ) → AnswersStayTrue s s' a b list area list' area'
