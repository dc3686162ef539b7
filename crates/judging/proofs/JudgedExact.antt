-- A file's refusal is given exactly in its case and order, and none exactly when the file is good.
use Prim.Native.Nat.{ℕ, ◌≤◌}
use native.Mathlib.Omega.{arith}
use mathlib.Core.Path.{◌≡◌, refl}
use mathlib.Core.Logic.Iff
use mathlib.Core.Logic.{◌↔◌}
use mathlib.Core.Option.{Option, none, some}
use mathlib.Core.List.{List, [], ◌∷◌}
use Rattle.model.specs.Trace.{Trace}
use Rattle.model.specs.Lists.{numbers}
use Rattle.model.specs.Rows.{First, Quiet, said, rows_of}
use Rattle.model.specs.Refusals.{event_rows, trace_rows}
use Rattle.decision.specs.Refusals.{event_tests}
use Rattle.model.proofs.RowsExact.{none_quiet, quiet_none, quiet_both, both_quiet, tests_first, append-first, first_exactly}
use Rattle.decision.proofs.RefusalsExact.{GoodEvent, event_tested, good_quiet, quiet_good, good_exactly}
use Rattle.limits.specs.Refusals.{paper, event_refusals}
use Rattle.limits.proofs.PaperLaws.{event_numbers, paper_one, refused_exactly, quiet_exactly}
use Rattle.format.specs.Layout.{layout_rows, layout_refusal, events}
use Rattle.format.proofs.LayoutExact.{layout_exactly, layout_quiet}
use Rattle.format.proofs.PartLaws.{number_of_events}
use Rattle.limits.specs.declared.Refusal.{Refusal}
use Rattle.judging.specs.Judged.{GoodFile, FileAnswer, file_rows, event_refusal, refusal_in, file_refusal}

-- ---- events

module _ (t : Trace) where
  event_first : (k : ℕ) → First (event_rows t k) (said paper (event_refusal t k))
  unfolding event_refusal
  event_first k = tests_first paper (event_tests t k) (event_refusals k) (event_rows t k) (event_tested t k) (event_numbers t k)

  pub event_exactly : (k : ℕ) (o : Option Refusal) → (event_refusal t k ≡ o) ↔ First (event_rows t k) (said paper o)
  event_exactly k o = first_exactly paper paper_one (event_rows t k) (event_refusal t k) (event_first k) o

  pub good_clean : (k : ℕ) → GoodEvent t k → event_refusal t k ≡ none
  good_clean k g = (event_exactly k none).1 (quiet_none (event_rows t k) (good_quiet t k g))

  pub clean_good : (k : ℕ) → event_refusal t k ≡ none → GoodEvent t k
  clean_good k e = quiet_good t k (none_quiet (event_rows t k) ((event_exactly k none).0 e))

  list_first : (l : List ℕ) → First (rows_of (event_rows t) l) (said paper (refusal_in t l))
  unfolding refusal_in
  list_first [] = refl
  list_first (k ∷ l) = append-first paper (event_rows t k) (rows_of (event_rows t) l) (event_refusal t k) (refusal_in t l) (event_first k) (list_first l)

  -- refusals 5 to 7, 15 to 17, 8 and 9, each exactly in its case and in this order
  pub events_exactly : (o : Option Refusal) → (refusal_in t (numbers t) ≡ o) ↔ First (trace_rows t) (said paper o)
  events_exactly o = first_exactly paper paper_one (trace_rows t) (refusal_in t (numbers t)) (list_first (numbers t)) o

-- ---- files

module _ (z : ℕ) (h : 4 ≤ z) (s : List ℕ) where
  pub file_first : First (file_rows z s) (said paper (file_refusal z s))
  unfolding file_refusal
  file_first =
      let t = events z s in
      append-first paper (layout_rows z s) (trace_rows t) (layout_refusal z s) (refusal_in t (numbers t)) ((layout_exactly s z (layout_refusal z s)).0 refl) (list_first t (numbers t))

  -- no row is the case exactly when the file is good
  pub quiet_good_file : Quiet (file_rows z s) ↔ GoodFile z s
  quiet_good_file =
      let t = events z s in (
        (λ y.
            let q = both_quiet (layout_rows z s) (trace_rows t) y in
            let l = (layout_quiet s z).0 q.0 in
            let n = number_of_events z s l h in
            let w = l.few in
            record { layout = l; good = (good_exactly t (omega arith)).0 (quiet_none (trace_rows t) q.1) }),
        (λ g. quiet_both (layout_rows z s) (trace_rows t) ((layout_quiet s z).1 g.layout) (none_quiet (trace_rows t) ((good_exactly t g.good.size).1 g.good))),
      )

  -- each answer exactly in its case
  pub file_exactly : (o : Option Refusal) → (file_refusal z s ≡ o) ↔ FileAnswer z s o
  file_exactly (some r) = refused_exactly (file_rows z s) (file_refusal z s) file_first r
  file_exactly none = Iff.trans (quiet_exactly (file_rows z s) (file_refusal z s) file_first) quiet_good_file
