-- The ways through `judge`, and what its callers learn.
use Prim.Native.Nat.{ℕ, ◌≤◌, ◌<◌}
use native.Mathlib.Omega.{arith}
use mathlib.Core.Path.{◌≡◌, sym, ◌∙◌, ap}
use mathlib.Core.Logic.{◌↔◌}
use mathlib.Core.Option.{Option, none, some}
use mathlib.Core.Bool.{Bool}
use mathlib.Core.List.{List, map, ◌++◌}
use lib.ListN.{length}
use Rattle.model.specs.Good.{Good, max_events}
use Rattle.model.specs.Rows.{Row, First, Quiet, Tested, first, either, said}
use Rattle.model.proofs.RowsExact.{both_quiet, tests_first, append-first}
use Rattle.limits.specs.Limits.{event_bytes}
use Rattle.limits.specs.Refusals.{paper, Asked, settled}
use Rattle.limits.proofs.PaperLaws.{asked_exactly}
use Rattle.format.specs.Bytes.{trace_in}
use Rattle.format.specs.Layout.{Placed, layout_refusal, file_of, part_of}
use Rattle.format.proofs.LayoutExact.{layout_none}
use Rattle.format.proofs.PartLaws.{number_of_events, part-trace, read-good, read_refused}
use Rattle.limits.specs.declared.Refusal.{Refusal}
use Rattle.limits.specs.declared.Recording.{Recording}
use Rattle.std.specs.Prelude.{Result, Ok, Err}
use Rattle.judging.specs.Judged.{FileAnswer, file_refusal, refusal_of, rows_of_file, IsGoodFile}
use Rattle.judging.specs.Walk.{effect_of}
use Rattle.limits.specs.declared.Locks.{Locks}
use Rattle.judging.specs.declared.Threads.{Threads}
use Rattle.judging.proofs.JudgedExact.{file_first, quiet_good_file, file_exactly}
use Rattle.judging.proofs.WalkLaws.{Judging, judging_stop, judging_end}

four : 4 ≤ event_bytes
four = omega arith

-- what the first refusal of a file, or that there is none, means
pub meaning : (s : List ℕ) (o : Option Refusal) → (refusal_of s ≡ o) ↔ FileAnswer event_bytes s o
meaning s o = file_exactly event_bytes four s o

pub quiet_file : (s : List ℕ) → Quiet (rows_of_file s) ↔ IsGoodFile s
quiet_file s = quiet_good_file event_bytes four s

-- rows l after those of a file
module _ (s : List ℕ) (l : List Row) (m : List Bool) (n : List Refusal) (t : Tested m l) (e : map paper n ≡ map (λ (r : Row). r.answer) l) where
  pub question_first : First (rows_of_file s ++ l) (said paper (either (refusal_of s) (first m n)))
  question_first = append-first paper (rows_of_file s) l (refusal_of s) (first m n) (file_first event_bytes four s) (tests_first paper m n l t e)

  -- each answer exactly in its case
  pub question_asked : {A : Type 0} {refused : Refusal → A} {Means : A → Type 0} {a : A} → (IsGoodFile s → Quiet l → (x : A) → (a ≡ x) ↔ Means x)
      → (x : A) → (settled refused a (either (refusal_of s) (first m n)) ≡ x) ↔ Asked (rows_of_file s ++ l) refused Means x
  question_asked is = asked_exactly (λ q. let p = both_quiet (rows_of_file s) l q in is ((quiet_file s).0 p.0) p.1) (either (refusal_of s) (first m n)) question_first

-- the same where only the file is refused
pub file_asked : (s : List ℕ) {A : Type 0} {refused : Refusal → A} {Means : A → Type 0} {a : A} → (IsGoodFile s → (x : A) → (a ≡ x) ↔ Means x)
    → (x : A) → (settled refused a (refusal_of s) ≡ x) ↔ Asked (rows_of_file s) refused Means x
file_asked s is = asked_exactly (λ q. is ((quiet_file s).0 q)) (refusal_of s) (file_first event_bytes four s)

-- ---- judging the events of a file that has been read

module _ (s : List ℕ) (t : Recording) (p : Placed s t) (ev : List ℕ) (part : ev ≡ part_of s) where
  pub few_events : length (trace_in ev) ≤ max_events
  few_events = let n = number_of_events event_bytes s p.layout four in let l = p.layout.few in rw (part-trace s ev part) (omega arith)

  clean : layout_refusal event_bytes s ≡ none
  clean = (layout_none s event_bytes).1 p.layout

  module _ {k : ℕ} {locks : Locks} {threads : Threads} (j : Judging (trace_in ev) k locks threads) where
    pub events_refused : k ≤ length (trace_in ev) → (r : Refusal) → Err r ≡ effect_of (trace_in ev) k → Err r ≡ file_of s (refusal_of s)
    unfolding file_refusal
    events_refused h r f = rw (clean, ← part-trace s ev part, judging_stop j h r f)

    pub events-good : length (trace_in ev) < k → Ok t ≡ file_of s (refusal_of s)
    unfolding file_refusal
    events-good h = rw (clean, ← part-trace s ev part, judging_end j h) (ap Ok p.span)

-- ---- judging a file

module _ (s : List ℕ) (f : Result Recording Refusal) where
  module _ (is : f ≡ file_of s (layout_refusal event_bytes s)) where
    pub layout_refused : (r : Refusal) → f ≡ Err r → Err r ≡ file_of s (refusal_of s)
    unfolding file_refusal
    layout_refused r e = rw (read_refused s (layout_refusal event_bytes s) r (sym is ∙ e))

    pub layout_good : (t : Recording) → f ≡ Ok t → Placed s t
    layout_good t e =
        let g = read-good s (layout_refusal event_bytes s) t (sym is ∙ e) in
        record { layout = (layout_none s event_bytes).0 g.0; span = g.1 }

  -- ---- what a good judgement says

  module _ (is : f ≡ file_of s (refusal_of s)) where
    pub judged_refused : (r : Refusal) → f ≡ Err r → refusal_of s ≡ some r
    judged_refused r e = read_refused s (refusal_of s) r (sym is ∙ e)

    module _ (t : Recording) (e : f ≡ Ok t) where
      pub judged_clean : refusal_of s ≡ none
      judged_clean = (read-good s (refusal_of s) t (sym is ∙ e)).0

      pub judged_good : IsGoodFile s
      judged_good = (meaning s none).0 judged_clean

      pub judged_placed : Placed s t
      judged_placed = record { layout = judged_good.layout; span = (read-good s (refusal_of s) t (sym is ∙ e)).1 }

      pub judged_trace : (ev : List ℕ) → ev ≡ part_of s → Good (trace_in ev)
      judged_trace ev part = rw (part-trace s ev part) judged_good.good
