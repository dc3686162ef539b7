-- From place to place: the answers, one after the other, write the report.
use Prim.Native.Nat.{ℕ, zero, suc, pred, ◌+◌, ◌-◌, ◌≤◌, ◌<◌}
use native.Mathlib.Omega.{arith}
use native.Mathlib.Nat.{zero-add}
use mathlib.Core.Path.{◌≡◌, refl, sym, ◌∙◌, ap}
use mathlib.Core.Bool.{◌&&◌}
use mathlib.Core.Option.{Option, none, some, none-ne-some}
use mathlib.Core.List.{List, [], ◌∷◌, ◌++◌, append_assoc, append-nil, Memᴰ}
use lib.ListN.{length, get_or, length-append}
use lib.Dec.{eqb, ltb, leb}
use borrow.Author.Tests.{eqb-true, eqb-false, leb-true, le-leb}
use Rattle.model.specs.Trace.{Trace}
use Rattle.model.specs.Listing.{Race}
use Rattle.model.specs.Good.{Good}
use Rattle.model.proofs.Tests.{by_cases, both, true_both, false_test, test_false}
use Rattle.model.proofs.Lists.{front_taken}
use Rattle.decision.specs.Decision.{races, next_race}
use Rattle.decision.proofs.ListingExact.{next_exactly}
use Rattle.limits.specs.declared.Refusal.{Refusal}
use Rattle.judging.specs.Judged.{events_of, refusal_of}
use Rattle.judging.proofs.FileLaws.{meaning}
use Rattle.lines.specs.Lines.{events_line, race_head, race_line, races_line, refused_line}
use Rattle.lines.specs.Room.{line_bytes}
use Rattle.report.specs.Report.{race_lines, report_by, report}
use Rattle.report.specs.Rest.{Line, joined, after, max_races, at_start, behind_first, behind_race, counted_lines, races_left, races_from, lines_from, lines_by, lines_at, fill}
use Rattle.report.specs.Places.{position_of, place_of, Place, is_place, answered, answer_lines, rest_at, wrote, GoesOn, ZeroExactly, written, WritesReport}
use Rattle.report.specs.Writing.{OnNext}
use Rattle.report.specs.declared.Position.{Position}
use Rattle.report.proofs.RestLaws.{few_left, from_first, from-races, start_left, from_end, from-race, one_left}
use Rattle.report.proofs.PlaceLaws.{place-true, true-place}

-- ---- lines that lead on: the position behind each leads to the lines behind it

module _ (from : Position → List Line) (Is : Position → Type 0) where
  abbrev Leads : List Line → Type 0
  Leads [] = Unit {0}
  Leads (x ∷ l) = (after from x.behind ≡ l) × OnNext Is x.behind × Leads l

  -- what was written of them, and the lines from the position on
  record Split (l : List Line) (w : List ℕ × Option Position) : Type 0 where
    bytes : joined l ≡ w.0 ++ joined (after from w.1)
    is : OnNext Is w.1
    fewer : length (after from w.1) ≤ pred (length l)

  fill_splits : (room : ℕ) (l : List Line) → Leads l → Split l (fill room l)
  fill_splits room [] g = record { bytes = refl; is = tt; fewer = omega arith }
  fill_splits room (x ∷ l) g =
      let ih = fill_splits (room - length x.bytes) l g.2 in
      by_cases (ltb (room - length x.bytes) line_bytes)
      (λ e. rw e (record { bytes = ap (λ (m : List Line). x.bytes ++ joined m) (sym g.0); is = g.1; fewer = let n = ap length g.0 in omega arith }))
      (λ e. rw e (record { bytes = ap (λ (m : List ℕ). x.bytes ++ m) ih.bytes ∙ sym (append_assoc x.bytes _ _); is = ih.is; fewer = let n = ih.fewer in omega arith }))

-- ---- those of a report do

-- a position that a report comes to, with n races in all
record Reached (o : Option Refusal) (t : Trace) (n : ℕ) (q : Position) : Type 0 where
  next : q.next ≤ 1
  lower : q.lower ≤ 65535
  higher : q.higher ≤ 65535
  count : q.count ≤ n
  total : o ≡ none → q.count + length (races_left t q) ≡ n

by_option : {A G : Type 0} (o : Option A) → (o ≡ none → G) → ((x : A) → o ≡ some x → G) → G
by_option none f g = f refl
by_option (some x) f g = g x refl

module _ (t : Trace) (g : Good t) (n : ℕ) where
  race_reached : (p : Position) → Reached none t n p → (x : Race) → next_race t p.lower p.higher ≡ some x → Reached none t n (behind_race x (p.count + 1))
  race_reached p r x e =
      let c = ((next_exactly t g.well_formed p.lower p.higher x).0 e).answer.conflicting in
      let a = c.first.bounded in
      let b = c.second.bounded in
      let s = g.size in
      let l = ap length (one_left t g.well_formed p x e) in
      let k = r.total refl in
      record { next = omega arith; lower = omega arith; higher = omega arith; count = omega arith; total = λ z. omega arith }

  races_lead : (m : ℕ) (p : Position) → length (races_left t p) < m → Reached none t n p → Leads (lines_from t) (Reached none t n) (races_from t p)
  races_lead zero p h r = absurd (omega arith)
  races_lead (suc m) p h r =
      by_option (next_race t p.lower p.higher)
      (λ e. rw (from_end t g.well_formed p e) (refl, tt, tt))
      (λ x e.
      let q = behind_race x (p.count + 1) in
      let l = ap length (one_left t g.well_formed p x e) in
      let k = race_reached p r x e in
      rw (from-race t g.well_formed p x e) (refl, k, rw (from-races t q (λ z. omega arith)) (races_lead m q (omega arith) k)))

  lines_lead : (p : Position) → Reached none t n p → Leads (lines_from t) (Reached none t n) (lines_from t p)
  unfolding races_left
  lines_lead p r =
      let q = behind_first p in
      let k : Reached none t n q = record { next = omega arith; lower = r.lower; higher = r.higher; count = r.count; total = r.total } in
      by_cases (eqb p.next 0)
      (λ e. rw (from_first t p (eqb-true p.next 0 e)) (refl, k, rw (from-races t q (λ z. omega arith)) (races_lead (suc (length (races_left t q))) q (omega arith) k)))
      (λ e. rw (from-races t p (eqb-false p.next 0 e)) (races_lead (suc (length (races_left t p))) p (omega arith) r))

file_leads : (o : Option Refusal) (t : Trace) → (o ≡ none → Good t) → (n : ℕ) (p : Position) → Reached o t n p → Leads (lines_by o t) (Reached o t n) (lines_by o t p)
file_leads none t g n p r = lines_lead t (g refl) n p r
file_leads (some x) t g n p r = (refl, tt, tt)

-- ---- each answer goes on

module _ (s : List ℕ) where
  good : refusal_of s ≡ none → Good (events_of s)
  good e = ((meaning s none).0 e).good

  -- its report comes to this position
  abbrev Comes : ℕ → Position → Type 0
  Comes n q = Reached (refusal_of s) (events_of s) n q

  abbrev filled : Position → List ℕ → List ℕ × Option Position
  filled q out = fill (length out) (lines_at s q)

  splits : (n : ℕ) (q : Position) → Comes n q → (out : List ℕ) → Split (lines_at s) (Comes n) (lines_at s q) (filled q out)
  unfolding lines_at
  splits n q r out = fill_splits (lines_by (refusal_of s) (events_of s)) (Comes n) (length out) (lines_at s q) (file_leads (refusal_of s) (events_of s) good n q r)

  module _ (place out : List ℕ) where
    answer_given : Place place → line_bytes ≤ length out → answer_lines s place out ≡ answered (filled (position_of place) out) out
    unfolding answer_lines
    answer_given p h = rw (true-place place p, le-leb line_bytes (length out) h)

    answer_none : ¬ (Place place × (line_bytes ≤ length out)) → answer_lines s place out ≡ (0, place, out)
    unfolding answer_lines
    answer_none n = rw (false_test (λ e. let b = both (is_place place) (leb line_bytes (length out)) e in (place-true place b.0, leb-true line_bytes (length out) b.1)) n)

    -- where a line can be written, and where not
    by_place : {G : Type 0} → (Place place → line_bytes ≤ length out → G) → (¬ (Place place × (line_bytes ≤ length out)) → G) → G
    by_place f g =
        by_cases (is_place place && leb line_bytes (length out))
        (λ e. let b = both (is_place place) (leb line_bytes (length out)) e in f (place-true place b.0) (leb-true line_bytes (length out) b.1))
        (λ e. g (test_false (λ x. true_both (true-place place x.0) (le-leb line_bytes (length out) x.1)) e))

  -- what is left at a position
  rest_on : (n : ℕ) (o : Option Position) → OnNext (Comes n) o → rest_at s (place_of o) ≡ joined (after (lines_at s) o)
  unfolding rest_at
  rest_on n none r = refl
  rest_on n (some q) r = rw (le-leb q.next 1 r.next)

  rest_place : (place : List ℕ) → Place place → rest_at s place ≡ joined (lines_at s (position_of place))
  unfolding rest_at
  rest_place place p = rw (le-leb (get_or place 0 0) 1 p.next)

  step : (place out : List ℕ) → rest_at s place ≡ wrote (answer_lines s place out) ++ rest_at s (answer_lines s place out).1
  step place out =
      by_place place out
      (λ p h.
      let q = position_of place in
      let n = q.count + length (races_left (events_of s) q) in
      let w = filled q out in
      let x = splits n q (record { next = p.next; lower = p.lower; higher = p.higher; count = omega arith; total = λ e. refl }) out in
      rw (answer_given place out p h, rest_place place p, front_taken w.0 out, rest_on n w.1 x.is) x.bytes)
      (λ n. rw (answer_none place out n))

-- ---- the start

joined_counted : (k : ℕ) (l : List Race) → joined (counted_lines k l) ≡ race_lines l ++ races_line (k + length l)
joined_counted k [] = rw append-nil (ap races_line (omega arith))
joined_counted k (x ∷ l) = let n : k + 1 + length l ≡ k + suc (length l) = omega arith in rw (append_assoc, joined_counted (k + 1) l, n)

all_lines : (o : Option Refusal) (t : Trace) → (o ≡ none → Good t) → joined (lines_by o t at_start) ≡ report_by o t
unfolding lines_from races_from
all_lines (some r) t g = rw append-nil
all_lines none t g = rw (start_left t (g refl).well_formed, joined_counted 0 (races t), zero-add)

start : (s : List ℕ) → joined (lines_at s at_start) ≡ report s
unfolding lines_at report
start s = all_lines (refusal_of s) (events_of s) (good s)

pub goes_on : GoesOn
unfolding rest_at
goes_on = record { start = start; on = step; end = λ s. refl }

-- ---- nothing is written exactly where nothing can be

-- there is a line, and it is not empty
abbrev HasBytes : List Line → Type 0
HasBytes [] = ⊥
HasBytes (x ∷ l) = 0 < length x.bytes

counted_bytes : (k : ℕ) (l : List Race) → HasBytes (counted_lines k l)
unfolding races_line race_head race_line
counted_bytes k [] = omega arith
counted_bytes k (x ∷ l) = omega arith

file_bytes : (o : Option Refusal) (t : Trace) (p : Position) → HasBytes (lines_by o t p)
unfolding events_line refused_line races_from lines_from
file_bytes (some r) t p = omega arith
file_bytes none t p = by_cases (eqb p.next 0) (λ e. rw e (omega arith)) (λ e. rw e (counted_bytes p.count (races_left t p)))

fill_bytes : (room : ℕ) (l : List Line) → HasBytes l → 0 < length (fill room l).0
fill_bytes room [] h = absurd h
fill_bytes room (x ∷ l) h =
    by_cases (ltb (room - length x.bytes) line_bytes)
    (λ e. rw e h)
    (λ e. rw (e, length-append) (omega arith))

pub zero_exactly : ZeroExactly
unfolding lines_at
zero_exactly s place out =
    by_place s place out
    (λ p h.
    let b = fill_bytes (length out) (lines_at s (position_of place)) (file_bytes (refusal_of s) (events_of s) (position_of place)) in
    rw (answer_given s place out p h) (λ z. absurd (omega arith), λ n. absurd (n (p, h))))
    (λ n. rw (answer_none s place out n) (λ z. n, λ m. refl))

-- ---- the whole report

no_line : (l : List Line) → length l ≤ 0 → joined l ≡ []
no_line [] h = refl
no_line (x ∷ l) h = absurd (omega arith)

module _ (s : List ℕ) (n : ℕ) (few : n ≤ max_races) where
  comes_place : (q : Position) → Comes s n q → Place (place_of (some q))
  comes_place q r = let c = r.count in record { next = r.next; lower = r.lower; higher = r.higher; count = omega arith }

  rest_written : (l : List (List ℕ)) → ((out : List ℕ) → Memᴰ out l → line_bytes ≤ length out)
      → (o : Option Position) → OnNext (Comes s n) o → length (after (lines_at s) o) ≤ length l → written s (place_of o) l ≡ joined (after (lines_at s) o)
  rest_written [] f o r h = sym (no_line (after (lines_at s) o) h)
  rest_written (out ∷ l) f none r h = rw (answer_none s (place_of none) out (λ x. let c = x.0.next in omega arith)) (rest_written l (λ z m. f z (Memᴰ.tail m)) none tt (omega arith))
  rest_written (out ∷ l) f (some q) r h =
      let w = filled s q out in
      let x = splits s n q r out in
      let k = x.fewer in
      let ih = rest_written l (λ z m. f z (Memᴰ.tail m)) w.1 x.is (omega arith) in
      rw (answer_given s (place_of (some q)) out (comes_place q r) (f out (Memᴰ.head refl)), front_taken w.0 out, ih) (sym x.bytes)

  from_start : (refusal_of s ≡ none → 0 + length (races_left (events_of s) at_start) ≡ n) → (l : List (List ℕ)) → ((out : List ℕ) → Memᴰ out l → line_bytes ≤ length out)
      → length (lines_at s at_start) ≤ length l → written s (place_of (some at_start)) l ≡ report s
  from_start e l f h = rest_written l f (some at_start) (record { next = omega arith; lower = omega arith; higher = omega arith; count = omega arith; total = e }) h ∙ start s

pub writes_report : WritesReport
writes_report s =
    by_option (refusal_of s)
    (λ e. let t = events_of s in from_start s (length (races_left t at_start)) (few_left t (good s e).size at_start) (λ z. zero-add (length (races_left t at_start))))
    (λ x e. from_start s 0 (omega arith) (λ z. absurd (none-ne-some x (sym z ∙ e))))
