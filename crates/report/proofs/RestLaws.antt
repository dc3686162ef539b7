-- What is left of a report, line by line.
use Prim.Native.Nat.{ℕ, zero, suc, ◌+◌, ◌-◌, ◌*◌, ◌≤◌, ◌<◌}
use native.Mathlib.Omega.{arith}
use native.Mathlib.Nat.{mul-suc}
use mathlib.Core.Path.{◌≡◌, refl, ◌∙◌, ap}
use mathlib.Core.Logic.{◌≢◌, inl}
use mathlib.Core.Option.{Option, none, some}
use mathlib.Core.List.{List, [], ◌∷◌, ◌++◌, append-nil}
use lib.ListN.{length, length-append, length-reverse}
use lib.Dec.{ltb}
use borrow.Author.Tests.{eq-eqb, ne_eqb, lt-ltb, le-ltb}
use Rattle.model.specs.Trace.{Trace}
use Rattle.model.specs.Lists.{up_to, numbers, pair}
use Rattle.model.specs.Good.{WellFormed, max_events}
use Rattle.model.specs.Listing.{Race, pair_of}
use Rattle.decision.specs.Order.{is_after, rest_after}
use Rattle.decision.specs.Decision.{witness, is_conflicting, race_with, each, pair_on, conflicting_pairs, races, next_race}
use Rattle.model.proofs.Tests.{by_cases}
use Rattle.decision.proofs.OrderExact.{all_after, none_after, first_rest}
use Rattle.decision.proofs.ListingExact.{races_listing}
use Rattle.lines.specs.Lines.{race_line, races_line}
use Rattle.lines.specs.Room.{line_bytes}
use Rattle.report.specs.Report.{first_line}
use Rattle.report.specs.Rest.{Line, max_races, at_start, behind_first, behind_race, races_left, races_from, lines_from, fill}
use Rattle.report.specs.Writing.{Countable}
use Rattle.report.specs.declared.Position.{Position}

-- ---- how many races there may be

each_few : {A B : Type 0} (f : A → List B) (c : ℕ) → ((k : A) → length (f k) ≤ c) → (l : List A) → length (each f l) ≤ c * length l
each_few f c h [] = omega arith
each_few f c h (k ∷ l) =
    let ih = each_few f c h l in
    let g = h k in
    let n = length-append (f k) (each f l) in
    let m = mul-suc c (length l) in
    omega arith

length-up_to : (n : ℕ) → length (up_to n) ≡ n
length-up_to zero = refl
length-up_to (suc n) = ap suc (length-up_to n)

length-numbers : (t : Trace) → length (numbers t) ≡ length t
length-numbers t = length-reverse (up_to (length t)) ∙ length-up_to (length t)

one_race : (a b : ℕ) (o : Option (List ℕ)) → length (race_with a b o) ≤ 1
one_race a b none = omega arith
one_race a b (some ρ) = omega arith

few_races : (t : Trace) → length t ≤ max_events → length (races t) ≤ max_races
unfolding races conflicting_pairs
few_races t h =
    let n = length-numbers t in
    let one : (a b : ℕ) → length (pair_on t a b) ≤ 1 = λ a b. by_cases (is_conflicting t a b) (λ e. rw e (omega arith)) (λ e. rw e (omega arith)) in
    let r = each_few (λ a. each (λ b. pair_on t a b) (numbers t)) max_events (λ a. let m = each_few (λ b. pair_on t a b) 1 (one a) (numbers t) in omega arith) (numbers t) in
    let q = each_few (λ p. race_with p.0 p.1 (witness t p.0 p.1)) 1 (λ p. one_race p.0 p.1 (witness t p.0 p.1)) (conflicting_pairs t) in
    omega arith

-- and no more are left at a position
rest_short : {A : Type 0} (of : A → List ℕ) (k : List ℕ) (l : List A) → length (rest_after of k l) ≤ length l
rest_short of k [] = omega arith
rest_short of k (x ∷ l) = let ih = rest_short of k l in by_cases (is_after k (of x)) (λ e. rw e (omega arith)) (λ e. rw e (omega arith))

pub few_left : (t : Trace) → length t ≤ max_events → (p : Position) → length (races_left t p) ≤ max_races
unfolding races_left
few_left t h p = let r = rest_short pair_of (pair p.lower p.higher) (races t) in let f = few_races t h in omega arith

pub few_countable : (t : Trace) → length t ≤ max_events → (p : Position) → p.count ≤ max_races → Countable t p
unfolding Countable
few_countable t h p c = let f = few_left t h p in omega arith

-- ---- the next line

module _ (t : Trace) (p : Position) where
  -- the first line, and those behind it
  pub from_first : p.next ≡ 0 → lines_from t p ≡ record { bytes = first_line t; behind = some (behind_first p) } ∷ lines_from t (behind_first p)
  unfolding lines_from races_from races_left
  from_first e = rw (eq-eqb p.next 0 e)

  pub from-races : p.next ≢ 0 → lines_from t p ≡ races_from t p
  unfolding lines_from
  from-races e = rw (ne_eqb p.next 0 e)

  pub first_countable : Countable t p → Countable t (behind_first p)
  unfolding Countable races_left
  first_countable c = c

module _ (t : Trace) (w : WellFormed t) where
  pub start_left : races_left t at_start ≡ races t
  unfolding races_left
  start_left = all_after pair_of (pair 0 0) (races t) (λ y m. let v = (((races_listing t w).members y).0 m).conflicting.first.positive in inl (omega arith))

  module _ (p : Position) where
    -- no more races: the last line
    module _ (e : next_race t p.lower p.higher ≡ none) where
      none_left : races_left t p ≡ []
      unfolding races_left next_race
      none_left = none_after pair_of (pair p.lower p.higher) (races t) e

      pub from_end : races_from t p ≡ record { bytes = races_line p.count; behind = none } ∷ []
      unfolding races_from
      from_end = rw none_left

    -- a race: its line, and those behind it
    module _ (x : Race) (e : next_race t p.lower p.higher ≡ some x) where
      abbrev next_position : Position
      next_position = behind_race x (p.count + 1)

      pub one_left : races_left t p ≡ x ∷ races_left t next_position
      unfolding races_left next_race
      one_left = first_rest pair_of (pair p.lower p.higher) (races t) (races_listing t w).sorted x e

      pub from-race : races_from t p ≡ record { bytes = race_line x.lower x.higher x.witness; behind = some next_position } ∷ lines_from t next_position
      unfolding races_from lines_from
      from-race = rw one_left

      pub race_countable : Countable t p → (p.count + 1 < 4294967296) × Countable t next_position
      unfolding Countable
      race_countable c = let n = ap length one_left in (omega arith, omega arith)

-- ---- lines in a buffer

module _ (room : ℕ) (x : Line) (l : List Line) where
  -- behind the first no further line surely fits
  pub fill_stops : room - length x.bytes < line_bytes → fill room (x ∷ l) ≡ (x.bytes, x.behind)
  fill_stops h = rw (lt-ltb (room - length x.bytes) line_bytes h)

  -- or one does
  pub fill_goes : line_bytes ≤ room - length x.bytes
      → fill room (x ∷ l) ≡ (x.bytes ++ (fill (room - length x.bytes) l).0, (fill (room - length x.bytes) l).1)
  fill_goes h = rw (le-ltb (room - length x.bytes) line_bytes h)

-- the last line
pub fill_last : (room : ℕ) (b : List ℕ) → fill room (record { bytes = b; behind = none } ∷ []) ≡ (b, none)
fill_last room b =
    by_cases (ltb (room - length b) line_bytes)
    (λ e. rw e)
    (λ e. rw (e, append-nil))
