-- The worked examples, proved by one computed test; and so of the rules.
use Prim.Native.Nat.{ℕ}
use native.Mathlib.Omega.{arith}
use mathlib.Core.Path.{◌≡◌, refl, sym, ◌∙◌, ap}
use mathlib.Core.Bool.{cond}
use mathlib.Core.Option.{Option, none, some}
use mathlib.Core.List.{List, [], ◌∷◌, map, head-eq_of_cons-eq, tail-eq_of_cons-eq, Memᴰ}
use lib.ListN.{length}
use Rattle.model.specs.Trace.{Trace, read, write, acquire, release, does}
use Rattle.model.specs.Lists.{listed, just, all_but, threads, pair}
use Rattle.model.specs.Observed.{observed}
use Rattle.model.specs.Sections.{own_depth, is_outermost, is_last}
use Rattle.model.specs.Cone.{gives_back, matching}
use Rattle.decision.specs.Check.{same_list, is_valid, is_next, is_seen, is_free, is_awaited, is_ready, place_tests, place_fault, fault_from, is_correct, is_enabled, check}
use Rattle.decision.specs.Refusals.{is_forked, is_joined, is_begun, is_self, is_second, event_tests, is_good}
use Rattle.decision.specs.Rounds.{is_brought, rounds, is_earlier, is_preceding, is_rooted, is_observed, is_exempt, is_closing, brings, cone}
use Rattle.decision.specs.Stairs.{is_opening, is_alike, is_within, is_overwriting, is_read_over, is_unended, is_bound, is_kept_apart, is_rising, is_forced, raised, settled, least_stairs, climb, least_merge}
use Rattle.decision.specs.Decision.{shown_for, is_access, is_conflicting, conflicting_pairs, races}
use Rattle.model.specs.Examples.{Example, Proposal, HoldsOf, proposal, examples}
use Rattle.model.proofs.Tests.{by_cases}
use Rattle.decision.proofs.CheckExact.{check_exactly}
use Rattle.decision.proofs.ListingExact.{races_listing}
use Rattle.decision.proofs.RefusalsExact.{is_good_exactly}

-- an example with what the definitions say of its trace, where that is good
abbrev checked : Example → Proposal → Proposal
checked e p = proposal p.lower p.higher p.list (check e.trace p.lower p.higher p.list)

abbrev computed : Example → Option Example
computed e =
    let x : Example = record { trace = e.trace; thread_count = length (threads e.trace); races = races e.trace; proposals = map (checked e) e.proposals } in
    cond (is_good e.trace) (some x) none

-- the one test
pub examples_hold : map computed examples ≡ map some examples
unfolding does listed just all_but threads observed own_depth is_outermost is_last gives_back matching same_list is_valid is_next is_seen is_free is_awaited is_ready place_tests place_fault fault_from is_correct is_enabled check
    is_forked is_joined is_begun is_self is_second event_tests is_good
    is_brought rounds is_earlier is_preceding is_rooted is_observed is_exempt is_closing brings cone is_opening is_alike is_within is_overwriting is_read_over is_unended is_bound is_kept_apart is_rising is_forced raised settled least_stairs climb least_merge
    shown_for is_access is_conflicting conflicting_pairs races
examples_hold = refl

-- ---- the other thread moved: what the least staircase has is asked for, and what it must not have too

-- T0: 1 acq l, 2 w(x), 3 w(z), 4 rel l; T1: 5 acq l, 6 r(x), 7 rel l, 8 r(z)
abbrev under_lock : Trace
under_lock =
    record { thread = 0; kind = acquire; object = 0 }
    ∷ record { thread = 0; kind = write; object = 0 }
    ∷ record { thread = 0; kind = write; object = 2 }
    ∷ record { thread = 0; kind = release; object = 0 }
    ∷ record { thread = 1; kind = acquire; object = 0 }
    ∷ record { thread = 1; kind = read; object = 0 }
    ∷ record { thread = 1; kind = release; object = 0 }
    ∷ record { thread = 1; kind = read; object = 2 }
    ∷ []

-- with thread 1 moved, the section of T1 must stand before that of T0, which has no end; but 6 observed 2, so it must not: there is no reordering
pub upper_bounds_asked : (least_merge under_lock (5 ∷ 6 ∷ 7 ∷ []) (1 ∷ 2 ∷ []) ≡ 5 ∷ 6 ∷ 7 ∷ 1 ∷ 2 ∷ []) × (shown_for under_lock (pair 3 8) 1 ≡ none)
unfolding does listed just all_but observed own_depth is_outermost is_last gives_back matching same_list is_valid is_next is_seen is_free is_awaited is_ready place_tests place_fault fault_from is_correct
    is_brought rounds is_earlier is_preceding is_rooted is_observed is_exempt is_closing brings cone
    is_opening is_alike is_within is_overwriting is_read_over is_unended is_bound is_kept_apart is_rising is_forced raised settled least_stairs climb least_merge shown_for
upper_bounds_asked = (refl, refl)

-- ---- the table's rows, one by one

map_same : {A B : Type 0} (f g : A → B) {x : A} {l : List A} → Memᴰ x l → map f l ≡ map g l → f x ≡ g x
map_same f g {x} (Memᴰ.head {x = y} {xs = l} e) q = ap f e ∙ head-eq_of_cons-eq q ∙ ap g (sym e)
map_same f g (Memᴰ.tail m) q = map_same f g m (tail-eq_of_cons-eq q)

map_id : {A : Type 0} (l : List A) → map (λ (x : A). x) l ≡ l
map_id [] = refl
map_id (x ∷ l) = ap (λ r. x ∷ r) (map_id l)

-- each example is good, and its thread count, races and answers are what the rules say
pub examples_proved : (e : Example) → Memᴰ e examples → HoldsOf e
examples_proved e m =
    by_cases (is_good e.trace)
    (λ g.
    let d : ◌≡◌ {A = Option Example} (some (record { trace = e.trace; thread_count = length (threads e.trace); races = races e.trace; proposals = map (checked e) e.proposals })) (some e) = rw g at q in
    let n : length (threads e.trace) ≡ e.thread_count = cc in
    let r : races e.trace ≡ e.races = cc in
    let a : map (checked e) e.proposals ≡ e.proposals = cc in
    let good = (is_good_exactly e.trace).0 g in record {
      good = good;
      count = n;
      listing = rw r at (races_listing e.trace good.well_formed);
      answers = λ p i. (check_exactly e.trace p.lower p.higher p.list p.answer).0 (ap (λ (x : Proposal). x.answer) (map_same (checked e) (λ x. x) i (a ∙ sym (map_id e.proposals))));
    })
    (λ g. let d : ◌≡◌ {A = Option Example} none (some e) = rw g at q in let z : ◌≡◌ {A = ℕ} 0 1 = cc in absurd (omega arith))
  where
    q : computed e ≡ some e
    q = map_same computed some m examples_hold
