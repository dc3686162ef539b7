-- The executable decision, last part: the witness of a pair, the listing, and the first race after two given numbers.
use Rattle.std.specs.Prelude.{ℕ, Bool, cond, ◌&&◌, ◌||◌, not, List, [], ◌∷◌, ◌++◌, eqb, ltb}
use Rattle.std.proofs.Math.Option.{Option, none, some}
use Rattle.model.specs.Trace.{Trace, read, write, thread_of, kind_of, object_of}
use Rattle.model.specs.Lists.{own, only, all_but, any_in, listed, numbers, pair}
use Rattle.decision.specs.Check.{is_valid, is_correct}
use Rattle.model.specs.Listing.{Race, pair_of}
use Rattle.decision.specs.Rounds.{cone}
use Rattle.decision.specs.Stairs.{least_merge}
use Rattle.decision.specs.Order.{first_after}

-- the reordering shown for the roots R with thread m as the moved thread, if there is one
unfoldable pub shown_for : Trace → List ℕ → ℕ → Option (List ℕ)
shown_for t R m =
    let c = cone t R in
    let P = own t m c in
    let Q = only t (all_but m) c in
    let ρ = least_merge t P Q in
    cond (any_in (λ r. listed r c) R) none (cond (is_correct t ρ) (some ρ) none)

-- question 3 on a conflicting pair: its witness, or not reported
abbrev pub witness : Trace → ℕ → ℕ → Option (List ℕ)
witness t a b = shown_for t (pair a b) (thread_of t a)

unfoldable pub is_access : Trace → ℕ → Bool
is_access t k = eqb (kind_of t k) read || eqb (kind_of t k) write

unfoldable pub is_conflicting : Trace → ℕ → ℕ → Bool
is_conflicting t a b =
    is_valid t a && (is_valid t b && (ltb a b && (not (eqb (thread_of t a) (thread_of t b)) && (is_access t a && (is_access t b
    && (eqb (object_of t a) (object_of t b) && (eqb (kind_of t a) write || eqb (kind_of t b) write)))))))

-- the race on (a, b), in a list: none or one
abbrev pub race_with : ℕ → ℕ → Option (List ℕ) → List Race
race_with a b none = []
race_with a b (some ρ) = record { lower = a; higher = b; witness = ρ } ∷ []

-- a list for each member, one after the other
abbrev pub each : {A B : Type 0} → (A → List B) → List A → List B
each f [] = []
each f (k ∷ l) = f k ++ each f l

-- the conflicting pairs in question 4's order: by lower event, then by higher
abbrev pub pair_on : Trace → ℕ → ℕ → List (ℕ × ℕ)
pair_on t a b = cond (is_conflicting t a b) ((a, b) ∷ []) []

unfoldable pub conflicting_pairs : Trace → List (ℕ × ℕ)
conflicting_pairs t = each (λ a. each (λ b. pair_on t a b) (numbers t)) (numbers t)

-- all races of a trace
unfoldable pub races : Trace → List Race
races t = each (λ p. race_with p.0 p.1 (witness t p.0 p.1)) (conflicting_pairs t)

-- question 4: the first race after (a, b)
unfoldable pub next_race : Trace → ℕ → ℕ → Option Race
next_race t a b = first_after pair_of (pair a b) (races t)
