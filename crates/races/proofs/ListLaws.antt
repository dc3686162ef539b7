-- The races after two numbers, one lower event at a time, and the ways through the loops.
use Prim.Native.Nat.{ℕ, ◌+◌, ◌≤◌, ◌<◌, suc}
use native.Mathlib.Omega.{arith}
use native.Mathlib.Numerals.{add-one}
use native.Mathlib.Decide.{dec_lt, ℕ_discrete}
use mathlib.Core.Path.{◌≡◌, refl, sym, ◌∙◌, ap}
use mathlib.Core.Option.{Option, none, some, none-ne-some, some-injective}
use mathlib.Core.List.{List}
use mir.Val.{Fits}
use mir.Syntax.{w16}
use lib.ListN.{length}
use Rattle.std.specs.Prelude.{Option as RustOption, None, Some}
use Rattle.model.specs.Trace.{Trace, Valid}
use Rattle.model.specs.Race.{Conflicting}
use Rattle.model.specs.Lists.{pair}
use Rattle.model.specs.Listing.{Race, RaceOf, pair_of, After}
use Rattle.decision.specs.Decision.{is_conflicting, next_race}
use Rattle.model.proofs.Tests.{false_test, by_cases}
use Rattle.decision.proofs.OrderExact.{by_last}
use Rattle.decision.proofs.ListingExact.{conflicting_exactly, witness_exactly, next_exactly, next-none}
use Rattle.table.specs.declared.judged.Table.{Table}
use Rattle.table.specs.Judged.{events}
use Rattle.table.specs.Conflicts.{Lower}
use Rattle.races.specs.Witness.{WitnessRoom, Shows}
use Rattle.races.proofs.AnswerLaws.{witnessed-none, witnessed-some, handed-none, handed-some}
use Rattle.races.specs.Next.{Hands, witness_of, NoRaces, FirstWith, with_none, with_race, HandsWith}
use Rattle.races.specs.declared.Race.{Race as FoundRace}
use mathlib.Core.Logic.{◌⊎◌, inl, inr, ⊎_elim}
use Rattle.model.specs.Good.{WellFormed}

module _ (t : Trace) (w : WellFormed t) where
  -- two numbers that have a witness are a race
  witnessed-race : (a y : ℕ) (ρ : List ℕ) → witness_of t a y ≡ some ρ → RaceOf t (record { lower = a; higher = y; witness = ρ })
  unfolding witness_of
  witnessed-race a y ρ e =
      by_cases (is_conflicting t a y)
      (λ p.
      let c = (conflicting_exactly t a y).0 p in
      record { conflicting = c; shown = (witness_exactly t w a y c ρ).0 (rw p at e) })
      (λ p. absurd (none-ne-some _ (rw p at e)))

  race-witness : (x : Race) → RaceOf t x → witness_of t x.lower x.higher ≡ some x.witness
  unfolding witness_of
  race-witness x r = rw ((conflicting_exactly t x.lower x.higher).1 r.conflicting) ((witness_exactly t w x.lower x.higher r.conflicting x.witness).1 r.shown)

  module _ (a b : ℕ) where
    -- no race that comes after (a, b) stands before the one found
    least : (y : ℕ) (ρ : List ℕ) → witness_of t a y ≡ some ρ → NoRaces t a b y → (x : Race) → RaceOf t x → After (pair a b) (pair_of x) → (x ≡ record { lower = a; higher = y; witness = ρ }) ⊎ After (pair a y) (pair_of x)
    least y ρ e none_before x r f = ⊎_elim (λ p. inr (inl p)) (λ p. with_lower p.0 (by_last p.1)) f
      where
        with_lower : a ≡ x.lower → b < x.higher → (x ≡ record { lower = a; higher = y; witness = ρ }) ⊎ After (pair a y) (pair_of x)
        with_lower p q = go (dec_lt y x.higher) (ℕ_discrete x.higher y)
          where
            found : witness_of t a x.higher ≡ some x.witness
            found = ap (λ (k : ℕ). witness_of t k x.higher) p ∙ race-witness x r

            go : Dec (y < x.higher) → Dec (x.higher ≡ y) → (x ≡ record { lower = a; higher = y; witness = ρ }) ⊎ After (pair a y) (pair_of x)
            go (yes l) d = inr (inr (p, inl l))
            go (no l) (yes d) =
                let s : x.witness ≡ ρ = some-injective _ _ (sym found ∙ ap (λ (k : ℕ). witness_of t a k) d ∙ e) in
                inl (rw (p, ← d, ← s))
            go (no l) (no d) = absurd (none-ne-some _ (sym (none_before x.higher q (omega arith)) ∙ found))

    pub next-found : (x : Race) → FirstWith t a b (some x) → next_race t a b ≡ some x
    next-found x (with_race y ρ l e none_before) =
        (next_exactly t w a b x).1 (record { answer = witnessed-race a y ρ e; later = inr (refl, inl l); least = least y ρ e none_before })

    -- where a has no more races, those after (a, b) are those after (a + 1, a + 1)
    module _ (none_left : (y : ℕ) → NoRaces t a b y) where
      later_lower : (x : Race) → RaceOf t x → After (pair a b) (pair_of x) → a < x.lower
      later_lower x r f =
          ⊎_elim (λ p. p)
          (λ p.
          let e : witness_of t a x.higher ≡ some x.witness = ap (λ (k : ℕ). witness_of t k x.higher) p.0 ∙ race-witness x r in
          absurd (none-ne-some _ (sym (none_left (suc x.higher) x.higher (by_last p.1) (omega arith)) ∙ e)))
          f

      after_next : (x : Race) → RaceOf t x → After (pair a b) (pair_of x) → After (pair (suc a) (suc a)) (pair_of x)
      after_next x r f =
          let l = later_lower x r f in
          let c = r.conflicting.lower in
          go l c (dec_lt (suc a) x.lower)
        where
          go : a < x.lower → x.lower < x.higher → Dec (suc a < x.lower) → After (pair (suc a) (suc a)) (pair_of x)
          go l c (yes p) = inl p
          go l c (no p) = inr (omega arith, inl (omega arith))

      before-next : (x : Race) → After (pair (suc a) (suc a)) (pair_of x) → After (pair a b) (pair_of x)
      before-next x f = inl (⊎_elim (λ p. omega arith) (λ p. let q = p.0 in omega arith) f)

      pub next_lower : next_race t a b ≡ next_race t (suc a) (suc a)
      next_lower = go (next_race t (suc a) (suc a)) refl
        where
          go : (o : Option Race) → next_race t (suc a) (suc a) ≡ o → next_race t a b ≡ next_race t (suc a) (suc a)
          go none e = (next-none t w a b).1 (λ x r f. (next-none t w (suc a) (suc a)).0 e x r (after_next x r f)) ∙ sym e
          go (some x) e =
              let f = (next_exactly t w (suc a) (suc a) x).0 e in
              (next_exactly t w a b x).1 (record { answer = f.answer; later = before-next x f.later; least = λ y r g. f.least y r (after_next y r g) }) ∙ sym e

    pub next_over : length t < a → next_race t a b ≡ none
    next_over h =
        (next-none t w a b).1
        (λ x r f. let p = r.conflicting.first.bounded in ⊎_elim (λ q. omega arith) (λ q. let e = q.0 in omega arith) f)

-- the lent list is as it was
pub record Same (list₀ list : List ℕ) : Type 0 where
  pub is : list ≡ list₀
  pub long : length list ≡ length list₀

same : {list₀ list : List ℕ} → list ≡ list₀ → Same list₀ list
same e = record { is = e; long = ap length e }

-- ---- the higher events, one after the other

-- those above b and below y make no race with a
pub record Trying (table : Table) (a b : ℕ) (list₀ list : List ℕ) (y : ℕ) : Type 0 where
  pub given : WitnessRoom table list₀
  pub same : Same list₀ list
  pub above : b < y
  pub tried : NoRaces (events table) a b y

pub trying_start : (table : Table) (a b : ℕ) {list : List ℕ} → WitnessRoom table list → Trying table a b list list (b + 1)
trying_start table a b r = record { given = r; same = same refl; above = omega arith; tried = λ z p q. absurd (omega arith) }

-- the same, of an event a that is lower than y
pub record TryingAbove (table : Table) (a b : ℕ) (list₀ list : List ℕ) (y : ℕ) : Type 0 where
  pub trying : Trying table a b list₀ list y
  pub first : Valid (events table) a
  pub lower : a < y

-- numbers that are no conflicting pair have no witness
no-witness : (t : Trace) (a z : ℕ) → (Conflicting t a z → ⊥) → witness_of t a z ≡ none
unfolding witness_of
no-witness t a z n = rw (false_test (conflicting_exactly t a z).0 n)

module _ (table : Table) (a b : ℕ) {list : List ℕ} where
  pub with_start : a < 1 → HandsWith (events table) a b list list None
  with_start h = record {
    race = none;
    first = with_none (λ y z l m. no-witness (events table) a z (λ c. let p = c.first.positive in omega arith));
    hands = record { says = refl; wrote = refl };
  }

  module _ (r : WitnessRoom table list) (l : a ≤ length (events table)) (p : a < 1 → ⊥) where
    pub trying_first : Valid (events table) a
    trying_first = record { positive = omega arith; bounded = l }

    -- m is the higher of a and b, and none of the numbers up to a is a higher event
    pub above_start : (m : ℕ) → a ≤ m → b ≤ m → (b < m → m ≤ a) → TryingAbove table a b list list (m + 1)
    above_start m la lb h =
        let s = trying_start table a b r in
        let up : NoRaces (events table) a b (m + 1) = λ z q k. no-witness (events table) a z (λ c. let o = c.lower in let i = h (omega arith) in omega arith) in
        record { trying = record { given = s.given; same = s.same; above = omega arith; tried = up }; first = trying_first; lower = omega arith }

module _ {table : Table} {a b : ℕ} {list₀ list : List ℕ} {y : ℕ} (p : Trying table a b list₀ list y) where
  module _ (n : ℕ) (en : n ≡ length (events table)) where
    pub higher_fits : y ≤ n → Fits w16 y
    higher_fits h = let s = table.links.good.size in record { fits = omega arith }

    beyond : (z : ℕ) → n < z → witness_of (events table) a z ≡ none
    beyond z h = no-witness (events table) a z (λ c. let b = c.second.bounded in omega arith)

    pub with_no_more : n < y → HandsWith (events table) a b list₀ list None
    with_no_more h = record {
      race = none;
      first = with_none (λ x z l m. go z l (dec_lt z y));
      hands = record { says = refl; wrote = p.same.is };
    }
      where
        go : (z : ℕ) → b < z → Dec (z < y) → witness_of (events table) a z ≡ none
        go z l (yes q) = p.tried z l q
        go z l (no q) = beyond z (omega arith)

  pub trying_lent : WitnessRoom table list
  trying_lent = rw p.same.is p.given

  module _ {list' : List ℕ} (x : RustOption ℕ) (s : Shows (witness_of (events table) a y) list list' x) where
    pub with_found : (n : ℕ) → x ≡ Some n → HandsWith (events table) a b list₀ list' (Some (record { lower = a; higher = y; length = n }))
    with_found n e =
        let w = witnessed-some (witness_of (events table) a y) n (sym e ∙ s.says) in record {
          race = some (record { lower = a; higher = y; witness = w.0 });
          first = with_race y w.0 p.above w.1 p.tried;
          hands = record { says = let f : ℕ → RustOption FoundRace = λ m. Some (record { lower = a; higher = y; length = m }) in ap f w.2; wrote = rw (← p.same.is) (rw w.1 at s.wrote) };
        }

    pub trying_on : x ≡ None → Trying table a b list₀ list' (y + 1)
    trying_on e =
        let w = witnessed-none (witness_of (events table) a y) (sym e ∙ s.says) in
        let l : list' ≡ list = rw w at s.wrote in record {
          given = p.given;
          same = same (l ∙ p.same.is);
          above = let h = p.above in omega arith;
          tried = λ z l m. go z l w (dec_lt z y) m;
        }
      where
        go : (z : ℕ) → b < z → witness_of (events table) a y ≡ none → Dec (z < y) → z < y + 1 → witness_of (events table) a z ≡ none
        go z l w (yes q) m = p.tried z l q
        go z l w (no q) m = let d : z ≡ y = omega arith in rw d w

module _ {table : Table} {a b : ℕ} {list₀ list : List ℕ} {y : ℕ} (p : TryingAbove table a b list₀ list y) where
  module _ (n : ℕ) (en : n ≡ length (events table)) where
    pub trying_lower : y ≤ n → Lower (events table) a y
    trying_lower h = let l = p.lower in record { first = p.first; second = record { positive = omega arith; bounded = omega arith }; lower = l }

  module _ {list' : List ℕ} (x : RustOption ℕ) (s : Shows (witness_of (events table) a y) list list' x) where
    pub above_on : x ≡ None → TryingAbove table a b list₀ list' (y + 1)
    above_on e = record { trying = trying_on p.trying x s e; first = p.first; lower = let h = p.lower in omega arith }

-- ---- the lower events, one after the other

-- the races after (a, b) are those after (x, y)
pub record Walking (table : Table) (a b : ℕ) (list₀ list : List ℕ) (x y : ℕ) : Type 0 where
  pub given : WitnessRoom table list₀
  pub same : Same list₀ list
  pub after : next_race (events table) a b ≡ next_race (events table) x y

pub walking_start : (table : Table) (a b : ℕ) {list : List ℕ} → WitnessRoom table list → Walking table a b list list a b
walking_start table a b r = record { given = r; same = same refl; after = refl }

none_with : (t : Trace) (a b : ℕ) (o : Option Race) → o ≡ none → FirstWith t a b o → (y : ℕ) → NoRaces t a b y
none_with t a b o e (with_none f) = f
none_with t a b o e (with_race y ρ l w f) = let z : ◌≡◌ {A = ℕ} 0 1 = cc in absurd (omega arith)

module _ {table : Table} {a b : ℕ} {list₀ list : List ℕ} {x y : ℕ} (p : Walking table a b list₀ list x y) where
  module _ (n : ℕ) (en : n ≡ length (events table)) where
    pub lower_fits : x ≤ n → Fits w16 x
    lower_fits h = let s = table.links.good.size in record { fits = omega arith }

    pub next_fits : x ≤ n → Fits w16 (x + 1)
    next_fits h = let s = table.links.good.size in record { fits = omega arith }

    pub no_more : n < x → Hands (next_race (events table) a b) list₀ list None
    no_more h =
        let l : length (events table) < x = omega arith in
        let e = p.after ∙ next_over (events table) table.links.good.well_formed x y l in
        rw e (record { says = refl; wrote = p.same.is })

  pub walking_lent : WitnessRoom table list
  walking_lent = rw p.same.is p.given

  module _ {list' : List ℕ} (r : RustOption FoundRace) (s : HandsWith (events table) x y list list' r) where
    pub race-found : (o : FoundRace) → r ≡ Some o → Hands (next_race (events table) a b) list₀ list' (Some o)
    race-found o e =
        let z = handed-some s.race o (sym e ∙ s.hands.says) in
        let f : FirstWith (events table) x y (some z.0) = rw z.1 at s.first in
        let g = p.after ∙ next-found (events table) table.links.good.well_formed x y z.0 f ∙ sym z.1 in
        rw g (record { says = sym e ∙ s.hands.says; wrote = rw (← p.same.is) s.hands.wrote })

    pub walking_on : r ≡ None → Walking table a b list₀ list' (x + 1) (x + 1)
    walking_on e =
        let z = handed-none s.race (sym e ∙ s.hands.says) in
        let l : list' ≡ list = rw z at s.hands.wrote in record {
          given = p.given;
          same = same (l ∙ p.same.is);
          after = rw (add-one x) (p.after ∙ next_lower (events table) table.links.good.well_formed x y (none_with (events table) x y s.race z s.first));
        }
