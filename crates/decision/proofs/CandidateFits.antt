-- The order of a candidate fits the rules.
use Prim.Native.Nat.{ℕ}
use mathlib.Core.Path.{◌≡◌, sym, ◌∙◌}
use mathlib.Core.Logic.{⊎_elim}
use mathlib.Core.List.{List, reverse}
use Rattle.model.specs.Trace.{Trace, write, object_of, does}
use Rattle.model.specs.Lists.{◌∈◌}
use Rattle.model.specs.Observed.{last_write}
use Rattle.model.specs.Good.{WellFormed}
use Rattle.model.specs.Cone.{InCone, matching}
use Rattle.model.specs.Race.{Candidate}
use Rattle.model.proofs.Lists.{mem_reverse, reverse_mem, none-nearest}
use Rattle.model.proofs.Histories.{Legal, to_legal, legal_valid, last_write_mem}
use Rattle.decision.proofs.Holds.{released}
use Rattle.decision.proofs.InOrder.{Down, nearest_top, place, Sooner, place_down, Stood, stood}
use Rattle.decision.proofs.Fits.{Fits}

module _ (t : Trace) (R : List ℕ) (m : ℕ) (w : WellFormed t) (ρ : List ℕ) (c : Candidate t R m ρ) where
  pub legal : Legal t (reverse ρ)
  legal = to_legal t ρ c.correct

  abbrev pub Soon : ℕ → ℕ → Type 0
  Soon = Sooner (reverse ρ)

  pub soon_down : Down Soon (reverse ρ)
  soon_down = place_down t (reverse ρ) legal

  pub mem : (k : ℕ) → InCone t R k → k ∈ reverse ρ
  mem k x = reverse_mem ((c.members k).1 x)

  pub of : (k : ℕ) → k ∈ reverse ρ → InCone t R k
  of k n = (c.members k).0 (mem_reverse k ρ n)

  at_place : (k : ℕ) → InCone t R k → Stood t (place (reverse ρ)) (reverse ρ) k
  at_place k x = stood t (place (reverse ρ)) (reverse ρ) legal soon_down k (mem k x)

  pub candidate_fits : Fits t R Soon
  candidate_fits = record {
    awaiting = λ j k x a. let s = at_place k x in s.before_it j (s.step.enabled.ready j a);
    observing = λ k o x r e ne.
        let s = at_place k x in
        let d : last_write t (object_of t k) s.past ≡ o = s.step.sees r ∙ e in
        s.before_it o (rw d at (last_write_mem t (object_of t k) s.past (λ z. ne (sym d ∙ z))));
    start = λ k v x r o y e q.
        let s = at_place k x in
        none-nearest (does t write (object_of t k)) s.past (λ i n. (legal_valid t s.past s.legal i n).positive) (s.step.sees r ∙ o) v (s.in_past v (mem v y) q) e;
    between = λ k o v r q.
        let s = at_place k r.reader in
        let e : last_write t (object_of t k) s.past ≡ o = s.step.sees r.reads ∙ r.observes in
        ⊎_elim
        (λ p. absurd (r.other (p ∙ e)))
        (λ p. rw e at p)
        (nearest_top Soon (does t write (object_of t k)) s.past s.down v (s.in_past v (mem v r.begun) q) r.writes);
    sections = λ a b oa ob x y e q.
        let s = at_place b y in
        let n = released t w s.past s.legal b s.step ob a oa e (s.in_past a (mem a x) q) in
        (of (matching t a) (s.inside (matching t a) n), s.before_it (matching t a) n);
  }
