-- Demand 3 of the answers, whole: one theorem over a trace, a pair and the whole list of added events.
use Prim.Native.Nat.{ℕ}
use mathlib.Core.Path.{◌≡◌, refl, sym, ◌∙◌}
use mathlib.Core.Logic.{◌↔◌}
use mathlib.Core.Option.{Option, none, some}
use mathlib.Core.List.{List}
use Rattle.model.specs.Trace.{Trace}
use Rattle.model.specs.Lists.{TwoThreads}
use Rattle.model.specs.Good.{Good}
use Rattle.model.specs.Race.{Conflicting, Witness}
use Rattle.model.specs.Extension.{Extension}
use Rattle.model.specs.StaysTrue.{StaysTrue}
use Rattle.decision.specs.Check.{check}
use Rattle.decision.specs.Decision.{witness}
use Rattle.decision.specs.StaysTrue.{DemandThree}
use Rattle.model.proofs.Agree.{extended_conflicting}
use Rattle.model.proofs.StaysTrue.{stays_true}
use Rattle.decision.proofs.CheckExact.{yes_exactly}
use Rattle.decision.proofs.ListingExact.{witness_exactly, reported-answered}

module _ (t t' : Trace) (g : Good t) (long : Extension t t') (a b : ℕ) (c : Conflicting t a b) where
  stays : StaysTrue t t' a b
  stays = stays_true t t' g long a b c

  shown : (ρ : List ℕ) → (witness t a b ≡ some ρ) ↔ Witness t a b ρ
  shown ρ = witness_exactly t g.well_formed a b c ρ

  shown' : (ρ : List ℕ) → (witness t' a b ≡ some ρ) ↔ Witness t' a b ρ
  shown' ρ = witness_exactly t' long.good.well_formed a b (extended_conflicting t t' long a b c) ρ

  accepted : (ρ : List ℕ) → Witness t a b ρ → check t' a b ρ ≡ 0
  accepted ρ s = (yes_exactly t' a b ρ).1 (stays.witness_stays ρ s)

  same_answer : TwoThreads t → witness t' a b ≡ witness t a b
  same_answer two = go (witness t a b) refl (witness t' a b) refl
    where
      go : (o : Option (List ℕ)) → witness t a b ≡ o → (o' : Option (List ℕ)) → witness t' a b ≡ o' → witness t' a b ≡ witness t a b
      go (some ρ) e o' e' = (shown' ρ).1 (((stays.two_threads two).same_witness ρ).0 ((shown ρ).0 e)) ∙ sym e
      go none e none e' = e' ∙ sym e
      go none e (some ρ) e' = e' ∙ sym ((shown ρ).1 (((stays.two_threads two).same_witness ρ).1 ((shown' ρ).0 e')))

pub answers_stay : DemandThree
answers_stay t t' g long a b c =
    let s = stays t t' g long a b c in
    let y = reported-answered t g.well_formed a b c in record {
      stays = s;
      two_threads = λ two. let x = (s.two_threads two).exact in record { exact_answer = ((λ r. x.0 (y.1 r)), (λ p. y.0 (x.1 p))); same_answer = same_answer t t' g long a b c two };
      witness_accepted = accepted t t' g long a b c;
      answer_stays = λ ρ e. let w = (shown t t' g long a b c ρ).0 e in (s.witness_stays ρ w, accepted t t' g long a b c ρ w);
    }
