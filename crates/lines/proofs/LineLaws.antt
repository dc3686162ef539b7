-- The lines, put together from their pieces.
use Prim.Native.Nat.{ℕ, ◌+◌, ◌≤◌}
use native.Mathlib.Omega.{arith}
use mathlib.Core.Path.{◌≡◌}
use mathlib.Core.List.{List}
use lib.ListN.{length}
use Rattle.limits.specs.Refusals.{number_of, event_of}
use Rattle.limits.specs.declared.Refusal.{Refusal}
use Rattle.std.specs.Prelude.{Option, Some, None}
use Rattle.appending.specs.Decimal.{spaced, event_width, number_width}
use Rattle.lines.specs.Lines.{spaced_all, line_end, events_word, threads_word, race_word, witness_word, races_word, at_word, refused_word, race_head, at_event, events_line, race_line, races_line, refused_line}
use Rattle.lines.specs.Room.{head_width}
use Rattle.appending.specs.Appended.{Appends, AppendsShort}
use Rattle.appending.proofs.AppendLaws.{appends_nothing, appends_then}

module _ {at : ℕ} {out : List ℕ} where
  pub no-event : (e : Option ℕ) → e ≡ None → at + 9 ≤ length out → AppendsShort 9 (at_event e) at out out at
  unfolding at_event
  no-event e f h = rw f (record { appends = appends_nothing at out (omega arith); short = omega arith })

  module _ {p r : ℕ} {o₁ out' : List ℕ} where
    pub at_event_lem : (e : Option ℕ) (k : ℕ) → e ≡ Some k → Appends at_word at out o₁ p → AppendsShort event_width (spaced k) p o₁ out' r → AppendsShort 9 (at_event e) at out out' r
    unfolding at_event
    at_event_lem e k f a b = rw f (record { appends = appends_then a b.appends; short = let g = a.ends in let h = b.short in omega arith })

    module _ {q : ℕ} {o₂ : List ℕ} where
      pub races_put : (k : ℕ) → Appends races_word at out o₁ p → AppendsShort number_width (spaced k) p o₁ o₂ q → Appends line_end q o₂ out' r → Appends (races_line k) at out out' r
      unfolding races_line
      races_put k a b c = appends_then a (appends_then b.appends c)

      pub race_put : (a b most : ℕ) (ρ : List ℕ) → AppendsShort head_width (race_head a b) at out o₁ p → AppendsShort most (spaced_all ρ) p o₁ o₂ q → Appends line_end q o₂ out' r → Appends (race_line a b ρ) at out out' r
      unfolding race_line
      race_put a b most ρ x y z = appends_then x.appends (appends_then y.appends z)

      module _ {s : ℕ} {o₃ : List ℕ} where
        pub race_head_put : (a b : ℕ) → Appends race_word at out o₁ p → AppendsShort event_width (spaced a) p o₁ o₂ q → AppendsShort event_width (spaced b) q o₂ o₃ s → Appends witness_word s o₃ out' r → AppendsShort head_width (race_head a b) at out out' r
        unfolding race_head
        race_head_put a b w x y z = record {
          appends = appends_then w (appends_then x.appends (appends_then y.appends z));
          short = let e = w.ends in let f = x.short in let g = y.short in let h = z.ends in omega arith;
        }

        pub refused_put : (why : Refusal) (x : ℕ) (e : Option ℕ) → x ≡ number_of why → e ≡ event_of why → Appends refused_word at out o₁ p → AppendsShort number_width (spaced x) p o₁ o₂ q → AppendsShort 9 (at_event e) q o₂ o₃ s → Appends line_end s o₃ out' r → Appends (refused_line why) at out out' r
        unfolding refused_line
        refused_put why x e f g a b c d = rw (← f, ← g) (appends_then a (appends_then b.appends (appends_then c.appends d)))

        pub events_put : (n m : ℕ) {u : ℕ} {o₄ : List ℕ} → Appends events_word at out o₁ p → AppendsShort event_width (spaced n) p o₁ o₂ q → Appends threads_word q o₂ o₃ s → AppendsShort number_width (spaced m) s o₃ o₄ u → Appends line_end u o₄ out' r → Appends (events_line n m) at out out' r
        unfolding events_line
        events_put n m a b c d e = appends_then a (appends_then b.appends (appends_then c (appends_then d.appends e)))
