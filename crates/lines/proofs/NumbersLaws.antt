-- Numbers, one after the other.
use Prim.Native.Nat.{ℕ, ◌+◌, ◌*◌, ◌≤◌, ◌<◌}
use native.Mathlib.Omega.{arith}
use native.Mathlib.Numerals.{add-one}
use mathlib.Core.Path.{◌≡◌, refl, sym}
use mathlib.Core.List.{List, [], ◌∷◌, ◌++◌, append_assoc, append-nil}
use lib.ListN.{length, take, get_or}
use lib.Seq.{take-suc, take_all}
use Rattle.appending.specs.Decimal.{spaced, event_width}
use Rattle.lines.specs.Lines.{spaced_all}
use Rattle.appending.specs.Appended.{AppendsShort}
use Rattle.appending.proofs.AppendLaws.{appends_nothing, appends_then}

spaced-append : (l m : List ℕ) → spaced_all (l ++ m) ≡ spaced_all l ++ spaced_all m
spaced-append [] m = refl
spaced-append (k ∷ l) m = rw (spaced-append l m) (sym (append_assoc (spaced k) (spaced_all l) (spaced_all m)))

spaced_more : (list : List ℕ) (i : ℕ) → i < length list → spaced_all (take (i + 1) list) ≡ spaced_all (take i list) ++ spaced (get_or list i 0)
spaced_more list i h = rw (add-one i, take-suc list i 0 h, spaced-append (take i list) (get_or list i 0 ∷ []), append-nil (spaced (get_or list i 0)))

-- the first i numbers are written
abbrev pub Begun : List ℕ → ℕ → List ℕ → List ℕ → ℕ → ℕ → Type 0
Begun list at out₀ out end i = AppendsShort (event_width * i) (spaced_all (take i list)) at out₀ out end

pub events-start : (list : List ℕ) (at : ℕ) (out : List ℕ) → at ≤ length out → Begun list at out out at 0
events-start list at out h = record { appends = appends_nothing at out h; short = omega arith }

module _ (list : List ℕ) (i : ℕ) {at : ℕ} {out₀ out : List ℕ} {end : ℕ} (w : Begun list at out₀ out end i) where
  pub events_on : i < length list → {out' : List ℕ} {r : ℕ} → AppendsShort event_width (spaced (get_or list i 0)) end out out' r → Begun list at out₀ out' r (i + 1)
  events_on h b = record { appends = rw (spaced_more list i h) (appends_then w.appends b.appends); short = let e = w.short in let f = b.short in omega arith }

  pub events_over : i ≡ length list → AppendsShort (event_width * length list) (spaced_all list) at out₀ out end
  events_over e = rw (take_all (length list) list (omega arith)) at (rw e at w)
