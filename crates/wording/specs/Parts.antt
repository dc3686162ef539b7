-- What the parts of a line give.
use Rattle.std.specs.Prelude.{ℕ, zero, suc, ◌+◌, ◌-◌, ◌*◌, ◌<◌, ◌≡◌, ◌≢◌, Bool, true, false, cond, List, [], ◌∷◌, ◌++◌, eqb, ltb, Option, Some, None}
use Rattle.model.specs.Trace.{Event}
use Rattle.limits.specs.Kinds.{kind_number}
use Rattle.limits.specs.declared.Kind.{Kind}
use Rattle.appending.specs.Decimal.{decimal}
use Rattle.wording.specs.Lines.{kind_word, IsNote, IsEvent}
use Rattle.wording.specs.declared.Line.{Line}
use Rattle.wording.specs.declared.Line.TheVariants.{Event as EventOf}

-- is it a note line?
pub data SaysNote (line : List ℕ) : Bool → Type 0 where
  is_note : IsNote line → SaysNote line true
  no_note : ¬ IsNote line → SaysNote line false

-- the first place of a byte, or the end
abbrev pub first_at : ℕ → List ℕ → ℕ
first_at stop [] = zero
first_at stop (b ∷ s) = cond (eqb b stop) zero (suc (first_at stop s))

-- the number that digits stand for, v having been read before them; none where a byte is no digit or the number is too large
abbrev pub digits_from : ℕ → List ℕ → Option ℕ
digits_from v [] = Some v
digits_from v (d ∷ s) =
    cond (ltb d 48) None
    (cond (ltb 57 d) None
    (cond (ltb 65535 (v * 10 + (d - 48))) None
    (digits_from (v * 10 + (d - 48)) s)))

-- the bytes are this number in decimal, or no number in decimal that an object can have
pub data ReadsNumber (s : List ℕ) : Option ℕ → Type 0 where
  value : {n : ℕ} → n < 65536 → s ≡ decimal n → ReadsNumber s (Some n)
  absent : ((n : ℕ) → n < 65536 → s ≢ decimal n) → ReadsNumber s None

-- the word of this kind, or of none
pub data ReadsKind (s : List ℕ) : Option Kind → Type 0 where
  kind : {k : Kind} → s ≡ kind_word (kind_number k) → ReadsKind s (Some k)
  no_kind : ((k : Kind) → s ≢ kind_word (kind_number k)) → ReadsKind s None

-- an event line from its kind on
pub record IsAction (s : List ℕ) (k : Kind) (o : ℕ) : Type 0 where
  pub object_fits : o < 65536
  pub these : s ≡ kind_word (kind_number k) ++ (32 ∷ decimal o)

-- what is there, after the thread t
pub data ReadsAction (t : ℕ) (s : List ℕ) : Option Line → Type 0 where
  action : {k : Kind} {o : ℕ} → IsAction s k o → ReadsAction t s (Some (EventOf t k o))
  no_action : ((k : Kind) (o : ℕ) → ¬ IsAction s k o) → ReadsAction t s None

-- the line of this event, or of none
pub data ReadsEvent (line : List ℕ) : Option Line → Type 0 where
  is_event : {t : ℕ} {k : Kind} {o : ℕ} → IsEvent line (record { thread = t; kind = kind_number k; object = o }) → ReadsEvent line (Some (EventOf t k o))
  no-event : ((e : Event) → ¬ IsEvent line e) → ReadsEvent line None
