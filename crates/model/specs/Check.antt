-- The check of a proposed list for (a, b) (question 5): yes, or the number of its first fault.
use Rattle.std.specs.Prelude.{ℕ, ◌≡◌, List, [], ◌∷◌, ◌++◌}
use Rattle.model.specs.Trace.{Trace, Valid, read, acquire, kind_of}
use Rattle.model.specs.Good.{Free}
use Rattle.model.specs.Reordering.{Next, Sees, Ready, EnabledAfter}
use Rattle.model.specs.Rows.{Row, row, nothing, numbered, First}

-- the rows of event k after the history h
abbrev pub place_rows : Trace → List ℕ → ℕ → List Row
place_rows t h k =
    row 21 nothing (¬ Valid t k)
    ∷ row 22 nothing (¬ Next t h k)
    ∷ row 23 nothing ((kind_of t k ≡ read) × ¬ Sees t h k)
    ∷ row 24 nothing ((kind_of t k ≡ acquire) × ¬ Free t h k)
    ∷ row 27 nothing (¬ Ready t h k)
    ∷ []

-- of a list after the history h: those of each place, in order
abbrev pub list_rows : Trace → List ℕ → List ℕ → List Row
list_rows t h [] = []
list_rows t h (k ∷ ρ) = place_rows t h k ++ list_rows t (k ∷ h) ρ

-- whether a and b are enabled after the list ρ
abbrev pub enabled_rows : Trace → ℕ → ℕ → List ℕ → List Row
enabled_rows t a b ρ = row 25 nothing (¬ EnabledAfter t ρ a) ∷ row 26 nothing (¬ EnabledAfter t ρ b) ∷ []

-- of the list ρ proposed for (a, b): by place, then those
abbrev pub check_rows : Trace → ℕ → ℕ → List ℕ → List Row
check_rows t a b ρ = list_rows t [] ρ ++ enabled_rows t a b ρ

-- the answer n to the list ρ proposed for (a, b), 0 for yes
pub record CheckAnswer (t : Trace) (a b : ℕ) (ρ : List ℕ) (n : ℕ) : Type 0 where
  pub first : First (check_rows t a b ρ) (numbered n)
