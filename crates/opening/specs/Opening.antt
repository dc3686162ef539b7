-- A file opened: its table, or its refusal.
use Rattle.std.specs.Prelude.{ℕ, ◌≡◌, List, Result, Ok, Err}
use Rattle.std.proofs.Math.Option.{Option, none, some}
use Rattle.model.specs.Trace.{Trace}
use Rattle.limits.specs.declared.Refusal.{Refusal}
use Rattle.opening.specs.Filling.{Built}

-- by the file's refusal, if there is one, and its events t: a refusal leaves the area as it was, and the table of a good file is in its front; gives how many words it has
pub data Opens (f : Option Refusal) (t : Trace) (area area' : List ℕ) : Result ℕ Refusal → Type 0 where
  opens_refused : {r : Refusal} → f ≡ some r → area' ≡ area → Opens f t area area' (Err r)
  opens_table : {n : ℕ} → f ≡ none → Built t n area' → Opens f t area area' (Ok n)
