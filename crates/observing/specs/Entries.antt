-- All of question 2's answers on the events of a good file at once: entry k of a lent list is the answer for number k.
use Rattle.std.specs.Prelude.{ℕ, ◌≤◌, ◌<◌, ◌≡◌, cond, List, [], ◌∷◌, map, length, get_or, eqb, leb, Result, Ok, Err}
use Rattle.std.proofs.Math.Option.{Option}
use Rattle.model.specs.Trace.{Trace, read, kind_of}
use Rattle.model.specs.Lists.{numbers, in_front}
use Rattle.model.specs.Observed.{observed}
use Rattle.model.specs.Rows.{first, either}
use Rattle.limits.specs.Refusals.{settled}
use Rattle.limits.specs.declared.Refusal.{Refusal}
use Rattle.limits.specs.declared.Refusal.TheVariants.{ListShort}
use Rattle.observing.specs.Observing.{ObservedOf, sees}
use Rattle.observing.specs.declared.Observed.{Observed}
use Rattle.observing.specs.declared.Observed.TheVariants.{NotARead}

-- the entry of what is not a read; no event has this number
abbrev pub not_aRead : ℕ
not_aRead = 65535

-- the answer that an entry stands for: the number of a write, 0 for the start
unfoldable pub answer_of : ℕ → Observed
answer_of e = cond (eqb e not_aRead) NotARead (sees e)

-- ---- what each answer means, with the lent list after it

-- the places of a lent list beyond n are as they were
pub record Beyond (n : ℕ) (l l' : List ℕ) : Type 0 where
  pub long : length l' ≡ length l
  pub kept : (k : ℕ) → n < k → get_or l' k 0 ≡ get_or l k 0

-- the entries 0 to n stand for question 2's answers, and those beyond are as they were
pub record Answered (t : Trace) (l l' : List ℕ) : Type 0 where
  pub entry : (k : ℕ) → k ≤ length t → ObservedOf t k (answer_of (get_or l' k 0))
  pub beyond : Beyond (length t) l l'

-- how many events have their entry
pub data ObservationsOf (t : Trace) (l : List ℕ) : Result ℕ Refusal × List ℕ → Type 0 where
  given : {l' : List ℕ} → Answered t l l' → ObservationsOf t l (Ok (length t), l')

-- ---- computed

-- the entry of number k: of a read its observed write, 0 where it sees the start
unfoldable pub entry_at : Trace → ℕ → ℕ
entry_at t k = cond (eqb (kind_of t k) read) (observed t k) not_aRead

-- the entries of the numbers 0 to n
abbrev pub entries : Trace → List ℕ
entries t = map (entry_at t) (0 ∷ numbers t)

-- a lent list with these in its front, and the rest as it was
abbrev pub with_entries : Trace → List ℕ → List ℕ
with_entries t l = in_front (entries t) l

-- by the file's refusal f, if there is one, and its events; refusal 10 is for a list without an entry for each of the numbers 0 to n
unfoldable pub observations_in : Option Refusal → Trace → List ℕ → Result ℕ Refusal × List ℕ
observations_in f t l = settled (λ r. (Err r, l)) (Ok (length t), with_entries t l) (either f (first (leb (length l) (length t) ∷ []) (ListShort ∷ [])))
