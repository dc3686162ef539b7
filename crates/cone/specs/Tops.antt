-- The causal cone by counts: a cone is the beginning of each thread, so the last event of each thread tells all of it.
use Rattle.std.specs.Prelude.{ℕ, ◌≤◌, ◌≡◌, ◌≢◌, ◌↔◌, Bool, true, false, ◌&&◌, not, List, get_or, eqb, ltb}
use Rattle.model.specs.Trace.{Trace, Valid, join, thread_of, kind_of}
use Rattle.model.specs.Lists.{◌∈◌}
use Rattle.model.specs.Good.{max_thread}
use Rattle.model.specs.Cone.{InCone}
use Rattle.model.specs.Race.{Apart}
use Rattle.table.specs.declared.judged.Table.{Table}
use Rattle.table.specs.Judged.{events}

-- what the cone is made of: a judged recording's table, and the roots, events of different threads, none of them a join
pub record Rooted (s : Table) (R : List ℕ) : Type 0 where
  pub apart : Apart (events s) R
  pub no_join : (r : ℕ) → r ∈ R → kind_of (events s) r ≢ join

-- place c is 0, or an event of thread c
pub record Topped (t : Trace) (tops : List ℕ) : Type 0 where
  pub valid : (c : ℕ) → get_or tops c 0 ≢ 0 → Valid t (get_or tops c 0)
  pub thread : (c : ℕ) → get_or tops c 0 ≢ 0 → thread_of t (get_or tops c 0) ≡ c

-- how far the cone reaches into each thread
pub record Tops (t : Trace) (R tops : List ℕ) : Type 0 where
  pub is : (k : ℕ) → Valid t k → (k ≤ get_or tops (thread_of t k) 0) ↔ InCone t R k
  pub topped : Topped t tops

-- thread c, which is neither m nor n, has a top
unfoldable pub is_third : List ℕ → ℕ → ℕ → ℕ → Bool
is_third tops m n c = not (eqb c m) && (not (eqb c n) && ltb 0 (get_or tops c 0))

-- true: some thread beside m and n has a top; false: none has
pub data Beyond (tops : List ℕ) (m n : ℕ) : Bool → Type 0 where
  one_beyond : {c : ℕ} → c ≤ max_thread → is_third tops m n c ≡ true → Beyond tops m n true
  none_beyond : ((c : ℕ) → c ≤ max_thread → is_third tops m n c ≡ false) → Beyond tops m n false

-- true: no root is in the cone, and this is how far it reaches; false: a root is in the cone
pub data Told (t : Trace) (R tops : List ℕ) : Bool → Type 0 where
  none_in : ((r : ℕ) → r ∈ R → ¬ InCone t R r) → Tops t R tops → Told t R tops true
  one_in : {r : ℕ} → r ∈ R → InCone t R r → Told t R tops false
