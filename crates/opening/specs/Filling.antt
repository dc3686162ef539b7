-- How the table of a good trace is filled, column by column and row by row.
use Rattle.std.specs.Prelude.{ℕ, ◌*◌, ◌≤◌, ◌<◌, ◌≡◌, List, length, take}
use Rattle.model.specs.Trace.{Trace, Valid}
use Rattle.model.specs.Good.{Good}
use Rattle.table.specs.Table.{words, word, trace, column, Linked, with_word}

-- a table with a row for each event of a good trace, and its first c columns are there
pub record Columns (t : Trace) (c : ℕ) (s : List ℕ) : Type 0 where
  pub good : Good t
  pub long : length s ≡ words * length t
  pub is : (d k : ℕ) → d < c → Valid t k → word s k d ≡ column d t k

-- It is event k's turn in the pass for column c: the columns before that are there, and the pass's list knows what it has to.
pub record Turn (Knows : Trace → ℕ → List ℕ → Type 0) (c k : ℕ) (s list : List ℕ) : Type 0 where
  pub columns : Columns (trace s) c s
  pub valid : Valid (trace s) k
  pub knows : Knows (trace s) k list

-- Event k had its turn: its word of the column is set, no other is, and the list knows what it has to for the next event.
pub record Stepped (Knows : Trace → ℕ → List ℕ → Type 0) (c k next : ℕ) (s s' list' : List ℕ) : Type 0 where
  pub set : s' ≡ with_word s k c (column c (trace s) k)
  pub knows : Knows (trace s) next list'

-- the table is the trace's, with its links
pub record Filled (t : Trace) (s : List ℕ) : Type 0 where
  pub long : length s ≡ words * length t
  pub same : trace s ≡ t
  pub linked : Linked s

-- the first r words of an area are the trace's table
pub record Built (t : Trace) (r : ℕ) (area : List ℕ) : Type 0 where
  pub within : r ≤ length area
  pub filled : Filled t (take r area)
