-- The ways through the program.
use Prim.Native.Nat.{ℕ, ◌<◌}
use mathlib.Core.Path.{◌≡◌, refl, ◌∙◌}
use mathlib.Core.List.{List}
use lib.ListN.{length}
use Rattle.table.specs.declared.judged.Table.{Table}
use Rattle.table.specs.Judged.{events}
use Rattle.report.specs.Rest.{after, at_start, lines_from}
use Rattle.report.specs.Writing.{Writing, position_in, next_of, Fills}
use Rattle.report.specs.declared.Position.{Position}
use Rattle.report.specs.declared.Progress.{Progress}
use Rattle.std.specs.Prelude.{Option as RustOption, Some}
use Rattle.report.proofs.WritingLaws.{block_again}

-- the report is written as far as the position to go on from, and what is lent is as long as it was
pub record Between (table : Table) (list₀ out₀ list out : List ℕ) (next : RustOption Position) : Type 0 where
  pub writing : (p : Position) → next ≡ Some p → Writing table p list 0 out
  pub list_long : length list ≡ length list₀
  pub out_long : length out ≡ length out₀

pub between_start : {table : Table} {list out : List ℕ} → Writing table at_start list 0 out → (p : Position) → p ≡ at_start → Between table list out list out (Some p)
between_start g p e = record { writing = λ q d. let h : q ≡ at_start = cc in rw h g; list_long = refl; out_long = refl }

module _ {table : Table} {list₀ out₀ list out : List ℕ} {next : RustOption Position} (b : Between table list₀ out₀ list out next) (p : Position) (e : next ≡ Some p) where
  pub between_writing : Writing table p list 0 out
  between_writing = b.writing p e

  module _ {list' out' : List ℕ} (w : Progress) (x : Fills (events table) p list list' out out' w) where
    pub between_again : Between table list₀ out₀ list' out' w.next
    between_again = record {
      writing = block_again between_writing w x;
      list_long = x.list_long ∙ b.list_long;
      out_long = x.writes.puts.same ∙ b.out_long;
    }

    pub between_less : length (after (lines_from (events table)) (next_of w)) < length (after (lines_from (events table)) (position_in next))
    between_less = rw e x.fewer
