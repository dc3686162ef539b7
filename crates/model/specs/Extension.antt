-- Extensions (the paper's lengthenings).
use Rattle.std.specs.Prelude.{ℕ, ◌≡◌, List, ◌++◌}
use Rattle.model.specs.Trace.{Trace}
use Rattle.model.specs.Lists.{pair}
use Rattle.model.specs.Good.{Good}
use Rattle.model.specs.Reordering.{Together}

-- t' extends t: the same events under the same numbers, then none or more after them, well-formed and within every limit.
-- The limit of bytes asks nothing more: every good trace is the events of a good file (writing: every-good-trace).
pub record Extension (t t' : Trace) : Type 0 where
  pub added : Trace
  pub same : t' ≡ t ++ added
  pub good : Good t'

-- some correct reordering, of the trace or of an extension, brings all of R next
abbrev pub TogetherInExtension : Trace → List ℕ → Type 0
TogetherInExtension t R = (t' : Trace) × Extension t t' × Together t' R

-- of a pair: brings both accesses next
abbrev pub PredictableInExtension : Trace → ℕ → ℕ → Type 0
PredictableInExtension t a b = TogetherInExtension t (pair a b)
