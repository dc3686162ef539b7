-- Every good trace is the events of a good file: the limit of bytes asks nothing more of a trace, nor of an extension.
use Rattle.std.specs.Prelude.{ℕ, ◌+◌, ◌*◌, ◌≤◌, ◌≡◌, List}
use Rattle.model.specs.Trace.{Trace}
use Rattle.model.specs.Good.{max_events, Good}
use Rattle.limits.specs.Limits.{trailer_bytes, max_bytes}
use Rattle.format.specs.Layout.{events}
use Rattle.judging.specs.Judged.{GoodFile}

-- what that asks of the limits: the most bytes have room for the most events, of z bytes each, and the trailer
abbrev pub HoldsMost : ℕ → Type 0
HoldsMost z = z * max_events + trailer_bytes ≤ max_bytes

-- every good trace is the events of a good file with z bytes to an event
abbrev pub EveryGoodTrace : ℕ → Type 0
EveryGoodTrace z = (t : Trace) → Good t → (s : List ℕ) × GoodFile z s × (events z s ≡ t)
