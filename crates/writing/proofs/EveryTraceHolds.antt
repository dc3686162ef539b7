-- The file of a good trace, with no preamble.
use Prim.Native.Nat.{ℕ, ◌*◌, ◌≤◌}
use native.Mathlib.Nat.{mul-le-mul_left}
use native.Mathlib.Omega.{arith}
use mathlib.Core.Option.{none}
use mathlib.Core.List.Memᴰ
use mathlib.Core.List.{[]}
use lib.ListN.{length}
use Rattle.model.specs.Good.{max_events}
use Rattle.limits.specs.Limits.{event_bytes}
use Rattle.judging.proofs.JudgedExact.{file_exactly}
use Rattle.writing.specs.Written.{written_bytes, written}
use Rattle.writing.proofs.ReadsBack.{reads_back}
use Rattle.writing.specs.EveryTrace.{HoldsMost, EveryGoodTrace}
use Rattle.writing.proofs.WrittenExact.{written_exactly}

-- over the limits: wherever the most events fit into the most bytes
pub every_good-trace : (z : ℕ) → 4 ≤ z → HoldsMost z → EveryGoodTrace z
unfolding written_bytes
every_good-trace z four h t g =
    let m : z * length t ≤ z * max_events = mul-le-mul_left z g.size in
    let s = written z [] t in
    let e = (written_exactly z four [] t none).1 (record { fits = omega arith; readable = λ b m. absurd (Memᴰ.not-nil m); good = g }) in
    (s, (file_exactly z four s none).0 e, (reads_back z four [] t).same_events)

-- with the limits and the event size that there are
pub every_trace_of_files : EveryGoodTrace event_bytes
every_trace_of_files = every_good-trace event_bytes (omega arith) (omega arith)
