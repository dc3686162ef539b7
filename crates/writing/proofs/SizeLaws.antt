-- How long a written file is.
use Prim.Native.Nat.{ℕ, ◌≤◌}
use native.Mathlib.Omega.{arith}
use mathlib.Core.Path.{◌≡◌, refl}
use mathlib.Core.List.{List}
use lib.ListN.{length, length-append}
use Rattle.model.specs.Trace.{Trace}
use Rattle.writing.specs.Written.{written_trailer, written, written_bytes}
use Rattle.writing.proofs.ListLaws.{events-length}

pub trailer-length : (z n : ℕ) → length (written_trailer z n) ≡ 8
unfolding written_trailer
trailer-length z n = refl

pub written-length : (z : ℕ) → 4 ≤ z → (p : List ℕ) (t : Trace) → length (written z p t) ≡ written_bytes z (length p) (length t)
unfolding written written_bytes
written-length z h p t =
    let a = events-length z h t in
    let b = trailer-length z (length t) in
    rw (length-append, length-append) (omega arith)
