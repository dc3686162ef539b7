-- The kinds of events, each with its number in a file.
use Rattle.std.specs.Prelude.{ℕ, ◌≡◌, Result, MatchResult}
use Rattle.model.specs.Trace.{read, write, acquire, release, fork, join}
use Rattle.model.specs.Good.{KnownKind}
use Rattle.limits.specs.declared.Kind.{Kind}
use Rattle.limits.specs.declared.Kind.TheVariants.{Read, Write, Acquire, Release, Fork, Join}
use Rattle.limits.specs.declared.UnknownKind.{UnknownKind}

abbrev pub kind_number : Kind → ℕ
kind_number Read = read
kind_number Write = write
kind_number Acquire = acquire
kind_number Release = release
kind_number Fork = fork
kind_number Join = join

-- a number is that of a kind, or of none
abbrev pub IsKind : ℕ → Result Kind UnknownKind → Type 0
IsKind n r = MatchResult r (λ k. kind_number k ≡ n) (λ e. (e.0 ≡ n) × ¬ KnownKind n)
