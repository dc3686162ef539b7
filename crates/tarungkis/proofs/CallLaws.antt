-- What the functions that other languages call require of their parts.
use Prim.Native.Nat.{ℕ}
use native.Mathlib.Omega.{arith}
use mathlib.Core.Path.{◌≡◌, refl}
use mathlib.Core.List.{List}
use Rattle.std.specs.Prelude.{Option, None, Some, Result, Ok, Err}
use Rattle.limits.specs.declared.Refusal.{Refusal}
use Rattle.questions.specs.Note.{answer_noted}
use Rattle.questions.proofs.NoteLaws.{note_small}
use Rattle.questions.proofs.RoundTrips.{written_short}
use Rattle.writing.specs.Writing.{answer_write}
use Rattle.numbers.specs.Packed.{NotedSmall, WrittenSmall}

-- lengths that have two bytes

pub note_fits : (x : Option ℕ) (s : List ℕ) → x ≡ answer_noted s → NotedSmall x
note_fits (Some m) s e = let h = note_small s (Some m) e m refl in omega arith
note_fits None s e = tt

pub written_fits : (x : Result ℕ Refusal) (p cs ds xs buffer after : List ℕ) → (x, after) ≡ answer_write p cs ds xs buffer → WrittenSmall x
written_fits (Err r) p cs ds xs buffer after e = tt
written_fits (Ok n) p cs ds xs buffer after e = let h = written_short p cs ds xs buffer n after e in omega arith
