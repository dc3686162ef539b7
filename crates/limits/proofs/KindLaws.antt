-- A kind by its number.
use Rattle.std.specs.Prelude.{ℕ, ◌≡◌, cond, eqb}
use Rattle.std.proofs.Common.{sym, ap, ◌∙◌, refl}
use Rattle.limits.specs.Kinds.{kind_number}
use Rattle.limits.specs.declared.Kind.{Kind}
use Rattle.limits.specs.declared.Kind.TheVariants.{Read, Write, Acquire, Release, Fork, Join}

-- the kind of a number, where it has one
abbrev numbered : ℕ → Kind
numbered n = cond (eqb n 1) Read (cond (eqb n 2) Write (cond (eqb n 3) Acquire (cond (eqb n 4) Release (cond (eqb n 5) Fork Join))))

numbered_one : (a : Kind) → numbered (kind_number a) ≡ a
numbered_one Read = refl
numbered_one Write = refl
numbered_one Acquire = refl
numbered_one Release = refl
numbered_one Fork = refl
numbered_one Join = refl

-- no two kinds have one number
pub kind_one : (a b : Kind) → kind_number a ≡ kind_number b → a ≡ b
kind_one a b e = sym (numbered_one a) ∙ ap numbered e ∙ numbered_one b

-- so another kind has another number
pub kind_other : {a b : Kind} → (a ≡ b → ⊥) → {n : ℕ} → kind_number b ≡ n → kind_number a ≡ n → ⊥
kind_other {a} {b} ne is e = ne (kind_one a b (e ∙ sym is))
