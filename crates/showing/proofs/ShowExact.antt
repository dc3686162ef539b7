-- Each answer, with the lent bytes after it, exactly in its case.
use Prim.Native.Nat.{ℕ, ◌≤◌, ◌<◌}
use native.Mathlib.Omega.{arith}
use mathlib.Core.Path.{◌≡◌, refl, sym, ◌∙◌, ap}
use mathlib.Core.Logic.Iff
use mathlib.Core.Logic.{◌↔◌}
use mathlib.Core.List.{List, [], ◌∷◌}
use lib.ListN.{length, drop, length-append}
use lib.Dec.{ltb}
use borrow.Author.Tests.{ltb-true, lt-ltb}
use Rattle.model.specs.Lists.{in_front}
use Rattle.model.specs.Rows.{row, nothing}
use Rattle.limits.specs.Refusals.{refuses, answers}
use Rattle.limits.specs.declared.Refusal.TheVariants.{ListShort}
use Rattle.judging.proofs.FileLaws.{question_asked}
use Rattle.composing.specs.Texts.{text_bytes}
use Rattle.showing.specs.Shown.{text_of, Shows, answer_show}
use Rattle.std.specs.Prelude.{Result, Ok}
use Rattle.limits.specs.declared.Refusal.{Refusal}

pub show_exactly : (s out : List ℕ) (x : Result ℕ Refusal × List ℕ) → (answer_show s out ≡ x) ↔ Shows s out x
unfolding answer_show
show_exactly s out x =
    question_asked s (row 10 nothing (length out < text_bytes) ∷ []) (ltb (length out) text_bytes ∷ []) (ListShort ∷ []) ((ltb-true (length out) text_bytes, lt-ltb (length out) text_bytes), tt) refl
    (λ g q x. Iff.rfl) x

-- the bytes of a text are within the lent ones
within : (s out : List ℕ) (n : ℕ) {x : Result ℕ Refusal × List ℕ} → Shows s out x → x.0 ≡ Ok n → n ≤ length x.1
unfolding in_front
within s out n (refuses f) e = let z : ◌≡◌ {A = ℕ} 0 1 = cc in absurd (omega arith)
within s out n (answers q f) e =
    let c : ◌≡◌ {A = Result ℕ Refusal} (Ok (length (text_of s))) (Ok n) = ap (λ (x : Result ℕ Refusal × List ℕ). x.0) f ∙ e in
    let a : length (text_of s) ≡ n = cc in
    let l = ap (λ (x : Result ℕ Refusal × List ℕ). length x.1) f in
    let d = length-append (text_of s) (drop (length (text_of s)) out) in
    omega arith

pub text_within : (s out : List ℕ) (r : Result ℕ Refusal) (after : List ℕ) → (r, after) ≡ answer_show s out → (n : ℕ) → r ≡ Ok n → n ≤ length after
text_within s out r after e n q = within s out n ((show_exactly s out (r, after)).0 (sym e)) q
