-- The ways through the reasons.
use Prim.Native.Nat.{ℕ, ◌≤◌}
use mathlib.Core.Path.{◌≡◌, refl, ap}
use mathlib.Core.Bool.{true, ◌&&◌}
use mathlib.Core.List.{List, [], ◌∷◌}
use Rattle.model.specs.Trace.{read, join}
use Rattle.model.specs.Lists.{up_to}
use Rattle.model.proofs.Tests.{false_test}
use Rattle.model.proofs.Lists.{any_mem, mem_any, mem_up_to, up_to_mem}
use Rattle.limits.specs.Kinds.{kind_number}
use Rattle.limits.specs.declared.Kind.{Kind}
use Rattle.wording.specs.Lines.{kind_word}
use Rattle.wording.specs.Parts.{ReadsKind, kind, no_kind}
use Rattle.wording.specs.Reasons.{same, is_digit, is_kind_word, all_digits}
use Rattle.std.specs.Prelude.{Option, is_some}
use Rattle.std.specs.List.{list_all}
use Rattle.wording.proofs.LineLaws.{kind_within, within_kind}
use Rattle.std.proofs.lemmas.Slice.Eq.{bytes_eq-Decides}

-- ---- a kind's word

pub word_known : (k : ℕ) → read ≤ k → k ≤ join → is_kind_word (kind_word k) ≡ true
word_known k least most = any_mem (λ j. same (kind_word k) (kind_word j)) (up_to_mem join k least most) ((bytes_eq-Decides (kind_word k) (kind_word k)).1 refl)

-- the kind of a word that is known
pub known_word : (w : List ℕ) → is_kind_word w ≡ true → (k : ℕ) × (read ≤ k) × (k ≤ join) × (w ≡ kind_word k)
known_word w e =
    let g = mem_any (λ k. same w (kind_word k)) (up_to join) e in
    let r = mem_up_to join g.0 g.1 in
    (g.0, r.0, r.1, (bytes_eq-Decides w (kind_word g.0)).0 g.2)

-- the test is whether it was read
pub known_by : {w : List ℕ} {r : Option Kind} → ReadsKind w r → is_kind_word w ≡ is_some r
known_by (kind {k} e) = let w = kind_within k in rw e (word_known (kind_number k) w.0 w.1)
known_by {w} (no_kind f) = false_test (known_word w) (λ g. let k = within_kind g.0 g.1 g.2 in f k.0 (rw k.1 at g.3))

-- ---- digits

pub digits_all : (s : List ℕ) → list_all is_digit s ≡ all_digits s
unfolding all_digits
digits_all [] = refl
digits_all (b ∷ s) = ap (λ r. is_digit b && r) (digits_all s)
