-- The number that is given for the line of an event is the number of its line.
use Prim.Native.Nat.{ℕ, zero, suc, ◌+◌, ◌-◌, ◌≤◌, ◌<◌}
use native.Mathlib.Omega.{arith}
use mathlib.Core.Path.{◌≡◌, refl, sym, ◌∙◌, ap}
use mathlib.Core.Bool.{true, false}
use mathlib.Core.List.{List, [], ◌∷◌, ◌++◌, map}
use lib.ListN.{length, get_or, length-append, length-map}
use lib.Seq.{get_or_at, get_or-append-add}
use lib.Dec.{eqb}
use borrow.Author.Tests.{eqb-true, eqb-false}
use Rattle.model.proofs.Tests.{by_cases}
use Rattle.model.specs.Trace.{Trace, at, Valid}
use Rattle.std.specs.Prelude.{Some}
use Rattle.wording.specs.Lines.{note_line, event_line, is_comment}
use Rattle.composing.specs.Texts.{lines, line_at, said, line_of, Makes}
use Rattle.composing.proofs.SaidLaws.{said-append, said_line, line_of_next}

-- the m-th line that is no comment, with the lines before it and those after it
record Found (m : ℕ) (ls : List (List ℕ)) : Type 0 where
  before : List (List ℕ)
  line : List ℕ
  after : List (List ℕ)
  these : ls ≡ before ++ (line ∷ after)
  plain : is_comment line ≡ false
  number : m ≡ length (said before) + 1

module _ (a : List ℕ) {ls : List (List ℕ)} {m : ℕ} (f : Found m ls) where
  later : (n : ℕ) → n ≡ length (said (a ∷ f.before)) + 1 → Found n (a ∷ ls)
  later n e = record { before = a ∷ f.before; line = f.line; after = f.after; these = ap (λ (ls : List (List ℕ)). a ∷ ls) f.these; plain = f.plain; number = e }

  after_comment : is_comment a ≡ true → Found m (a ∷ ls)
  unfolding said
  after_comment c = later m (rw c f.number)

  after_line : is_comment a ≡ false → (n : ℕ) → n ≡ suc m → Found n (a ∷ ls)
  after_line c n e = let k = f.number in let l = ap length (said_line a f.before c) in later n (omega arith)

found : (m : ℕ) (ls : List (List ℕ)) → 1 ≤ m → m ≤ length (said ls) → Found m ls
unfolding said
found m [] l h = absurd (omega arith)
found m (a ∷ ls) l h =
    by_cases (is_comment a)
    (λ c. after_comment a (found m ls l (rw c at h)) c)
    (λ c.
    let g : m ≤ suc (length (said ls)) = rw c at h in
    by_cases (eqb m 1)
    (λ e. let q = eqb-true m 1 e in record { before = []; line = a; after = ls; these = refl; plain = c; number = omega arith })
    (λ e. let ne = eqb-false m 1 e in after_line a (found (m - 1) ls (omega (arith, ne)) (omega arith)) c m (omega arith)))

-- it has a number, and the line of that number is the m-th of those that are no comments
line_found : (m : ℕ) (ls : List (List ℕ)) → Found m ls → (n : ℕ) × (line_of m ls ≡ Some n) × (get_or ls (n - 1) [] ≡ get_or (said ls) (m - 1) [])
line_found m ls f =
    let b = f.before in
    let n : line_of m ls ≡ Some (length b + 1) = rw f.these (line_of_next m b f.line f.after f.plain f.number) in
    let s : said ls ≡ said b ++ (f.line ∷ said f.after) = ap said f.these ∙ said-append b (f.line ∷ f.after) ∙ ap (λ (ls : List (List ℕ)). said b ++ ls) (said_line f.line f.after f.plain) in
    let k = f.number in
    let x : get_or ls (length b + 1 - 1) [] ≡ f.line = rw f.these (get_or_at b f.line f.after [] (length b + 1 - 1) (omega arith)) in
    let y : get_or (said ls) (m - 1) [] ≡ f.line = rw s (get_or_at (said b) f.line (said f.after) [] (m - 1) (omega arith)) in
    (length b + 1, n, x ∙ sym y)

event_at_lem : (es : Trace) (j : ℕ) → j < length es → get_or (map event_line es) j [] ≡ event_line (at es (suc j))
event_at_lem [] j h = absurd (omega arith)
event_at_lem (e ∷ es) zero h = refl
event_at_lem (e ∷ es) (suc j) h = event_at_lem es j (omega arith)

-- the line of an event of a text has a number, and is its line
pub event_line_of : (text : List ℕ) {notes : List (List ℕ)} {es : Trace} → Makes (lines text) notes es → (k : ℕ) → Valid es k
    → (n : ℕ) × (line_of (length notes + k) (lines text) ≡ Some n) × (line_at n text ≡ event_line (at es k))
event_line_of text m zero v = let p = v.positive in absurd (omega arith)
event_line_of text {notes} {es} m (suc j) v =
    let h = v.bounded in
    let n = length-map notes note_line in
    let l = ap length m.these ∙ length-append (map note_line notes) (map event_line es) in
    let i = length-map es event_line in
    let q : length notes + suc j - 1 ≡ length (map note_line notes) + j = omega arith in
    let f = line_found (length notes + suc j) (lines text) (found (length notes + suc j) (lines text) (omega arith) (omega arith)) in
    (f.0, f.1, f.2 ∙ (rw (m.these, q, get_or-append-add) (event_at_lem es j (omega arith))))
