-- Lines and the text of them: each gives the other back.
use Prim.Native.Nat.{ℕ, ◌≤◌}
use native.Mathlib.Omega.{arith}
use mathlib.Core.Path.{◌≡◌, refl, sym, ◌∙◌, ap}
use mathlib.Core.Logic.{◌≢◌, ⊎_elim}
use mathlib.Core.Bool.{false}
use mathlib.Core.List.{List, [], ◌∷◌, ◌++◌, append_assoc, append_cancel_right, nil≢cons, Memᴰ}
use lib.ListN.{length}
use lib.Dec.{eqb}
use borrow.Author.Tests.{eqb-true}
use Rattle.model.proofs.Tests.{by_cases, in_cons}
use Rattle.composing.specs.Texts.{extend, lines, joined}
use Rattle.wording.specs.Parts.{first_at}
use Rattle.wording.proofs.FirstLaws.{first_rest}
use Rattle.showing.specs.Shown.{notes_of, text_from}
use Rattle.showing.specs.RoundTrips.{Ended}

-- a line has no line feed
abbrev pub Whole : List ℕ → Type 0
Whole l = first_at 10 l ≡ length l

-- ---- the text of lines

pub text_append : (ls ms : List (List ℕ)) → text_from (ls ++ ms) ≡ text_from ls ++ text_from ms
unfolding text_from
text_append [] ms = refl
text_append (l ∷ ls) ms = rw (text_append ls ms, append_assoc)

-- the lines of a text of lines are these
lines_ended : (l rest : List ℕ) → Whole l → lines (l ++ (10 ∷ rest)) ≡ l ∷ lines rest
unfolding lines
lines_ended [] rest w = refl
lines_ended (b ∷ l) rest w = let g = first_rest 10 b l w in rw (g.0, lines_ended l rest g.1)

pub lines_text : (ls : List (List ℕ)) → ((l : List ℕ) → Memᴰ l ls → Whole l) → lines (text_from ls) ≡ ls
unfolding lines text_from
lines_text [] w = refl
lines_text (l ∷ ls) w = lines_ended l (text_from ls) (w l (mathlib.Core.List.Memᴰ.head refl)) ∙ ap (λ (m : List (List ℕ)). l ∷ m) (lines_text ls (λ m i. w m (mathlib.Core.List.Memᴰ.tail i)))

-- ---- the lines of a text

extend-some : (b : ℕ) (ls : List (List ℕ)) → 1 ≤ length (extend b ls)
extend-some b [] = omega arith
extend-some b (l ∷ ls) = omega arith

pub lines-some : (s : List ℕ) → 1 ≤ length s → 1 ≤ length (lines s)
unfolding lines
lines-some [] h = absurd (omega arith)
lines-some (b ∷ s) h = by_cases (eqb b 10) (λ e. rw e (omega arith)) (λ e. rw e (extend-some b (lines s)))

text_extend : (b : ℕ) (ls : List (List ℕ)) → 1 ≤ length ls → text_from (extend b ls) ≡ b ∷ text_from ls
unfolding text_from
text_extend b [] h = absurd (omega arith)
text_extend b (l ∷ ls) h = refl

-- a text whose last line is ended is that of its lines
text_ended : (s : List ℕ) → text_from (lines (s ++ (10 ∷ []))) ≡ s ++ (10 ∷ [])
unfolding lines text_from
text_ended [] = refl
text_ended (b ∷ s) =
    let i = text_ended s in
    by_cases (eqb b 10) (λ e. let z : 10 ≡ b = sym (eqb-true b 10 e) in rw (e, i, z))
    (λ e. rw (e, text_extend b (lines (s ++ (10 ∷ []))) (lines-some (s ++ (10 ∷ [])) (ended s)), i))
  where
    ended : (s : List ℕ) → 1 ≤ length (s ++ (10 ∷ []))
    ended [] = omega arith
    ended (b ∷ s) = omega arith

pub text_lines : (text : List ℕ) → Ended text → text_from (lines text) ≡ text
unfolding lines text_from
text_lines text e = ⊎_elim (λ z. rw z) (λ x. let z = x.1 in rw z (text_ended x.0)) e

-- the lines of a text have no line feed
extend-whole : (b : ℕ) (ls : List (List ℕ)) → eqb b 10 ≡ false → ((l : List ℕ) → Memᴰ l ls → Whole l) → (l : List ℕ) → Memᴰ l (extend b ls) → Whole l
extend-whole b [] e w l m = rw (mathlib.Core.List.Memᴰ.eq_of_singleton m, e)
extend-whole b (k ∷ ls) e w l m = in_cons m (λ q. rw (q, e, w k (mathlib.Core.List.Memᴰ.head refl))) (λ i. w l (mathlib.Core.List.Memᴰ.tail i))

pub lines-whole : (s l : List ℕ) → Memᴰ l (lines s) → Whole l
unfolding lines
lines-whole [] l m = absurd (mathlib.Core.List.Memᴰ.not-nil m)
lines-whole (b ∷ s) l m =
    by_cases (eqb b 10)
    (λ e. let i : Memᴰ l ([] ∷ lines s) = rw e at m in in_cons i (λ q. rw q) (λ j. lines-whole s l j))
    (λ e. let i : Memᴰ l (extend b (lines s)) = rw e at m in extend-whole b (lines s) e (lines-whole s) l i)

-- ---- the notes of a preamble

text_joined : (ls : List (List ℕ)) → 1 ≤ length ls → text_from ls ≡ joined ls ++ (10 ∷ [])
unfolding text_from joined
text_joined [] h = absurd (omega arith)
text_joined (l ∷ []) h = refl
text_joined (l ∷ m ∷ ls) h = rw (text_joined (m ∷ ls) (omega arith), append_assoc)

-- with line feeds between them they are the preamble
pub joined_notes : (p : List ℕ) → joined (notes_of p) ≡ p
unfolding notes_of joined
joined_notes [] = refl
joined_notes (b ∷ p) =
    let ls = lines ((b ∷ p) ++ (10 ∷ [])) in
    append_cancel_right (joined ls) (b ∷ p) (10 ∷ []) (sym (text_joined ls (lines-some ((b ∷ p) ++ (10 ∷ [])) (omega arith))) ∙ text_ended (b ∷ p))

notes_lines : (p : List ℕ) → p ≢ [] → notes_of p ≡ lines (p ++ (10 ∷ []))
unfolding notes_of
notes_lines [] ne = absurd (ne refl)
notes_lines (b ∷ p) ne = refl

joined-some : (t : List ℕ) (l : List (List ℕ)) → t ∷ l ≢ [] ∷ [] → joined (t ∷ l) ≢ []
unfolding joined
joined-some [] [] ne e = ne refl
joined-some (b ∷ t) [] ne e = nil≢cons (sym e)
joined-some [] (u ∷ l) ne e = nil≢cons (sym e)
joined-some (b ∷ t) (u ∷ l) ne e = nil≢cons (sym e)

-- texts without a line feed are the notes of what they are joined to, but for one empty text
pub notes_joined : (notes : List (List ℕ)) → ((t : List ℕ) → Memᴰ t notes → Whole t) → notes ≢ [] ∷ [] → notes_of (joined notes) ≡ notes
unfolding notes_of joined
notes_joined [] w ne = refl
notes_joined (t ∷ l) w ne = notes_lines (joined (t ∷ l)) (joined-some t l ne) ∙ ap lines (sym (text_joined (t ∷ l) (omega arith))) ∙ lines_text (t ∷ l) w

-- a byte of a text stands in what the texts are joined to
pub joined_in : (notes : List (List ℕ)) (t : List ℕ) → Memᴰ t notes → (b : ℕ) → Memᴰ b t → Memᴰ b (joined notes)
unfolding joined
joined_in [] t m b i = absurd (mathlib.Core.List.Memᴰ.not-nil m)
joined_in (u ∷ []) t m b i = rw (mathlib.Core.List.Memᴰ.eq_of_singleton m) at i
joined_in (u ∷ v ∷ l) t m b i =
    in_cons m (λ q. mathlib.Core.List.Memᴰ.append_left (10 ∷ joined (v ∷ l)) (rw q at i)) (λ j. mathlib.Core.List.Memᴰ.append_right u (mathlib.Core.List.Memᴰ.tail (joined_in (v ∷ l) t j b i)))

pub notes_whole : (p t : List ℕ) → Memᴰ t (notes_of p) → Whole t
unfolding notes_of
notes_whole [] t m = absurd (mathlib.Core.List.Memᴰ.not-nil m)
notes_whole (b ∷ p) t m = lines-whole ((b ∷ p) ++ (10 ∷ [])) t m
