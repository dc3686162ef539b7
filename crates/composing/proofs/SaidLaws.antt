-- The lines that are no comments.
use Prim.Native.Nat.{ℕ, suc, ◌+◌, ◌-◌, ◌≤◌, ◌<◌}
use native.Mathlib.Omega.{arith}
use mathlib.Core.Path.{◌≡◌, refl, sym, ◌∙◌, ap}
use mathlib.Core.Logic.{inr, ⊎_elim}
use mathlib.Core.Bool.{true, false}
use mathlib.Core.List.{List, [], ◌∷◌, ◌++◌, append_assoc, append-nil}
use lib.ListN.{length, get_or, take, drop, take-append-drop, get_or-eq_default}
use lib.Seq.{take-append_seam}
use borrow.Author.Tests.{eq-eqb, ne_eqb}
use lib.Dec.{eqb}
use Rattle.model.proofs.Tests.{by_cases}
use Rattle.std.specs.Prelude.{Some, None}
use Rattle.wording.specs.Lines.{is_comment}
use Rattle.composing.specs.Texts.{lines, said, line_from, line_of}
use Rattle.composing.specs.Parts.{LineEnd, NextLine, Says, comment_at, Stands, NextSaid}
use Rattle.composing.proofs.LinesLaws.{lines_none, comment_line}

pub said-append : (x y : List (List ℕ)) → said (x ++ y) ≡ said x ++ said y
unfolding said
said-append [] y = refl
said-append (l ∷ x) y = by_cases (is_comment l) (λ e. rw (e, said-append x y)) (λ e. rw (e, said-append x y))

-- a line that is none
pub said_line : (l : List ℕ) (more : List (List ℕ)) → is_comment l ≡ false → said (l ∷ more) ≡ l ∷ said more
unfolding said
said_line l more e = rw e

-- ---- the lines between two places

pub says_nothing : (text : List ℕ) (at : ℕ) → Says text at at []
unfolding said
says_nothing text at = record { between = []; splits = refl; says = refl }

module _ {text : List ℕ} where
  pub says_then : {a b c : ℕ} {x y : List (List ℕ)} → Says text a b x → Says text b c y → Says text a c (x ++ y)
  says_then s t = record { between = s.between ++ t.between; splits = s.splits ∙ rw (t.splits, append_assoc); says = said-append s.between t.between ∙ rw (s.says, t.says) }

  -- a line and the comments behind it
  pub says_line : {at end next : ℕ} → Stands text at → LineEnd text at end → NextSaid text end next → Says text at next (take (end - at) (drop at text) ∷ [])
  says_line {at} {end} p l n =
      let line = take (end - at) (drop at text) in
      let b = n.nothing.between in
      record {
        between = line ∷ b;
        splits = l.splits ∙ ap (λ (ls : List (List ℕ)). line ∷ ls) n.nothing.splits;
        says = said_line line b (comment_line text at l.splits ∙ p.plain) ∙ ap (λ (ls : List (List ℕ)). line ∷ ls) n.nothing.says;
      }

  -- where no comment begins and nothing is said, no line is passed over
  pub says_here : {from at : ℕ} → Stands text from → Says text from at [] → lines (drop from text) ≡ lines (drop at text)
  says_here {from} {at} p s = go s.between s.splits s.says
    where
      go : (x : List (List ℕ)) → lines (drop from text) ≡ x ++ lines (drop at text) → said x ≡ [] → lines (drop from text) ≡ lines (drop at text)
      go [] e q = e
      go (l ∷ x) e q = let z = sym (said_line l x (comment_line text from e ∙ p.plain)) ∙ q in let o : ◌≡◌ {A = ℕ} 0 1 = cc in absurd (omega arith)

  -- all lines
  pub says_all : {at : ℕ} {x : List (List ℕ)} → Says text 0 at x → length text ≤ at → said (lines text) ≡ x
  says_all {at} s h = ap said s.splits ∙ (rw (lines_none text at h, append-nil) s.says)

-- ---- the loop that passes over comments

module _ (text : List ℕ) (from at : ℕ) (s : Says text from at []) (low : from ≤ at) where
  pub skip_on : get_or text at 0 ≡ 35 → (next : ℕ) → NextLine text at next → Says text from next []
  unfolding said
  skip_on e next n =
      let c : is_comment n.line ≡ true = comment_line text at n.splits ∙ eq-eqb _ _ e in
      says_then s (record { between = n.line ∷ []; splits = n.splits; says = rw c })

at_end : (text : List ℕ) (at : ℕ) → length text ≤ at → comment_at text at ≡ false
at_end text at h = rw (get_or-eq_default text 0 {n = at} h)

-- ---- behind a line

module _ (text : List ℕ) (end : ℕ) where
  pub said_last : end ≡ length text → NextSaid text end end
  unfolding said
  said_last e =
      record {
        nothing = record { between = []; splits = lines_none text (end + 1) (omega arith) ∙ sym (lines_none text end (omega arith)); says = refl };
        low = omega arith;
        on = inr (omega arith);
        stands = record { within = omega arith; plain = at_end text end (omega arith) };
      }

module _ {text : List ℕ} {at end next : ℕ} (h : at < length text) (l : LineEnd text at end) (n : NextSaid text end next) where
  pub said_on : at < next
  said_on = let a = l.low in let b = n.low in ⊎_elim (λ o. omega arith) (λ o. omega arith) n.on

-- ---- the loop that counts lines

-- `seen` of the first `number` lines are no comments, and the line that is looked for is behind them
pub record Counted (text : List ℕ) (m seen number at : ℕ) : Type 0 where
  pub left : line_of m (lines text) ≡ line_from number (m - seen) (lines (drop at text))
  pub fewer : seen ≤ number
  pub few : number ≤ at

pub count-start : (text : List ℕ) (m : ℕ) → Counted text m 0 0 0
unfolding line_of
count-start text m = let z : m - 0 ≡ m = omega arith in record { left = rw z; fewer = omega arith; few = omega arith }

module _ {text : List ℕ} {m seen number at : ℕ} (c : Counted text m seen number at) where
  pub count_over : length text ≤ at → None ≡ line_of m (lines text)
  count_over h = rw (c.left, lines_none text at h)

  module _ {next : ℕ} (n : NextLine text at next) where
    pub count_comment : get_or text at 0 ≡ 35 → Counted text m seen (number + 1) next
    count_comment e =
        let i : is_comment n.line ≡ true = comment_line text at n.splits ∙ eq-eqb _ _ e in
        let o = n.on in
        let f = c.few in
        let g = c.fewer in
        record { left = c.left ∙ rw (n.splits, i); fewer = omega arith; few = omega arith }

    module _ (ne : get_or text at 0 ≡ 35 → ⊥) where
      plain : is_comment n.line ≡ false
      plain = comment_line text at n.splits ∙ ne_eqb _ _ ne

      pub count-found : seen + 1 ≡ m → Some (number + 1) ≡ line_of m (lines text)
      count-found e = let z : m - seen ≡ 1 = omega arith in rw (c.left, n.splits, plain, z)

      pub count_on : (seen + 1 ≡ m → ⊥) → Counted text m (seen + 1) (number + 1) next
      count_on other =
          let o = n.on in
          let f = c.few in
          let g = c.fewer in
          let d : m - seen ≡ 1 → seen + 1 ≡ m = λ q. omega arith in
          let z : eqb (m - seen) 1 ≡ false = ne_eqb _ _ (λ q. other (d q)) in
          let w : m - seen - 1 ≡ m - (seen + 1) = omega arith in
          record { left = c.left ∙ rw (n.splits, plain, z, w); fewer = omega arith; few = omega arith }

-- ---- the number of a line

line_from_lem : (k m : ℕ) (x : List (List ℕ)) (l : List ℕ) (more : List (List ℕ)) → is_comment l ≡ false → m ≡ length (said x) + 1 → line_from k m (x ++ (l ∷ more)) ≡ Some (k + length x + 1)
unfolding said
line_from_lem k m [] l more e q = rw (e, eq-eqb m 1 (omega arith)) (ap Some (omega arith))
line_from_lem k m (a ∷ x) l more e q =
    by_cases (is_comment a)
    (λ c. let h : m ≡ length (said x) + 1 = rw c at q in rw c (line_from_lem (k + 1) m x l more e h ∙ ap Some (omega arith)))
    (λ c.
    let h : m ≡ suc (length (said x)) + 1 = rw c at q in
    rw (c, ne_eqb m 1 (λ z. omega arith)) (line_from_lem (k + 1) (m - 1) x l more e (omega arith) ∙ ap Some (omega arith)))

-- the line behind some lines, if it is no comment, is the next of those that are none
pub line_of_next : (m : ℕ) (x : List (List ℕ)) (l : List ℕ) (more : List (List ℕ)) → is_comment l ≡ false → m ≡ length (said x) + 1 → line_of m (x ++ (l ∷ more)) ≡ Some (length x + 1)
unfolding line_of
line_of_next m x l more e q = line_from_lem 0 m x l more e q ∙ ap Some (omega arith)

-- ---- fewer lines

pub said_few : (ls : List (List ℕ)) → length (said ls) ≤ length ls
unfolding said
said_few [] = omega arith
said_few (l ∷ ls) = let h = said_few ls in by_cases (is_comment l) (λ e. rw e (omega arith)) (λ e. rw e (omega arith))

-- what the first lines say is the front of what all say
pub said-front : (n : ℕ) (ls : List (List ℕ)) → said (take n ls) ≡ take (length (said (take n ls))) (said ls)
said-front n ls =
    let s : said ls ≡ said (take n ls) ++ said (drop n ls) = ap said (sym (take-append-drop n ls)) ∙ said-append (take n ls) (drop n ls) in
    sym (rw s (take-append_seam (said (take n ls)) (said (drop n ls))))
