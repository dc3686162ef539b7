-- The reason that is given for a bad line is true of it.
use Prim.Native.Nat.{ℕ, suc, ◌≤◌, ◌<◌}
use native.Mathlib.Omega.{arith}
use mathlib.Core.Path.{◌≡◌, refl, sym, ◌∙◌, ap}
use mathlib.Core.Logic.{◌≢◌, ◌⊎◌, inl, inr, ⊎_elim}
use mathlib.Core.Bool.{Bool, true, false, not, false≢true, true≢false, ◌&&◌, ◌||◌}
use mathlib.Core.List.Memᴰ
use mathlib.Core.List.{List, [], ◌∷◌, ◌++◌, Memᴰ}
use lib.ListN.{length, drop}
use lib.Dec.{eqb, ltb, leb}
use borrow.Author.Tests.{eq-eqb, ne_eqb, eqb-true, eqb-false, lt-ltb, le-ltb, ltb-true, ltb-false, leb-true, leb-false, le-leb, not-true}
use Rattle.model.specs.Trace.{Event, read, join}
use Rattle.model.proofs.Tests.{by_cases, in_cons, both, true_both, either_true, clash, test_false}
use Rattle.format.specs.Readable.{line_feed, lowest_byte, highest_byte, is_readable_byte, is_readable}
use Rattle.appending.specs.Decimal.{decimal, value_from}
use Rattle.appending.proofs.DecimalLaws.{decimal_exactly}
use Rattle.wording.specs.Lines.{kind_word, event_line, IsEvent}
use Rattle.wording.specs.Parts.{first_at}
use Rattle.wording.specs.Reasons.{is_empty, has, begins_note, is_note_line, word_of, rest_of, is_word, begins_word, are_two, is_kind_word, is_digit, all_digits, leads_zero, number_reason, action_reason, word_reason, note_reason, reason_of, Word, ThreeWords, Digits, LeadsZero, Tells, empty, carriage_return, tab, late_note, note-byte, words, kind, no_number, leading_zero, too_large}
use Rattle.wording.proofs.FirstLaws.{first_clear, first_absent, first_split}
use Rattle.wording.proofs.NoteLaws.{note_these, true_note}
use Rattle.wording.proofs.LineLaws.{space_within, before_space, after_space}
use Rattle.wording.proofs.NumberLaws.{zero_alone}
use Rattle.wording.proofs.ReasonLaws.{word_known, known_word}

-- ---- tests

neither : (b c : Bool) → b || c ≡ false → (b ≡ false) × (c ≡ false)
neither true c e = absurd (true≢false e)
neither false c e = (refl, e)

not_both : (b c : Bool) → b && c ≡ false → (b ≡ false) ⊎ (c ≡ false)
not_both true c e = inr e
not_both false c e = inl refl

-- ---- a byte of a line

no_bytes : (s : List ℕ) → length s ≡ 0 → s ≡ []
no_bytes [] e = refl
no_bytes (b ∷ s) e = absurd (omega arith)

-- one that no note may have
unreadable : (s : List ℕ) → is_readable s ≡ false → (b : ℕ) × Memᴰ b s × ((b < lowest_byte) ⊎ (highest_byte < b))
unfolding is_readable is_readable_byte
unreadable [] e = absurd (true≢false e)
unreadable (b ∷ s) e =
    ⊎_elim
    (λ p.
    let n = neither (eqb b line_feed) (leb lowest_byte b && leb b highest_byte) p in
    (b, Memᴰ.head refl, ⊎_elim (λ q. inl (leb-false _ _ q)) (λ q. inr (leb-false _ _ q)) (not_both (leb lowest_byte b) (leb b highest_byte) n.1)))
    (λ p. let r = unreadable s p in (r.0, Memᴰ.tail r.1, r.2))
    (not_both (is_readable_byte b) (is_readable s) e)

has_in : (b : ℕ) (s : List ℕ) → has b s ≡ true → Memᴰ b s
has_in b s e = go s (ltb-true _ _ e)
  where
    go : (s : List ℕ) → first_at b s < length s → Memᴰ b s
    go [] h = absurd (omega arith)
    go (c ∷ s) h =
        by_cases (eqb c b) (λ e. Memᴰ.head (sym (eqb-true c b e)))
        (λ e. let g : suc (first_at b s) < suc (length s) = rw e at h in Memᴰ.tail (go s (omega arith)))

-- what has no space is whole
whole : (s : List ℕ) → ¬ Memᴰ 32 s → first_at 32 s ≡ length s
whole s n = first_absent 32 s (λ b m e. n (rw e at m))

in_has : (b : ℕ) (s : List ℕ) → Memᴰ b s → first_at b s < length s
in_has b [] m = elim m [ ]
in_has b (c ∷ s) (Memᴰ.head e) = rw (eq-eqb c b (sym e)) (omega arith)
in_has b (c ∷ s) (Memᴰ.tail m) = let h = in_has b s m in by_cases (eqb c b) (λ e. rw e (omega arith)) (λ e. rw e (omega arith))

has-none : (s : List ℕ) → first_at 32 s ≡ length s → ¬ Memᴰ 32 s
has-none s e m = let h = in_has 32 s m in omega arith

-- ---- three words

-- bytes
empty_none : (s : List ℕ) → not (is_empty s) ≡ true → s ≢ []
empty_none s e q = eqb-false (length s) 0 (not-true (is_empty s) e) (ap length q)

none_empty : (s : List ℕ) → s ≢ [] → not (is_empty s) ≡ true
none_empty s n = rw (ne_eqb (length s) 0 (λ q. n (no_bytes s q)))

-- one word
word-true : (s : List ℕ) → is_word s ≡ true → Word s
word-true s e =
    let p = both (not (is_empty s)) (not (has 32 s)) e in
    record { some = empty_none s p.0; clear = λ m. clash (lt-ltb _ _ (in_has 32 s m)) (not-true (has 32 s) p.1) }

true-word : (s : List ℕ) → Word s → is_word s ≡ true
true-word s w = true_both (none_empty s w.some) (let e = whole s w.clear in rw (le-ltb (first_at 32 s) (length s) (omega arith)))

-- a word, a space and the rest
module _ (s : List ℕ) where
  begins_true : begins_word s ≡ true → Word (word_of s) × (s ≡ word_of s ++ (32 ∷ rest_of s))
  begins_true e =
      let p = both (has 32 s) (not (is_empty (word_of s))) e in
      (record { some = empty_none (word_of s) p.1; clear = has-none (word_of s) (first_clear 32 s) }, first_split 32 s (first_at 32 s) refl (ltb-true _ _ p.0))

  true_begins : (x y : List ℕ) → Word x → s ≡ x ++ (32 ∷ y) → (begins_word s ≡ true) × (rest_of s ≡ y)
  true_begins x y w e =
      let n : not (is_empty (word_of s)) ≡ true = rw (before_space s (first_at 32 s) refl x y (whole x w.clear) e) (none_empty x w.some) in
      (true_both (lt-ltb _ _ (space_within s (first_at 32 s) refl x y (whole x w.clear) e)) n, after_space s (first_at 32 s) refl x y (whole x w.clear) e)

-- a word, and two behind it
three_true : (line : List ℕ) → begins_word line ≡ true → are_two (rest_of line) ≡ true → ThreeWords line (word_of line) (word_of (rest_of line)) (rest_of (rest_of line))
three_true line p q =
    let s = rest_of line in
    let b = both (begins_word s) (is_word (rest_of s)) q in
    let e = begins_true line p in
    let f = begins_true s b.0 in
    record { these = e.1 ∙ ap (λ (l : List ℕ). word_of line ++ (32 ∷ l)) f.1; first = e.0; second = f.0; third = word-true (rest_of s) b.1 }

true_three : {line x y z : List ℕ} → ThreeWords line x y z → (begins_word line ≡ true) × (are_two (rest_of line) ≡ true)
true_three {line} {x} {y} {z} t =
    let p = true_begins line x (y ++ (32 ∷ z)) t.first t.these in
    let q = true_begins (rest_of line) y z t.second p.1 in
    (p.0, true_both q.0 (rw q.1 (true-word z t.third)))

-- ---- digits

digit_true : (b : ℕ) → is_digit b ≡ true → (48 ≤ b) × (b ≤ 57)
digit_true b e = let p = both (leb 48 b) (leb b 57) e in (leb-true _ _ p.0, leb-true _ _ p.1)

digits-true : (s : List ℕ) → all_digits s ≡ true → Digits s
unfolding all_digits
digits-true [] e d m = absurd (Memᴰ.not-nil m)
digits-true (b ∷ s) e d m = let p = both (is_digit b) (all_digits s) e in in_cons m (λ q. rw q (digit_true b p.0)) (λ t. digits-true s p.1 d t)

true-digits : (s : List ℕ) → Digits s → all_digits s ≡ true
unfolding all_digits
true-digits [] f = refl
true-digits (b ∷ s) f =
    let g = f b (Memᴰ.head refl) in
    true_both {b = is_digit b} (true_both (le-leb _ _ g.0) (le-leb _ _ g.1)) (true-digits s (λ d m. f d (Memᴰ.tail m)))

leads_true : (s : List ℕ) → leads_zero s ≡ true → LeadsZero s
leads_true [] e = absurd (false≢true e)
leads_true (b ∷ []) e = absurd (false≢true e)
leads_true (b ∷ c ∷ s) e = let p = both (ltb 1 (length (b ∷ c ∷ s))) (eqb b 48) e in record { next = c; more = s; these = ap (λ (a : ℕ). a ∷ c ∷ s) (eqb-true b 48 p.1) }

-- digits with no leading zero are a number in decimal
in_decimal : (s : List ℕ) → s ≢ [] → Digits s → leads_zero s ≡ false → s ≡ decimal (value_from 0 s)
in_decimal s n d e = (decimal_exactly (value_from 0 s) s).0 (record { value = refl; digits_only = d; leading = zero_alone s n e })

-- ---- the reasons

module _ {line x y z : List ℕ} (t : ThreeWords line x y z) where
  -- numbers of the right size are those of an event
  event_there : (k : ℕ) → read ≤ k → k ≤ join → y ≡ kind_word k → x ≡ decimal (value_from 0 x) → value_from 0 x ≤ 255 → z ≡ decimal (value_from 0 z) → value_from 0 z ≤ 65535
      → (e : Event) × IsEvent line e
  unfolding event_line
  event_there k least most ey ex hx ez hz = (
    record { thread = value_from 0 x; kind = k; object = value_from 0 z },
    record {
      in_range = record { thread = omega arith; least = least; most = most; object = omega arith };
      these = t.these ∙ rw (← ex, ← ez, ey);
    },
  )

  -- so one of them is too large, where there is none
  one_large : ((e : Event) → ¬ IsEvent line e) → is_kind_word y ≡ true → Digits x → Digits z → (leads_zero x ≡ false) × (leads_zero z ≡ false) → (255 < value_from 0 x) ⊎ (65535 < value_from 0 z)
  one_large none known dx dz l =
      by_cases (ltb 255 (value_from 0 x)) (λ p. inl (ltb-true _ _ p))
      (λ p.
      by_cases (ltb 65535 (value_from 0 z)) (λ q. inr (ltb-true _ _ q))
      (λ q.
      let k = known_word y known in
      let e = event_there k.0 k.1 k.2 k.3 (in_decimal x t.first.some dx l.0) (ltb-false _ _ p) (in_decimal z t.third.some dz l.1) (ltb-false _ _ q) in
      absurd (none e.0 e.1)))

  number_tells : ((e : Event) → ¬ IsEvent line e) → is_kind_word y ≡ true → Tells line (number_reason x z)
  unfolding number_reason
  number_tells none known =
      by_cases (all_digits x && all_digits z)
      (λ n.
      let b = both (all_digits x) (all_digits z) n in
      let dx = digits-true x b.0 in
      let dz = digits-true z b.1 in
      by_cases (leads_zero x || leads_zero z)
      (λ l. rw (n, l) (leading_zero t (⊎_elim (λ p. inl (leads_true x p)) (λ p. inr (leads_true z p)) (either_true (leads_zero x) (leads_zero z) l))))
      (λ l. rw (n, l) (too_large t dx dz (one_large none known dx dz (neither (leads_zero x) (leads_zero z) l)))))
      (λ n. rw n (no_number t (⊎_elim (λ p. inl (test_false (true-digits x) p)) (λ p. inr (test_false (true-digits z) p)) (not_both (all_digits x) (all_digits z) n))))

module _ (line : List ℕ) (none : (e : Event) → ¬ IsEvent line e) where
  word_tells : Tells line (word_reason line)
  unfolding word_reason action_reason
  word_tells =
      by_cases (begins_word line)
      (λ p.
      by_cases (are_two (rest_of line))
      (λ q.
      let t = three_true line p q in
      by_cases (is_kind_word (word_of (rest_of line)))
      (λ k. rw (p, q, k) (number_tells t none k))
      (λ k. rw (p, q, k) (kind t (λ j l m e. clash (rw e (word_known j l m)) k))))
      (λ q. rw (p, q) (words (λ x y z t. clash (true_three t).1 q))))
      (λ p. rw p (words (λ x y z t. clash (true_three t).0 p)))

  note_tells : Tells line (note_reason line)
  unfolding note_reason
  note_tells =
      by_cases (is_note_line line) (λ n. rw n (late_note (true_note line n)))
      (λ n.
      by_cases (begins_note line)
      (λ b. let u = unreadable (drop 5 line) (rw b at n) in rw (n, b) (note-byte (note_these line b) u.1 u.2))
      (λ b. rw (n, b) word_tells))

  pub reason_true : Tells line (reason_of line)
  unfolding reason_of
  reason_true =
      by_cases (is_empty line) (λ e. rw e (empty (no_bytes line (eqb-true _ _ e))))
      (λ e.
      by_cases (has 13 line) (λ p. rw (e, p) (carriage_return (has_in 13 line p)))
      (λ p. by_cases (has 9 line) (λ q. rw (e, p, q) (tab (has_in 9 line q))) (λ q. rw (e, p, q) note_tells)))
