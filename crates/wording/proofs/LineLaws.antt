-- The ways through a line.
use Prim.Native.Nat.{ℕ, zero, suc, ◌+◌, ◌≤◌, ◌<◌}
use native.Mathlib.Omega.{arith}
use native.Mathlib.Numerals.{add-one}
use mathlib.Core.Path.{◌≡◌, refl, sym, ◌∙◌, ap}
use mathlib.Core.Logic.{◌≢◌}
use mathlib.Core.Bool.{Bool, true, false}
use mathlib.Core.List.Memᴰ
use mathlib.Core.List.{List, [], ◌∷◌, ◌++◌}
use lib.ListN.{length, take, drop, length-append}
use lib.Seq.{take_at}
use lib.Dec.{eqb}
use Rattle.model.proofs.Tests.{by_cases}
use Rattle.model.specs.Trace.{Event, read, write, acquire, release, fork, join}
use Rattle.limits.specs.Kinds.{kind_number}
use Rattle.limits.specs.declared.Kind.{Kind}
use Rattle.limits.specs.declared.Kind.TheVariants.{Read, Write, Acquire, Release, Fork, Join}
use Rattle.appending.specs.Decimal.{decimal, value_from, InDecimal}
use Rattle.appending.proofs.DecimalLaws.{decimal_value, decimal_in}
use Rattle.wording.specs.Lines.{read_word, write_word, acquire_word, release_word, fork_word, join_word, kind_word, note_line, IsNote, event_line, IsEvent, Reads, note, event, bad}
use Rattle.wording.specs.Parts.{SaysNote, first_at, ReadsNumber, ReadsKind, kind, no_kind, IsAction, ReadsAction, action, no_action, ReadsEvent, is_event, no-event}
use Rattle.wording.specs.declared.Line.{Line}
use Rattle.std.specs.Prelude.{Option, Some, None}
use Rattle.std.proofs.lemmas.Option.{none-some, same_Some}
use Rattle.wording.specs.declared.Line.TheVariants.{Note, Event as EventOf}
use Rattle.wording.proofs.FirstLaws.{from, from-drop, first-append, first_split}
use Rattle.wording.proofs.NoteLaws.{says_note, says_none}
use Rattle.wording.proofs.NumberLaws.{read_value, read_absent, decimal-whole}

-- ---- the words of the kinds

-- what is so of the six words is so of each kind's
pub each_word : (P : List ℕ → Type 0) → P read_word → P write_word → P acquire_word → P release_word → P fork_word → P join_word → (k : ℕ) → P (kind_word k)
unfolding kind_word
each_word P pr pw pa pe pf pj k =
    by_cases (eqb k read) (λ a. rw a pr)
    (λ a.
    by_cases (eqb k write) (λ b. rw (a, b) pw)
    (λ b.
    by_cases (eqb k acquire) (λ c. rw (a, b, c) pa)
    (λ c.
    by_cases (eqb k release) (λ d. rw (a, b, c, d) pe)
    (λ d.
    by_cases (eqb k fork) (λ e. rw (a, b, c, d, e) pf) (λ e. rw (a, b, c, d, e) pj)))))

pub no_word : (w : List ℕ) → w ≢ read_word → w ≢ write_word → w ≢ acquire_word → w ≢ release_word → w ≢ fork_word → w ≢ join_word → ReadsKind w None
no_word w nr nw na ne nf nj = no_kind (λ k. each_word (λ v. w ≢ v) nr nw na ne nf nj (kind_number k))

pub read_kind : {s : List ℕ} {r : Option Kind} → ReadsKind s r → (k : Kind) → r ≡ Some k → s ≡ kind_word (kind_number k)
read_kind (kind {k = j} e) k q = let z = same_Some j k q in rw z at e
read_kind (no_kind f) k q = absurd (none-some k q)

pub read-no_kind : {s : List ℕ} {r : Option Kind} → ReadsKind s r → r ≡ None → (k : Kind) → s ≢ kind_word (kind_number k)
read-no_kind (kind {k} e) z = absurd (none-some k (sym z))
read-no_kind (no_kind f) z = f

-- a kind's number is from the first to the last, and each of these is that of a kind
pub kind_within : (k : Kind) → (read ≤ kind_number k) × (kind_number k ≤ join)
kind_within Read = (omega arith, omega arith)
kind_within Write = (omega arith, omega arith)
kind_within Acquire = (omega arith, omega arith)
kind_within Release = (omega arith, omega arith)
kind_within Fork = (omega arith, omega arith)
kind_within Join = (omega arith, omega arith)

pub within_kind : (n : ℕ) → read ≤ n → n ≤ join → (k : Kind) × (n ≡ kind_number k)
within_kind zero l m = absurd (omega arith)
within_kind (suc zero) l m = (Read, refl)
within_kind (suc (suc zero)) l m = (Write, refl)
within_kind (suc (suc (suc zero))) l m = (Acquire, refl)
within_kind (suc (suc (suc (suc zero)))) l m = (Release, refl)
within_kind (suc (suc (suc (suc (suc zero))))) l m = (Fork, refl)
within_kind (suc (suc (suc (suc (suc (suc zero)))))) l m = (Join, refl)
within_kind (suc (suc (suc (suc (suc (suc (suc n))))))) l m = absurd (omega arith)

-- no word has a space
pub word-whole : (k : ℕ) → first_at 32 (kind_word k) ≡ length (kind_word k)
word-whole = each_word (λ w. first_at 32 w ≡ length w) refl refl refl refl refl refl

-- ---- at the first space

-- a word before the first space is all that stands before it
module _ (s : List ℕ) (i : ℕ) (at-space : i ≡ first_at 32 s) (x y : List ℕ) (whole : first_at 32 x ≡ length x) (these : s ≡ x ++ (32 ∷ y)) where
  space_at : i ≡ length x
  space_at = at-space ∙ (rw these (first-append 32 x y whole))

  pub space_within : i < length s
  space_within = let e = space_at in rw (these, length-append) (omega arith)

  pub before_space : take i s ≡ x
  before_space = rw these (take_at x (32 ∷ y) i (sym space_at))

  pub after_space : drop (i + 1) s ≡ y
  after_space = rw (add-one i, these) (behind x i space_at)
    where
      behind : (x : List ℕ) (i : ℕ) → i ≡ length x → drop (suc i) (x ++ (32 ∷ y)) ≡ y
      behind [] zero e = refl
      behind [] (suc i) e = absurd (omega arith)
      behind (b ∷ x) zero e = absurd (omega arith)
      behind (b ∷ x) (suc i) e = behind x i (omega arith)

-- what stands before the first space, and what stands after it
pub space_one : (x y x' y' : List ℕ) → first_at 32 x ≡ length x → first_at 32 x' ≡ length x' → x ++ (32 ∷ y) ≡ x' ++ (32 ∷ y') → (x ≡ x') × (y ≡ y')
space_one x y x' y' w w' e =
    let i : length x' ≡ first_at 32 (x' ++ (32 ∷ y')) = sym (first-append 32 x' y' w') in (
      sym (before_space (x' ++ (32 ∷ y')) (length x') i x y w (sym e)) ∙ before_space (x' ++ (32 ∷ y')) (length x') i x' y' w' refl,
      sym (after_space (x' ++ (32 ∷ y')) (length x') i x y w (sym e)) ∙ after_space (x' ++ (32 ∷ y')) (length x') i x' y' w' refl,
    )

pub same_number : (m n : ℕ) → decimal m ≡ decimal n → m ≡ n
same_number m n e = sym (decimal_value m) ∙ ap (value_from 0) e ∙ decimal_value n

-- ---- an event line from its kind on

module _ (t : ℕ) (s : List ℕ) (i : ℕ) (at-space : i ≡ first_at 32 s) where
  pub action_short : i ≡ length s → ReadsAction t s None
  action_short e = no_action (λ k o a. let w = space_within s i at-space (kind_word (kind_number k)) (decimal o) (word-whole (kind_number k)) a.these in omega arith)

  module _ (v : Option Kind) (x : ReadsKind (take i s) v) where
    pub action_kind : v ≡ None → ReadsAction t s None
    action_kind z = no_action (λ j o a. read-no_kind x z j (before_space s i at-space (kind_word (kind_number j)) (decimal o) (word-whole (kind_number j)) a.these))

    module _ (k : Kind) (known : v ≡ Some k) (n : Option ℕ) (y : ReadsNumber (from (i + 1) s) n) where
      pub action_number : n ≡ None → ReadsAction t s None
      action_number z = no_action (λ j o a. read_absent y z o a.object_fits (from-drop (i + 1) s ∙ after_space s i at-space (kind_word (kind_number j)) (decimal o) (word-whole (kind_number j)) a.these))

      pub action_good : (i ≡ length s → ⊥) → i ≤ length s → (o : ℕ) → n ≡ Some o → ReadsAction t s (Some (EventOf t k o))
      action_good ne h o e =
          let r = read_kind x k known in
          let v = read_value y o e in
          let p = first_split 32 s i at-space (omega arith) in
          action (record { object_fits = v.0; these = p ∙ (rw (r, ← from-drop (i + 1) s, v.1)) })

-- what an answer says
module _ {t : ℕ} {s : List ℕ} where
  action_means : {r : Option Line} → ReadsAction t s r → (p : List ℕ) → p ≡ decimal t → t < 256 → (line : List ℕ) → line ≡ p ++ (32 ∷ s) → ((e : Event) → IsEvent line e → (k : Kind) × IsAction s k e.object) → ReadsEvent line r
  unfolding event_line
  action_means (action {k} {o} a) p e h line q back = let w = kind_within k in is_event (record { in_range = record { thread = h; least = w.0; most = w.1; object = a.object_fits }; these = q ∙ rw (e, a.these) })
  action_means (no_action f) p e h line q back = no-event (λ e i. let b = back e i in f b.0 e.object b.1)

-- ---- an event line

module _ (line : List ℕ) (i : ℕ) (at-space : i ≡ first_at 32 line) where
  pub event_short : i ≡ length line → ReadsEvent line None
  unfolding event_line
  event_short h =
      no-event (λ e g.
      let w = space_within line i at-space (decimal e.thread) (kind_word e.kind ++ (32 ∷ decimal e.object)) (decimal-whole e.thread) g.these in
      omega arith)

  module _ (e : Event) (g : IsEvent line e) where
    event_thread : take i line ≡ decimal e.thread
    unfolding event_line
    event_thread = before_space line i at-space (decimal e.thread) (kind_word e.kind ++ (32 ∷ decimal e.object)) (decimal-whole e.thread) g.these

    event_action : (k : Kind) × IsAction (drop (i + 1) line) k e.object
    unfolding event_line
    event_action =
        let k = within_kind e.kind g.in_range.least g.in_range.most in
        let a = after_space line i at-space (decimal e.thread) (kind_word e.kind ++ (32 ∷ decimal e.object)) (decimal-whole e.thread) g.these in
        (k.0, record { object_fits = g.in_range.object; these = rw (← k.1) a })

  module _ (n : Option ℕ) (y : ReadsNumber (take i line) n) where
    pub event_number_lem : n ≡ None → ReadsEvent line None
    event_number_lem z = no-event (λ e g. let h = g.in_range.thread in read_absent y z e.thread (omega arith) (event_thread e g))

    module _ (t : ℕ) (is : n ≡ Some t) where
      pub event_large : 255 < t → ReadsEvent line None
      event_large l =
          no-event (λ e g.
          let v = read_value y t is in
          let same : decimal e.thread ≡ decimal t = sym (event_thread e g) ∙ v.1 in
          let eq = same_number e.thread t same in
          let h = g.in_range.thread in
          omega arith)

      pub event_read : (i ≡ length line → ⊥) → i ≤ length line → (u : ℕ) → u ≡ t → t < 256 → (r : Option Line) → ReadsAction u (from (i + 1) line) r → ReadsEvent line r
      event_read ne h u same l r a =
          let v = read_value y t is in
          let b : ReadsAction t (drop (i + 1) line) r = rw (same, from-drop (i + 1) line) at a in
          action_means b (take i line) v.1 (omega arith) line (first_split 32 line i at-space (omega arith)) event_action

-- ---- a line

module _ (line : List ℕ) (b : Bool) (s : SaysNote line b) where
  pub line_note : b ≡ true → Reads line (Some Note)
  line_note e = note (says_note s e)

  pub line_other : b ≡ false → (r : Option Line) → ReadsEvent line r → Reads line r
  line_other e r x = go (says_none s e) x
    where
      go : {r : Option Line} → ¬ IsNote line → ReadsEvent line r → Reads line r
      go f (is_event i) = event i
      go f (no-event g) = bad f g

-- ---- what an answer says

-- an event line begins with a digit, a note line does not
begins : {n : ℕ} (d rest text : List ℕ) → InDecimal n d → d ++ rest ≡ note_line text → ⊥
begins [] rest text i e = let h = ap length (i.leading refl) in omega arith
begins (x ∷ d) rest text i e = let h = i.digits_only x (Memᴰ.head refl) in let q : x ≡ 110 = cc in omega arith

pub event_apart : (e : Event) (text : List ℕ) → event_line e ≡ note_line text → ⊥
unfolding event_line
event_apart e text q = begins (decimal e.thread) (32 ∷ (kind_word e.kind ++ (32 ∷ decimal e.object))) text (decimal_in e.thread) q

module _ {line : List ℕ} where
  pub event_no_note : (e : Event) → IsEvent line e → ¬ IsNote line
  event_no_note e i n = event_apart e n.text (sym i.these ∙ n.these)

  pub reads_note : {r : Option Line} → Reads line r → r ≡ Some Note → IsNote line
  reads_note (note n) e = n
  reads_note (event {t} {k} {o} i) e = let z = same_Some (EventOf t k o) Note e in let o : ◌≡◌ {A = ℕ} 0 1 = cc in absurd (omega arith)
  reads_note (bad f g) e = absurd (none-some Note e)

  pub reads_event : {r : Option Line} → Reads line r → (t : ℕ) (k : Kind) (o : ℕ) → r ≡ Some (EventOf t k o) → IsEvent line (record { thread = t; kind = kind_number k; object = o })
  reads_event (note n) t k o e = let z = same_Some Note (EventOf t k o) e in let o : ◌≡◌ {A = ℕ} 0 1 = cc in absurd (omega arith)
  reads_event (event {t = a} {k = b} {o = c} i) t k o e =
      let z = same_Some (EventOf a b c) (EventOf t k o) e in
      let p : a ≡ t = cc in
      let q : b ≡ k = cc in
      let r : c ≡ o = cc in
      rw (p, q, r) at i
  reads_event (bad f g) t k o e = absurd (none-some (EventOf t k o) e)

  pub reads_bad : {r : Option Line} → Reads line r → r ≡ None → (¬ IsNote line) × ((e : Event) → ¬ IsEvent line e)
  reads_bad (note n) e = absurd (none-some Note (sym e))
  reads_bad (event {t} {k} {o} i) e = absurd (none-some (EventOf t k o) (sym e))
  reads_bad (bad f g) e = (f, g)
