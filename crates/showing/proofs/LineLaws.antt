-- Note lines and event lines: what they are made of, how long they are, and that they are lines.
use Prim.Native.Nat.{ℕ, zero, suc, ◌+◌, ◌-◌, ◌*◌, ◌≤◌, ◌<◌}
use native.Mathlib.Omega.{arith}
use mathlib.Core.Path.{◌≡◌, refl, ap}
use mathlib.Core.Bool.{false}
use mathlib.Core.Logic.{◌≢◌, ⊎_elim}
use mathlib.Core.List.Memᴰ
use mathlib.Core.List.{List, [], ◌∷◌, ◌++◌, map, map-append, append_assoc, Memᴰ}
use lib.ListN.{length, get_or, take, length-append}
use lib.Seq.{take-suc, take_all}
use lib.Dec.{eqb}
use borrow.Author.Tests.{eqb-true, eqb-false, ne_eqb}
use Rattle.model.proofs.Tests.{by_cases, object_small}
use Rattle.model.specs.Trace.{Event, Trace, Valid, no_event, at}
use Rattle.model.specs.Good.{Good}
use Rattle.appending.specs.Decimal.{decimal, InDecimal}
use Rattle.appending.proofs.DecimalLaws.{decimal_few, decimal_in}
use Rattle.wording.specs.Lines.{note_word, note_line, kind_word, event_line, is_comment}
use Rattle.composing.specs.Texts.{extend, lines, said}
use Rattle.wording.proofs.FirstLaws.{first_rest, first_absent}
use Rattle.wording.proofs.LineLaws.{each_word}
use Rattle.showing.specs.Shown.{notes_of, lines_with, text_from, text_with}
use Rattle.showing.specs.Pieces.{note_byte, byte_width, note_bytes, notes_text, event_text, events_text, event_line_bytes}
use Rattle.showing.proofs.TextLaws.{Whole, text_append, lines-some}

-- ---- they are lines

whole_then : (x y : List ℕ) → Whole x → Whole y → Whole (x ++ y)
whole_then [] y v w = w
whole_then (b ∷ x) y v w = let g = first_rest 10 b x v in rw (g.0, whole_then x y g.1 w)

pub whole_note : (t : List ℕ) → Whole (note_line t) → Whole t
whole_note t w = omega arith

note_whole : (t : List ℕ) → Whole t → Whole (note_line t)
note_whole t w = rw w

decimal-whole : (n : ℕ) → Whole (decimal n)
decimal-whole n = first_absent 10 (decimal n) (λ b m e. let h = (decimal_in n).digits_only b m in omega arith)

word-whole : (k : ℕ) → Whole (kind_word k)
word-whole = each_word Whole refl refl refl refl refl refl

event_whole : (e : Event) → Whole (event_line e)
unfolding event_line
event_whole e =
    whole_then (decimal e.thread) (32 ∷ (kind_word e.kind ++ (32 ∷ decimal e.object))) (decimal-whole e.thread)
    (ap suc (whole_then (kind_word e.kind) (32 ∷ decimal e.object) (word-whole e.kind) (ap suc (decimal-whole e.object))))

-- a property of all note lines and of all event lines
each_line : (P : List ℕ → Type 0) (notes : List (List ℕ)) (es : Trace) → ((t : List ℕ) → Memᴰ t notes → P (note_line t)) → ((e : Event) → P (event_line e)) → (l : List ℕ) → Memᴰ l (lines_with notes es) → P l
each_line P notes es f g l m =
    ⊎_elim (λ i. let x = Memᴰ.of_map note_line notes i in let q = x.2 in rw (← q) (f x.0 x.1))
    (λ i. let x = Memᴰ.of_map event_line es i in let q = x.2 in rw (← q) (g x.0))
    (Memᴰ.append_cases (map note_line notes) m)

pub lines_with_whole : (notes : List (List ℕ)) (es : Trace) → ((t : List ℕ) → Memᴰ t notes → Whole t) → (l : List ℕ) → Memᴰ l (lines_with notes es) → Whole l
lines_with_whole notes es w = each_line Whole notes es (λ t m. note_whole t (w t m)) event_whole

-- ---- none is a comment

digits_begin : {n : ℕ} (d rest : List ℕ) → InDecimal n d → get_or (d ++ rest) 0 0 ≢ 35
digits_begin [] rest i e = let h = ap length (i.leading refl) in omega arith
digits_begin (x ∷ d) rest i e = let h = i.digits_only x (Memᴰ.head refl) in omega arith

event_begins : (e : Event) → get_or (event_line e) 0 0 ≢ 35
unfolding event_line
event_begins e = digits_begin (decimal e.thread) (32 ∷ (kind_word e.kind ++ (32 ∷ decimal e.object))) (decimal_in e.thread)

plain : (l : List ℕ) → get_or l 0 0 ≢ 35 → is_comment l ≡ false
plain [] ne = refl
plain (b ∷ l) ne = ne_eqb b 35 ne

all_said : (ls : List (List ℕ)) → ((l : List ℕ) → Memᴰ l ls → is_comment l ≡ false) → said ls ≡ ls
unfolding said
all_said [] f = refl
all_said (l ∷ ls) f = rw (f l (Memᴰ.head refl), all_said ls (λ k m. f k (Memᴰ.tail m)))

pub lines-said : (notes : List (List ℕ)) (es : Trace) → said (lines_with notes es) ≡ lines_with notes es
lines-said notes es = all_said (lines_with notes es) (each_line (λ (l : List ℕ). is_comment l ≡ false) notes es (λ t m. refl) (λ e. plain (event_line e) (event_begins e)))

-- ---- the note lines, byte by byte

pub bytes_append : (p q : List ℕ) → note_bytes (p ++ q) ≡ note_bytes p ++ note_bytes q
unfolding note_bytes
bytes_append [] q = refl
bytes_append (b ∷ p) q = rw (bytes_append p q, append_assoc)

extend_note : (b : ℕ) (ls : List (List ℕ)) (x : List ℕ) → 1 ≤ length ls → text_from (map note_line ls) ≡ note_word ++ x → text_from (map note_line (extend b ls)) ≡ note_word ++ (b ∷ x)
unfolding text_from
extend_note b [] x h e = absurd (omega arith)
extend_note b (l ∷ ls) x h e = let q : l ++ (10 ∷ text_from (map note_line ls)) ≡ x = cc in rw q

notes_bytes : (p : List ℕ) → text_from (map note_line (lines (p ++ (10 ∷ [])))) ≡ note_word ++ (note_bytes p ++ (10 ∷ []))
unfolding text_from lines note_bytes
notes_bytes [] = refl
notes_bytes (b ∷ p) =
    let i = notes_bytes p in
    by_cases (eqb b 10) (λ e. rw (e, i))
    (λ e. rw e (extend_note b (lines (p ++ (10 ∷ []))) (note_bytes p ++ (10 ∷ [])) (lines-some (p ++ (10 ∷ [])) (rw length-append (omega arith))) i))

pub no_notes : (p : List ℕ) → length p ≡ 0 → notes_text p ≡ []
unfolding notes_text notes_of text_from
no_notes [] h = refl
no_notes (b ∷ p) h = absurd (omega arith)

pub some_notes : (p : List ℕ) → (length p ≡ 0 → ⊥) → notes_text p ≡ note_word ++ (note_bytes p ++ (10 ∷ []))
unfolding notes_text notes_of
some_notes [] ne = absurd (ne refl)
some_notes (b ∷ p) ne = notes_bytes (b ∷ p)

byte_few : (b : ℕ) → length (note_byte b) ≤ byte_width
byte_few b = by_cases (eqb b 10) (λ e. rw e (omega arith)) (λ e. rw e (omega arith))

bytes_few : (p : List ℕ) → length (note_bytes p) ≤ byte_width * length p
unfolding note_bytes
bytes_few [] = omega arith
bytes_few (b ∷ p) = let h = byte_few b in let i = bytes_few p in rw length-append (omega arith)

pub notes_few : (p : List ℕ) → length (notes_text p) ≤ byte_width * length p + byte_width
notes_few p =
    by_cases (eqb (length p) 0) (λ e. rw (no_notes p (eqb-true _ _ e)) (omega arith))
    (λ e. let i = bytes_few p in rw (some_notes p (eqb-false _ _ e)) (simp length-append (omega arith)))

-- ---- the event lines, one by one

events-append : (es fs : Trace) → events_text (es ++ fs) ≡ events_text es ++ events_text fs
unfolding events_text
events-append es fs = rw (map-append, text_append)

events_one : (e : Event) → events_text (e ∷ []) ≡ event_text e
unfolding events_text event_text text_from
events_one e = refl

pub events-next : (t : Trace) (k : ℕ) → 1 ≤ k → k ≤ length t → events_text (take k t) ≡ events_text (take (k - 1) t) ++ event_text (at t k)
events-next t zero h g = absurd (omega arith)
events-next t (suc i) h g =
    let z : suc i - 1 ≡ i = omega arith in
    rw (z, take-suc t i no_event (omega arith), events-append (take i t) (get_or t i no_event ∷ []), events_one (get_or t i no_event))

pub word_few : (k : ℕ) → length (kind_word k) ≤ 7
word_few = each_word (λ w. length w ≤ 7) (omega arith) (omega arith) (omega arith) (omega arith) (omega arith) (omega arith)

event_few : (e : Event) → e.thread < 1000 → e.object < 100000 → length (event_text e) ≤ event_line_bytes
unfolding event_text event_line
event_few e h g =
    let a = decimal_few 2 e.thread (omega arith) in
    let b = word_few e.kind in
    let c = decimal_few 4 e.object (omega arith) in
    simp length-append (omega arith)

module _ (t : Trace) (g : Good t) where
  events_few : (i : ℕ) → i ≤ length t → length (events_text (take i t)) ≤ event_line_bytes * i
  unfolding events_text text_from
  events_few zero h = omega arith
  events_few (suc i) h =
      let v : Valid t (suc i) = record { positive = omega arith; bounded = h } in
      let a = g.thread_limit (suc i) v in
      let b = object_small t g (suc i) v in
      let c = event_few (at t (suc i)) (omega arith) (omega arith) in
      let d = events_few i (omega arith) in
      let z : suc i - 1 ≡ i = omega arith in
      rw (events-next t (suc i) (omega arith) h, length-append, z) (omega arith)

  pub all-events_few : length (events_text t) ≤ event_line_bytes * length t
  all-events_few = rw (take_all (length t) t (omega arith)) at (events_few (length t) (omega arith))

-- ---- the text

pub text_parts : (p : List ℕ) (es : Trace) → text_with p es ≡ notes_text p ++ events_text es
unfolding text_with notes_text events_text
text_parts p es = text_append (map note_line (notes_of p)) (map event_line es)
