-- The ways through a text.
use Prim.Native.Nat.{ℕ, suc, ◌+◌, ◌-◌, ◌≤◌, ◌<◌}
use native.Mathlib.Omega.{arith}
use mathlib.Core.Path.{◌≡◌, refl, sym, ◌∙◌, ap, subst}
use mathlib.Core.Logic.{⊎_elim}
use mathlib.Core.Bool.{Bool, false, not}
use mathlib.Core.List.{List, [], ◌∷◌, ◌++◌, map, map-append, append_assoc, append-nil, Memᴰ}
use lib.ListN.{length, take, drop, set, length-append, length-drop, length-map}
use lib.Seq.{take_at, get_or_at, length-take-le}
use lib.Dec.{eqb}
use borrow.Author.Tests.{ne_eqb, not-false}
use Rattle.model.proofs.Tests.{by_cases}
use Rattle.model.specs.Trace.{Event, Trace}
use Rattle.appending.specs.Appended.{Appends}
use Rattle.appending.proofs.AppendLaws.{appends_nothing, appends_byte, appends_then}
use Rattle.format.specs.Readable.{Readable}
use Rattle.wording.specs.Lines.{note_line, IsNote, event_line, InRange, IsEvent, is_comment, Reads}
use Rattle.composing.specs.Texts.{lines, line_at, said, line_of, joined, Makes, Listed, ReadsText, good, bad_line}
use Rattle.wording.specs.Parts.{SaysNote}
use Rattle.composing.specs.Parts.{LineEnd, Says, Skips, NextSaid, note_bytes, NotesRead, NotesUpTo, ListsLent, EventsRead, ReadsEvents, all, stopped, StopsAt, BadAt}
use Rattle.wording.specs.Reasons.{reason_of}
use Rattle.std.specs.Prelude.{Option, Some, None, Ok, Err}
use Rattle.std.proofs.lemmas.Option.{none-some, same_Some}
use Rattle.wording.specs.declared.Line.{Line}
use Rattle.limits.specs.Kinds.{kind_number}
use Rattle.limits.specs.declared.Kind.{Kind}
use Rattle.wording.specs.declared.Line.TheVariants.{Note, Event as EventOf}
use Rattle.composing.specs.declared.BadLine.{BadLine}
use Rattle.composing.specs.declared.Events.{Events}
use Rattle.wording.proofs.FirstLaws.{from, from-drop}
use Rattle.wording.proofs.NoteLaws.{says_note}
use Rattle.wording.proofs.LineLaws.{event_apart, event_no_note, reads_note, reads_event, reads_bad}
use Rattle.composing.proofs.LinesLaws.{lines_none, comment_line}
use Rattle.composing.proofs.SaidLaws.{says_nothing, says_then, says_here, says_line, says_all, said-append, said_on, line_of_next}

-- ---- one more at the end of a list

pub all_more : {A : Type 0} (P : A → Type 0) (l : List A) (x : A) → ((a : A) → Memᴰ a l → P a) → P x → (a : A) → Memᴰ a (l ++ (x ∷ [])) → P a
all_more P l x f p a m = ⊎_elim (λ g. f a g) (λ g. subst P (sym (mathlib.Core.List.Memᴰ.eq_of_singleton g)) p) (mathlib.Core.List.Memᴰ.append_cases l m)

length_more : {A : Type 0} (l : List A) (x : A) → length (l ++ (x ∷ [])) ≡ length l + 1
length_more l x = rw length-append (omega arith)

note_later : (n : ℕ) (text : List ℕ) → note_bytes (suc n) text ≡ 10 ∷ text
note_later n text = rw (ne_eqb (suc n) 0 (λ z. omega arith))

joined_more : (notes : List (List ℕ)) (t : List ℕ) → joined (notes ++ (t ∷ [])) ≡ joined notes ++ note_bytes (length notes) t
unfolding joined
joined_more [] t = refl
joined_more (x ∷ []) t = refl
joined_more (x ∷ y ∷ l) t = rw (joined_more (y ∷ l) t, note_later (length l) t, note_later (suc (length l)) t, append_assoc)

-- one more line that is no comment
says_more : {A : Type 0} (f : A → List ℕ) (l : List A) (x : A) {text line : List ℕ} {from at next : ℕ} → Says text from at (map f l) → Says text at next (line ∷ []) → line ≡ f x
    → Says text from next (map f (l ++ (x ∷ [])))
says_more f l x s t e = rw map-append (rw e at (says_then s t))

-- ---- the text of a note line, put

pub next_note : (n : ℕ) → (n ≡ 0 → ⊥) → (text : List ℕ) {at : ℕ} {out mid out' : List ℕ} {p r : ℕ} → Appends (10 ∷ []) at out mid p → Appends text p mid out' r
    → Appends (note_bytes n text) at out out' r
next_note n ne text a b = rw (ne_eqb n 0 ne) (appends_then a b)

note_bytes_few : (n : ℕ) (text : List ℕ) → length (note_bytes n text) ≤ 1 + length text
note_bytes_few n text = by_cases (eqb n 0) (λ e. rw e (omega arith)) (λ e. rw e (omega arith))

-- behind the texts of the note lines before it
note_put : (notes : List (List ℕ)) (t s : List ℕ) (n : ℕ) {p q : ℕ} {pre₀ pre pre' : List ℕ} → n ≡ length notes → s ≡ t → Appends (joined notes) 0 pre₀ pre p → Appends (note_bytes n s) p pre pre' q
    → Appends (joined (notes ++ (t ∷ []))) 0 pre₀ pre' q × (q ≤ p + 1 + length t)
note_put notes t s n {p} {q} {pre₀} {pre} {pre'} e g a b =
    let c : Appends (note_bytes (length notes) t) p pre pre' q = rw (e, g) at b in
    (rw (joined_more notes t) (appends_then a c), let h = note_bytes_few (length notes) t in let d = c.ends in omega arith)

-- ---- note lines

pub notes_start : (text pre : List ℕ) (at : ℕ) → Skips text 0 at → NotesRead text pre pre 0 0 at
unfolding joined
notes_start text pre at s =
    record {
      notes = [];
      these = s.nothing;
      readable = λ t m. absurd (mathlib.Core.List.Memᴰ.not-nil m);
      number = refl;
      put = appends_nothing 0 pre (omega arith);
      stands = s.stands;
      few = omega arith;
      short = omega arith;
    }

module _ {text pre₀ pre : List ℕ} {n p at : ℕ} (r : NotesRead text pre₀ pre n p at) where
  pub notes_over : length text ≤ at → NotesUpTo text pre₀ pre n p at
  notes_over h =
      record {
        read = r;
        stops = λ l more e. let z = lines_none text at h in let o : ◌≡◌ {A = ℕ} 0 1 = cc in absurd (omega arith);
      }

  module _ {end : ℕ} (l : LineEnd text at end) {b : Bool} (x : SaysNote (take (end - at) (drop at text)) b) where
    line_length : length (take (end - at) (drop at text)) ≡ end - at
    line_length = let d = length-drop at text in let h = l.high in length-take-le (end - at) (drop at text) (omega arith)

    module _ (e : not b ≡ false) where
      is_note : IsNote (take (end - at) (drop at text))
      is_note = says_note x (not-false b e)

      pub note_five : 5 ≤ length (take (end - at) (drop at text))
      note_five = let g = ap length is_note.these in omega arith

      text_of : from 5 (take (end - at) (drop at text)) ≡ is_note.text
      text_of = from-drop 5 (take (end - at) (drop at text)) ∙ ap (drop 5) is_note.these

      text_length : length is_note.text + 5 ≡ end - at
      text_length = let g = ap length is_note.these in let h = line_length in omega arith

      pub notes_on : {pre' : List ℕ} {q : ℕ} → Appends (note_bytes n (from 5 (take (end - at) (drop at text)))) p pre pre' q → at < length text → {next : ℕ} → NextSaid text end next
          → NotesRead text pre₀ pre' (n + 1) q next
      notes_on {pre'} {q} v h {next} k =
          let c = note_put r.notes is_note.text (from 5 (take (end - at) (drop at text))) n r.number text_of r.put v in
          let t = text_length in
          record {
            notes = r.notes ++ (is_note.text ∷ []);
            these = says_more note_line r.notes is_note.text r.these (says_line r.stands l k) is_note.these;
            readable = all_more (λ (t : List ℕ). Readable t) r.notes is_note.text r.readable is_note.readable;
            number = let m = length_more r.notes is_note.text in let u = r.number in omega arith;
            put = c.0;
            stands = k.stands;
            few = let u = r.few in let v = said_on h l k in omega arith;
            short = let s = c.1 in let u = r.short in let v = l.low in let w = k.low in omega arith;
          }

-- ---- event lines

listed-none : (th ki ob : List ℕ) → Listed [] th th ki ki ob ob 0
listed-none th ki ob = record { threads = appends_nothing 0 th (omega arith); kinds = appends_nothing 0 ki (omega arith); objects = appends_nothing 0 ob (omega arith) }

pub events-start : (text : List ℕ) (from : ℕ) (th ki ob : List ℕ) → ListsLent text from th ki ob → EventsRead text from th th ki ki ob ob 0 from
events-start text from th ki ob g =
    record {
      es = [];
      these = says_nothing text from;
      in_range = λ e m. absurd (mathlib.Core.List.Memᴰ.not-nil m);
      number = refl;
      put = listed-none th ki ob;
      stands = g.start;
      few = omega arith;
    }

put_more : (f : Event → ℕ) (es : Trace) (e : Event) (l₀ l : List ℕ) (n : ℕ) → n < length l → Appends (map f es) 0 l₀ l n → Appends (map f (es ++ (e ∷ []))) 0 l₀ (set l n (f e)) (n + 1)
put_more f es e l₀ l n h a = rw map-append (appends_then a (appends_byte (f e) n l (omega arith)))

module _ {text : List ℕ} {from : ℕ} {th₀ th ki₀ ki ob₀ ob : List ℕ} {n at : ℕ} (r : EventsRead text from th₀ th ki₀ ki ob₀ ob n at) where
  pub events-all : length text ≤ at → ReadsEvents text from th₀ th ki₀ ki ob₀ ob (record { count = n; stop = None })
  events-all h = all r h refl

  module _ (within : at < length text) {end : ℕ} (l : LineEnd text at end) {a : Option Line} (x : Reads (take (end - at) (drop at text)) a) where
    pub events_bad : a ≡ None → ReadsEvents text from th₀ th ki₀ ki ob₀ ob (record { count = n; stop = Some at })
    events_bad e = stopped r within l.splits (reads_bad x e).1 refl

    pub events_note : a ≡ Some Note → ReadsEvents text from th₀ th ki₀ ki ob₀ ob (record { count = n; stop = Some at })
    events_note e = stopped r within l.splits (λ f i. event_no_note f i (reads_note x e)) refl

    pub events_on : ListsLent text from th₀ ki₀ ob₀ → (t : ℕ) (k : Kind) (n' : ℕ) → n' ≡ kind_number k → (o : ℕ) → a ≡ Some (EventOf t k o) → {next : ℕ} → NextSaid text end next
        → EventsRead text from th₀ (set th n t) ki₀ (set ki n n') ob₀ (set ob n o) (n + 1) next
    events_on g t k n' is o e {next} y = rw is (go (record { thread = t; kind = kind_number k; object = o }) (reads_event x t k o e))
      where
        go : (v : Event) → IsEvent (take (end - at) (drop at text)) v → EventsRead text from th₀ (set th n v.thread) ki₀ (set ki n v.kind) ob₀ (set ob n v.object) (n + 1) next
        go v i =
            let f = r.few in
            let s = r.put.threads.same in
            let s' = r.put.kinds.same in
            let s'' = r.put.objects.same in
            let u = g.threads in
            let u' = g.kinds in
            let u'' = g.objects in
            record {
              es = r.es ++ (v ∷ []);
              these = says_more event_line r.es v r.these (says_line r.stands l y) i.these;
              in_range = all_more InRange r.es v r.in_range i.in_range;
              number = let m = length_more r.es v in let k = r.number in omega arith;
              put = record {
                threads = put_more (λ (e : Event). e.thread) r.es v th₀ th n (omega arith) r.put.threads;
                kinds = put_more (λ (e : Event). e.kind) r.es v ki₀ ki n (omega arith) r.put.kinds;
                objects = put_more (λ (e : Event). e.object) r.es v ob₀ ob n (omega arith) r.put.objects;
              };
              stands = y.stands;
              few = let w = said_on within l y in omega arith;
            }

-- ---- lines that make no recording

map_in : {A : Type 0} (f : A → List ℕ) (l : List A) (y : List ℕ) → Memᴰ y (map f l) → (x : A) × Memᴰ x l × (y ≡ f x)
map_in f [] y m = absurd (mathlib.Core.List.Memᴰ.not-nil m)
map_in f (a ∷ l) y (mathlib.Core.List.Memᴰ.head e) = (a, mathlib.Core.List.Memᴰ.head refl, e)
map_in f (a ∷ l) y (mathlib.Core.List.Memᴰ.tail m) = let r = map_in f l y m in (r.0, mathlib.Core.List.Memᴰ.tail r.1, r.2)

-- the last of two lists together is in the second, where that has any
last_in : {A : Type 0} (xs : List A) (x : A) (ys : List A) (z : A) (zs : List A) → xs ++ (x ∷ []) ≡ ys ++ (z ∷ zs) → Memᴰ x (z ∷ zs)
last_in xs x [] z zs e = let m : Memᴰ x (xs ++ (x ∷ [])) = mathlib.Core.List.Memᴰ.append_right xs (mathlib.Core.List.Memᴰ.head refl) in rw e at m
last_in [] x (y ∷ ys) z zs e = let h = ap length e in let g = length-append ys (z ∷ zs) in absurd (omega arith)
last_in (w ∷ xs) x (y ∷ ys) z zs e = last_in xs x ys z zs cc

-- lines that say a front, and a line that is no event line, with f no note line the first of those after the notes
module _ (ls front : List (List ℕ)) (l : List ℕ) (says : said ls ≡ front ++ (l ∷ [])) (no-event : (e : Event) → ¬ IsEvent l e) (f : List ℕ) (no_note : ¬ IsNote f) (there : Memᴰ f (front ++ (l ∷ []))) where
  makes_none : (notes : List (List ℕ)) (es : Trace) → ¬ Makes ls notes es
  makes_none notes [] m =
      let e : front ++ (l ∷ []) ≡ map note_line notes = sym says ∙ m.these ∙ append-nil (map note_line notes) in
      let i : Memᴰ f (map note_line notes) = rw e at there in
      let r = map_in note_line notes f i in
      no_note (record { text = r.0; readable = m.readable r.0 r.1; these = r.2 })
  makes_none notes (e ∷ es) m =
      let r = map_in event_line (e ∷ es) l (last_in front l (map note_line notes) (event_line e) (map event_line es) (sym says ∙ m.these)) in
      no-event r.0 (record { in_range = m.in_range r.0 r.1; these = r.2 })

-- ---- the text

module _ {text pre pre' : List ℕ} {a p end : ℕ} (r : NotesUpTo text pre pre' a p end) {th th' ki ki' ob ob' : List ℕ} where
  pub text_good : {v : Events} → ReadsEvents text end th th' ki ki' ob ob' v → v.stop ≡ None → ReadsText text pre pre' th th' ki ki' ob ob' (Ok (record { notes = a; preamble = p; events = v.count }))
  text_good (all s h q) e =
      good (record { these = says_all (says_then r.read.these s.these) h; readable = r.read.readable; in_range = s.in_range }) r.read.number s.number r.read.put s.put
  text_good (stopped {at} s h g f q) e = absurd (none-some at (sym e ∙ q))

  -- the line at which the events stop
  module _ {n at : ℕ} {l : List ℕ} {more : List (List ℕ)} (s : EventsRead text end th th' ki ki' ob ob' n at) (g : lines (drop at text) ≡ l ∷ more) (f : (e : Event) → ¬ IsEvent l e) where
    front : List (List ℕ)
    front = map note_line r.read.notes ++ map event_line s.es

    front_length : length front ≡ a + n
    unfolding front
    front_length = let x = r.read.number in let y = s.number in rw (length-append, length-map r.read.notes note_line, length-map s.es event_line) (omega arith)

    -- the lines before it, with the comments
    before : Says text 0 at front
    unfolding front
    before = says_then r.read.these s.these

    whole : lines text ≡ before.between ++ (l ∷ more)
    whole = before.splits ∙ ap (λ (ls : List (List ℕ)). before.between ++ ls) g

    plain : is_comment l ≡ false
    plain = comment_line text at g ∙ s.stands.plain

    stop_says : said (before.between ++ (l ∷ [])) ≡ front ++ (l ∷ [])
    unfolding said
    stop_says = said-append before.between (l ∷ []) ∙ rw (before.says, plain)

    stop_number : line_of (a + n + 1) (lines text) ≡ Some (length before.between + 1)
    stop_number = let fl = front_length in let y = ap length before.says in rw whole (line_of_next (a + n + 1) before.between l more plain (omega arith))

    -- the first line after the notes is among those up to the stop
    first-after : (first : List ℕ) × (¬ IsNote first) × Memᴰ first (front ++ (l ∷ []))
    unfolding front
    first-after = go s.es s.these
      where
        go : (es : Trace) → Says text end at (map event_line es)
            → (first : List ℕ) × (¬ IsNote first) × Memᴰ first ((map note_line r.read.notes ++ map event_line es) ++ (l ∷ []))
        go [] e = (l, r.stops l more (says_here r.read.stands e ∙ g), mathlib.Core.List.Memᴰ.append_right (map note_line r.read.notes ++ []) (mathlib.Core.List.Memᴰ.head refl))
        go (v ∷ es) e = (
          event_line v,
          λ n. event_apart v n.text n.these,
          mathlib.Core.List.Memᴰ.append_left (l ∷ []) (mathlib.Core.List.Memᴰ.append_right (map note_line r.read.notes) (mathlib.Core.List.Memᴰ.head refl)),
        )

    stop_at : line_at (length before.between + 1) text ≡ l
    stop_at = rw whole (get_or_at before.between l more [] (length before.between + 1 - 1) (omega arith))

    stop_line : ReadsText text pre pre' th th' ki ki' ob ob' (Err (record { number = length before.between + 1; reason = reason_of l }))
    unfolding front
    stop_line =
        let k = length before.between in
        let wl = ap length whole ∙ length-append before.between (l ∷ more) in
        let w : lines text ≡ (before.between ++ (l ∷ [])) ++ more = whole ∙ rw append_assoc in
        let t : take (k + 1 - 1) (lines text) ≡ before.between = rw whole (take_at before.between (l ∷ more) (k + 1 - 1) (omega arith)) in
        let u : take (k + 1) (lines text) ≡ before.between ++ (l ∷ []) = rw w (take_at (before.between ++ (l ∷ [])) more (k + 1) (length_more before.between l)) in
        let m = first-after in
        bad_line {b = record { number = k + 1; reason = reason_of l }} (record {
          notes = r.read.notes;
          es = s.es;
          least = omega arith;
          most = omega arith;
          before = record { these = ap said t ∙ before.says; readable = r.read.readable; in_range = s.in_range };
          none = makes_none (take (k + 1) (lines text)) front l (ap said u ∙ stop_says) f m.0 m.1 m.2;
        })
        (ap reason_of (sym stop_at))
        r.read.put
        s.put

  pub text_bad : {v : Events} → ReadsEvents text end th th' ki ki' ob ob' v → (at : ℕ) → v.stop ≡ Some at → (b : BadLine) → BadAt text (a + v.count + 1) at b
      → ReadsText text pre pre' th th' ki ki' ob ob' (Err b)
  text_bad (all s h q) at e b w = absurd (none-some at (sym q ∙ e))
  text_bad (stopped {at = at'} {l = l} s h g f q) at e b w =
      let y : lines (drop at text) ≡ lines (drop at' text) = let z = same_Some at at' (sym e ∙ q) in rw z in
      let same : l ≡ w.line = let z = sym g ∙ sym y ∙ w.there in cc in
      let number = same_Some _ _ (sym (stop_number s g f) ∙ w.number) in
      let why : reason_of l ≡ b.reason = ap reason_of same ∙ sym w.reason in
      let e : ◌≡◌ {A = BadLine} (record { number = length (before s g f).between + 1; reason = reason_of l }) (record { number = b.number; reason = b.reason }) = rw (number, why) in
      rw e at (stop_line s g f)

  pub stop_there : {v : Events} → ReadsEvents text end th th' ki ki' ob ob' v → (at : ℕ) → v.stop ≡ Some at → StopsAt text a v.count at
  stop_there (all s h q) at e = absurd (none-some at (sym q ∙ e))
  stop_there (stopped {at = at'} s h g f q) at e =
      let z = same_Some at' at (sym q ∙ e) in
      let x = s.few in
      let y = r.read.few in
      record { within = omega arith; few = omega arith; numbered = rw (stop_number s g f) refl }
