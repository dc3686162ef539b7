-- What is shown makes the recording again, and what a recording was made of is shown again.
use Prim.Native.Nat.{ℕ, suc, ◌≤◌, ◌<◌}
use native.Mathlib.Omega.{arith}
use mathlib.Core.Path.{◌≡◌, refl, sym, ◌∙◌, ap}
use mathlib.Core.Logic.{◌≢◌}
use mathlib.Core.Option.{Option, none, some}
use mathlib.Core.List.{List, [], ◌∷◌, map, Memᴰ}
use lib.ListN.{length, take, get_or}
use lib.Dec.{ltb}
use borrow.Author.Tests.{le-ltb}
use Rattle.model.specs.Trace.{Event, Trace, Valid, no_event}
use Rattle.model.specs.Good.{Good}
use Rattle.model.specs.Lists.{in_front}
use Rattle.model.specs.Rows.{first, either}
use Rattle.model.proofs.Lists.{front_taken}
use Rattle.model.proofs.RowsExact.{both_quiet}
use Rattle.model.proofs.Tests.{by_cases, in_cons, object_small}
use Rattle.limits.specs.Limits.{event_bytes}
use Rattle.limits.specs.Refusals.{settled, refuses, answers}
use Rattle.limits.specs.declared.Refusal.{Refusal}
use Rattle.limits.specs.declared.Refusal.TheVariants.{ListShort}
use Rattle.format.specs.Layout.{preamble}
use Rattle.format.specs.Readable.{Readable}
use Rattle.judging.specs.Judged.{IsGoodFile, events_of, refusal_of, rows_of_file}
use Rattle.judging.proofs.FileLaws.{meaning, quiet_file}
use Rattle.writing.specs.Written.{file_with}
use Rattle.writing.specs.RoundTrip.{AllBytes}
use Rattle.writing.specs.Writing.{wrote, handed}
use Rattle.std.specs.Prelude.{Result, Ok, Err}
use Rattle.writing.proofs.WriteLaws.{refused_no_bytes}
use Rattle.writing.proofs.ReadsBack.{reads_back}
use Rattle.writing.proofs.WritesAgain.{writes_again, plain_today}
use Rattle.wording.specs.Lines.{note_line, event_line, InRange, is_comment}
use Rattle.composing.specs.Texts.{text_bytes, lines, said, joined, Makes}
use Rattle.showing.specs.Shown.{notes_of, lines_with, text_from, text_with, text_of, shown, Shows, answer_show}
use Rattle.showing.specs.RoundTrips.{MakesAgain, WhatIsShown, Ended, WhatIsComposed}
use Rattle.showing.proofs.TextLaws.{Whole, lines_text, text_lines, lines-whole, joined_notes, notes_joined, joined_in, notes_whole}
use Rattle.showing.proofs.LineLaws.{whole_note, lines_with_whole, lines-said}
use Rattle.showing.proofs.ShowLaws.{text_fits}
use Rattle.showing.proofs.ShowExact.{show_exactly}

-- ---- the text of a good file

-- a member of a trace is one of its events
event_place : (t : Trace) (e : Event) → Memᴰ e t → (i : ℕ) × (i < length t) × (get_or t i no_event ≡ e)
event_place [] e m = absurd (mathlib.Core.List.Memᴰ.not-nil m)
event_place (x ∷ t) e m = in_cons m (λ q. (0, omega arith, sym q)) (λ j. let r = event_place t e j in let h = r.1 in (suc r.0, omega arith, r.2))

in_range : (t : Trace) → Good t → (e : Event) → Memᴰ e t → InRange e
in_range t g e m =
    let r = event_place t e m in
    let h = r.1 in
    let q = r.2 in
    let v : Valid t (suc r.0) = record { positive = omega arith; bounded = omega arith } in
    let k = g.kinds (suc r.0) v in
    let c = g.thread_limit (suc r.0) v in
    let x = object_small t g (suc r.0) v in
    let f : InRange (get_or t r.0 no_event) = record { thread = omega arith; least = k.0; most = k.1; object = omega arith } in
    rw q at f

module _ (s : List ℕ) (g : IsGoodFile s) where
  notes_readable : (t : List ℕ) → Memᴰ t (notes_of (preamble s)) → Readable t
  notes_readable t m b i = g.layout.readable b (rw (joined_notes (preamble s)) at (joined_in (notes_of (preamble s)) t m b i))

  makes_notes : Makes (lines (text_of s)) (notes_of (preamble s)) (events_of s)
  unfolding text_with
  makes_notes = record {
    these =
        ap said (lines_text (lines_with (notes_of (preamble s)) (events_of s)) (lines_with_whole (notes_of (preamble s)) (events_of s) (notes_whole (preamble s))))
        ∙ lines-said (notes_of (preamble s)) (events_of s);
    readable = notes_readable;
    in_range = in_range (events_of s) g.good;
  }

  file_again : AllBytes s → (buffer : List ℕ) → length s ≤ length buffer → handed (file_with (joined (notes_of (preamble s))) (events_of s)) buffer ≡ (Ok (length s), in_front s buffer)
  unfolding handed
  file_again b buffer h =
      rw (joined_notes (preamble s), writes_again event_bytes (omega arith) s b g.layout (plain_today s), (meaning s none).1 g, le-ltb (length buffer) (length s) h)

  makes_again : AllBytes s → MakesAgain s (text_of s)
  makes_again b = record { short = text_fits s g; makes = makes_notes; again = file_again b }

module _ (s : List ℕ) (b : AllBytes s) (out : List ℕ) (n : ℕ) (after : List ℕ) where
  front_is : {x : Result ℕ Refusal × List ℕ} → Shows s out x → x ≡ (Ok n, after) → MakesAgain s (take n after)
  front_is (refuses {r} f) e = let q = ap (λ (x : Result ℕ Refusal × List ℕ). x.0) e in let z : ◌≡◌ {A = ℕ} 0 1 = cc in absurd (omega arith)
  front_is (answers q f) e =
      let g = (quiet_file s).0 (both_quiet (rows_of_file s) _ q).0 in
      let w : shown (text_of s) out ≡ (Ok n, after) = f ∙ e in
      let c : ◌≡◌ {A = Result ℕ Refusal} (Ok (length (text_of s))) (Ok n) = ap (λ (x : Result ℕ Refusal × List ℕ). x.0) w in
      let a : length (text_of s) ≡ n = cc in
      let d : in_front (text_of s) out ≡ after = ap (λ (x : Result ℕ Refusal × List ℕ). x.1) w in
      let t : take n after ≡ text_of s = rw (← a, ← d) (front_taken (text_of s) out) in
      rw t (makes_again s g b)

-- the first round trip
pub what_is_shown : WhatIsShown
what_is_shown s b out n after e = front_is s b out n after ((show_exactly s out (Ok n, after)).0 e) refl

-- ---- the text that a recording was made of

-- what the writer gave is a good file
module _ (s buffer : List ℕ) (n : ℕ) (after : List ℕ) where
  given : wrote s buffer ≡ (Ok n, after) → take n after ≡ s
  given w =
      let c : ◌≡◌ {A = Result ℕ Refusal} (Ok (length s)) (Ok n) = ap (λ (x : Result ℕ Refusal × List ℕ). x.0) w in
      let a : length s ≡ n = cc in
      let d : in_front s buffer ≡ after = ap (λ (x : Result ℕ Refusal × List ℕ). x.1) w in
      rw (← a, ← d) (front_taken s buffer)

  handed-good : handed s buffer ≡ (Ok n, after) → (refusal_of s ≡ none) × (take n after ≡ s)
  unfolding handed
  handed-good e = go (refusal_of s) refl e
    where
      refused : {A : Type 0} (r : Refusal) → ◌≡◌ {A = Result ℕ Refusal × List ℕ} (Err r, buffer) (Ok n, after) → A
      refused r e = absurd (refused_no_bytes r n (ap (λ (x : Result ℕ Refusal × List ℕ). x.0) e))

      go : (o : Option Refusal) → refusal_of s ≡ o → settled (λ r. (Err r, buffer)) (wrote s buffer) (either o (first (ltb (length buffer) (length s) ∷ []) (ListShort ∷ []))) ≡ (Ok n, after)
          → (refusal_of s ≡ none) × (take n after ≡ s)
      go (some r) q e = refused r e
      go none q e = by_cases (ltb (length buffer) (length s)) (λ h. refused ListShort (rw h at e)) (λ h. (q, given (rw h at e)))

-- what is said is a line
said_in : (ls : List (List ℕ)) (l : List ℕ) → Memᴰ l (said ls) → Memᴰ l ls
unfolding said
said_in [] l m = absurd (mathlib.Core.List.Memᴰ.not-nil m)
said_in (k ∷ ls) l m =
    by_cases (is_comment k) (λ e. let i : Memᴰ l (said ls) = rw e at m in mathlib.Core.List.Memᴰ.tail (said_in ls l i))
    (λ e. let i : Memᴰ l (k ∷ said ls) = rw e at m in in_cons i mathlib.Core.List.Memᴰ.head (λ j. mathlib.Core.List.Memᴰ.tail (said_in ls l j)))

-- a text whose lines are those of notes and events, but for the comments
module _ (text : List ℕ) (notes : List (List ℕ)) (es : Trace) (these : said (lines text) ≡ lines_with notes es) (ne : notes ≢ [] ∷ []) where
  each-whole : (t : List ℕ) → Memᴰ t notes → Whole t
  each-whole t i = whole_note t (lines-whole text (note_line t) (said_in (lines text) (note_line t) (rw these (mathlib.Core.List.Memᴰ.append_left (map event_line es) (mathlib.Core.List.Memᴰ.map note_line i)))))

  said_text : text_with (joined notes) es ≡ text_from (said (lines text))
  unfolding text_with
  said_text = rw (notes_joined notes each-whole ne, these)

  same_text : said (lines text) ≡ lines text → Ended text → text_with (joined notes) es ≡ text
  same_text p e = said_text ∙ ap text_from p ∙ text_lines text e

-- the text of a file that was written is that of its preamble and events
written_text : (p : List ℕ) (es : Trace) → text_of (file_with p es) ≡ text_with p es
written_text p es = let r = reads_back event_bytes (omega arith) p es in rw (r.same_preamble, r.same_events)

written-shown : (p : List ℕ) (es : Trace) → refusal_of (file_with p es) ≡ none → (out : List ℕ) → text_bytes ≤ length out → answer_show (file_with p es) out ≡ shown (text_with p es) out
unfolding answer_show
written-shown p es g out h = rw (g, le-ltb (length out) text_bytes h, written_text p es)

-- the second round trip
pub what_is_composed : WhatIsComposed
what_is_composed text notes es m buffer n after e =
    let h = handed-good (file_with (joined notes) es) buffer n after e in
    let d = h.1 in
    record { shows = rw d (written-shown (joined notes) es h.0); said_again = said_text text notes es m.these; same = same_text text notes es m.these }
