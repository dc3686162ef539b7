-- The text of a file, and the ways through the answer.
use Prim.Native.Nat.{ℕ, ◌+◌, ◌*◌, ◌≤◌, ◌<◌}
use native.Mathlib.Omega.{arith}
use mathlib.Core.Path.{◌≡◌, sym, ◌∙◌, ap}
use mathlib.Core.List.{List}
use lib.ListN.{length, take, length-append, take-append-drop}
use borrow.Author.Tests.{lt-ltb, le-ltb}
use Rattle.model.specs.Lists.{in_front}
use Rattle.limits.specs.Limits.{event_bytes}
use Rattle.limits.specs.declared.Refusal.{Refusal}
use Rattle.limits.specs.declared.Refusal.TheVariants.{ListShort}
use Rattle.limits.specs.declared.Recording.{Recording}
use Rattle.appending.specs.Appended.{Appends}
use Rattle.appending.proofs.AppendLaws.{appends_then}
use Rattle.format.specs.Bytes.{trace_in}
use Rattle.format.specs.Layout.{start, preamble, part_of, file_of}
use Rattle.format.proofs.PartLaws.{filled, preamble-length, number_of_events, part-trace, span_low}
use Rattle.std.specs.Prelude.{Result, Ok, Err}
use Rattle.judging.specs.Judged.{events_of, refusal_of, IsGoodFile}
use Rattle.judging.proofs.FileLaws.{judged_refused, judged_clean, judged_good, judged_placed}
use Rattle.composing.specs.Texts.{text_bytes}
use Rattle.showing.specs.Shown.{text_of, answer_show}
use Rattle.showing.specs.Pieces.{byte_width, notes_text, events_text, EventsLent, TextLent}
use Rattle.showing.proofs.LineLaws.{notes_few, all-events_few, text_parts}

-- ---- how long a text is

module _ (s : List ℕ) (g : IsGoodFile s) where
  -- preamble, events and trailer
  bytes : length (preamble s) + event_bytes * length (events_of s) + 8 ≡ length s
  bytes =
      let f = filled event_bytes s g.layout in
      let p = preamble-length event_bytes s g.layout in
      let n = number_of_events event_bytes s g.layout (omega arith) in
      omega arith

  -- a text has at most six bytes for each byte of its file
  pub text_short : length (text_of s) ≤ byte_width * length s
  text_short =
      let b = bytes in
      let p = notes_few (preamble s) in
      let e = all-events_few (events_of s) g.good in
      rw (text_parts (preamble s) (events_of s), length-append) (omega arith)

  -- and so no more than any text may have
  pub text_fits : length (text_of s) ≤ text_bytes
  text_fits = let t = text_short in let m = g.layout.sized.most in omega arith

-- ---- the text of a good file

module _ {s : List ℕ} {t : Recording} {out : List ℕ} (l : TextLent s t out) where
  start_is : t.start ≡ start s
  start_is = ap (λ (u : Recording). u.start) l.placed.span

  pub start_within : t.start ≤ length s
  start_within = let h = span_low s t l.placed in omega arith

  front_is : take t.start s ≡ preamble s
  unfolding preamble
  front_is = ap (λ (n : ℕ). take n s) start_is

  module _ (ev : List ℕ) (part : ev ≡ part_of s) {mid : List ℕ} {p : ℕ} (a : Appends (notes_text (take t.start s)) 0 out mid p) where
    notes_there : Appends (notes_text (preamble s)) 0 out mid p
    notes_there = rw front_is at a

    pub events_lent : EventsLent ev mid p
    events_lent =
        let b = bytes s l.good in
        let m = l.good.layout.sized.most in
        let n = notes_few (preamble s) in
        let e = notes_there.ends in
        let u = notes_there.same in
        let r = l.room in
        record { good = rw (part-trace s ev part) l.good.good; room = rw (part-trace s ev part) (omega arith) }

    pub text_put : {out' : List ℕ} {r : ℕ} → Appends (events_text (trace_in ev)) p mid out' r → Appends (text_of s) 0 out out' r
    text_put b = rw (text_parts (preamble s) (events_of s)) (appends_then notes_there (rw (part-trace s ev part) at b))

-- ---- the answer

module _ (s out : List ℕ) (f : Result Recording Refusal) (is : f ≡ file_of s (refusal_of s)) where
  pub show_refused : (r : Refusal) → f ≡ Err r → (Err r, out) ≡ answer_show s out
  unfolding answer_show
  show_refused r e = rw (judged_refused s f is r e)

  module _ (t : Recording) (e : f ≡ Ok t) where
    -- of any bound that is not above the right one, so that one below it is refused where a text may not fit
    pub show_short : (m : ℕ) → length out < m → m ≤ text_bytes → (Err ListShort, out) ≡ answer_show s out
    unfolding answer_show
    show_short m h l = rw (judged_clean s f is t e, lt-ltb (length out) text_bytes (omega arith))

    module _ (h : text_bytes ≤ length out) where
      pub text_lent : TextLent s t out
      text_lent = record { good = judged_good s f is t e; placed = judged_placed s f is t e; room = h }

      pub show_good : {out' : List ℕ} {r : ℕ} → Appends (text_of s) 0 out out' r → (Ok r, out') ≡ answer_show s out
      unfolding answer_show in_front
      show_good {out'} {r} a =
          let n : r ≡ length (text_of s) = let x = a.ends in omega arith in
          let o : out' ≡ in_front (text_of s) out = sym (take-append-drop r out') ∙ rw (a.front, a.rest, n) in
          rw (judged_clean s f is t e, le-ltb (length out) text_bytes h, n, o)
