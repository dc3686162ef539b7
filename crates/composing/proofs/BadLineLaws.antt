-- What is so of the first bad line of a text: it is no comment and no event line, its reason is true of it, and a note line is bad only after an event line.
use Prim.Native.Nat.{ℕ, suc, ◌-◌}
use native.Mathlib.Omega.{arith}
use mathlib.Core.Path.{◌≡◌, ◌∙◌, ap}
use mathlib.Core.Logic.{◌≢◌}
use mathlib.Core.Bool.{false}
use mathlib.Core.List.Memᴰ
use mathlib.Core.List.{List, [], ◌∷◌, ◌++◌, map, map-append, append_assoc, append-nil}
use lib.ListN.{take}
use lib.Seq.{take-suc}
use Rattle.model.specs.Trace.{Event}
use Rattle.model.proofs.Tests.{false_test}
use Rattle.format.specs.Readable.{Readable}
use Rattle.wording.specs.Lines.{note_line, IsNote, event_line, InRange, IsEvent, is_comment}
use Rattle.wording.specs.Reasons.{reason_of, Tells}
use Rattle.wording.proofs.ReasonTrue.{reason_true}
use Rattle.composing.specs.Texts.{lines, line_at, said, FirstBad}
use Rattle.composing.proofs.SaidLaws.{said-append, said_line}
use Rattle.composing.proofs.TextLaws.{all_more}

module _ (text : List ℕ) {n : ℕ} (x : FirstBad text n) where
  up_to : take n (lines text) ≡ take (n - 1) (lines text) ++ (line_at n text ∷ [])
  up_to =
      let l = x.least in
      let m = x.most in
      let e : suc (n - 1) ≡ n = omega arith in
      rw e at (take-suc (lines text) (n - 1) [] (omega arith))

  says_up_to : said (take n (lines text)) ≡ (map note_line x.notes ++ map event_line x.es) ++ said (line_at n text ∷ [])
  says_up_to = ap said up_to ∙ said-append (take (n - 1) (lines text)) (line_at n text ∷ []) ∙ ap (λ (ls : List (List ℕ)). ls ++ said (line_at n text ∷ [])) x.before.these

  pub bad_said : is_comment (line_at n text) ≡ false
  unfolding said
  bad_said =
      false_test (λ c.
      x.none x.notes x.es (record { these = says_up_to ∙ rw (c, append-nil); readable = x.before.readable; in_range = x.before.in_range })) (λ b. b)

  says_line : said (take n (lines text)) ≡ (map note_line x.notes ++ map event_line x.es) ++ (line_at n text ∷ [])
  unfolding said
  says_line = says_up_to ∙ ap (λ (ls : List (List ℕ)). (map note_line x.notes ++ map event_line x.es) ++ ls) (said_line (line_at n text) [] bad_said)

  pub bad_event : (e : Event) → ¬ IsEvent (line_at n text) e
  bad_event e i =
      x.none x.notes (x.es ++ (e ∷ [])) (record {
        these = says_line ∙ rw (i.these, append_assoc, map-append);
        readable = x.before.readable;
        in_range = all_more InRange x.es e x.before.in_range i.in_range;
      })

  pub bad_reason : Tells (line_at n text) (reason_of (line_at n text))
  bad_reason = reason_true (line_at n text) bad_event

  pub bad_note : IsNote (line_at n text) → x.es ≢ []
  bad_note i e =
      x.none (x.notes ++ (i.text ∷ [])) [] (record {
        these = says_line ∙ rw (e, append-nil (map note_line x.notes), i.these, map-append, append-nil);
        readable = all_more (λ (t : List ℕ). Readable t) x.notes i.text x.before.readable i.readable;
        in_range = λ v m. absurd (Memᴰ.not-nil m);
      })
