-- The ways through the program.
use Prim.Native.Nat.{ℕ, ◌≤◌}
use native.Mathlib.Omega.{arith}
use mathlib.Core.Path.{◌≡◌, refl, sym, ◌∙◌, ap}
use mathlib.Core.Option.{Option, none, some}
use mathlib.Core.List.{List}
use lib.ListN.{length, take, drop, replicate, length-append, length-replicate}
use Rattle.model.specs.Trace.{Trace, thread_list, kind_list, object_list}
use Rattle.model.specs.Lists.{in_front}
use Rattle.limits.specs.declared.Refusal.{Refusal}
use Rattle.limits.specs.Refusals.{settled, event_of}
use Rattle.writing.specs.Written.{file_with}
use Rattle.writing.proofs.ListLaws.{lists_back, lists_even}
use Rattle.composing.specs.Texts.{text_bytes, lines, joined, Makes, Lent, ReadsText, good, bad_line as bad-text}
use Rattle.composing.specs.declared.Parts.{Parts}
use Rattle.composing.specs.declared.BadLine.{BadLine}
use Rattle.std.specs.Prelude.{Option as RustOption, Result, Ok, Err}
use Rattle.composing.proofs.AnswerLaws.{makes_few}
use Rattle.writing.proofs.WriteLaws.{true_even, refused_no_bytes}
use Rattle.writing.specs.Writing.{wrote, hand_refusal, handed, answer_write}
use Rattle.compose.specs.Composed.{recorded, line_about, Composes, bad_line, refused, recording, WritesParts, not_written, parts_written}
use Rattle.compose.specs.declared.Failure.{Failure}
use Rattle.compose.specs.declared.Failure.TheVariants.{BadLine as Bad, Refused}

-- ---- the writer's answer

module _ (text : List ℕ) (a : ℕ) (p threads kinds objects file file' : List ℕ) (w : Result ℕ Refusal) (e : (w, file') ≡ answer_write p threads kinds objects file) where
  pub parts_refused : (r : Refusal) → w ≡ Err r → (n : RustOption ℕ) → n ≡ line_about a (lines text) (event_of r) → WritesParts text a p threads kinds objects file file' (Err (Refused r n))
  parts_refused r q n i = not_written i (rw q at e)

  pub parts_bytes : (n : ℕ) → w ≡ Ok n → WritesParts text a p threads kinds objects file file' (Ok n)
  parts_bytes n q = parts_written (rw q at e)

-- ---- the parts of a text

-- over any size, since the size that there is would be counted out
lent_anew : (n : ℕ) (text : List ℕ) → length text ≤ n → Lent text (replicate n 0) (replicate n 0) (replicate n 0) (replicate n 0)
lent_anew n text h = let l : length text ≤ length (replicate {A = ℕ} n 0) = rw (length-replicate {A = ℕ} n 0) h in record { preamble = l; threads = l; kinds = l; objects = l }

pub text_lent : (text : List ℕ) → length text ≤ text_bytes → Lent text (replicate text_bytes 0) (replicate text_bytes 0) (replicate text_bytes 0) (replicate text_bytes 0)
text_lent text h = lent_anew text_bytes text h

answer_recorded : (p : List ℕ) (es : Trace) (file : List ℕ) → answer_write p (thread_list es) (kind_list es) (object_list es) file ≡ recorded p es file
unfolding answer_write handed
answer_recorded p es file = rw (true_even (thread_list es) (kind_list es) (object_list es) (lists_even es), lists_back es)

parts_mean : {text : List ℕ} {notes : List (List ℕ)} {es : Trace} {a : ℕ} → Makes (lines text) notes es → a ≡ length notes
    → {p threads kinds objects file file' : List ℕ} {c : Result ℕ Failure} → WritesParts text a p threads kinds objects file file' c
    → p ≡ joined notes → threads ≡ thread_list es → kinds ≡ kind_list es → objects ≡ object_list es → Composes text file file' c
parts_mean {es = es} m ea {file = file} (not_written i q) f t k o = refused m (rw ea at i) (rw (f, t, k, o) at q ∙ answer_recorded _ es file)
parts_mean {es = es} m ea {file = file} (parts_written q) f t k o = recording m (rw (f, t, k, o) at q ∙ answer_recorded _ es file)

module _ {text pre pre' th th' ki ki' ob ob' : List ℕ} where
  pub compose_bad : {v : Result Parts BadLine} → ReadsText text pre pre' th th' ki ki' ob ob' v → (b : BadLine) → v ≡ Err b → (file : List ℕ) → Composes text file file (Err (Bad b))
  compose_bad (good m ea en pr li) b e file = let o : ◌≡◌ {A = ℕ} 0 1 = cc in absurd (omega arith)
  compose_bad (bad-text {b = a} x i u v) b e file = let q : a ≡ b = cc in let c : Composes text file file (Err (Bad a)) = bad_line x i refl in rw q at c

  pub compose_good : {r : Result Parts BadLine} → ReadsText text pre pre' th th' ki ki' ob ob' r → (v : Parts) → r ≡ Ok v → {file file' : List ℕ} {c : Result ℕ Failure}
      → WritesParts text v.notes (take v.preamble pre') (take v.events th') (take v.events ki') (take v.events ob') file file' c → Composes text file file' c
  compose_good (good {v = u} m ea en pr li) v e w =
      let q : u ≡ v = cc in
      let x = rw q at ea in
      let y = rw q at pr in
      let z = rw q at li in
      parts_mean m x w y.front z.threads.front z.kinds.front z.objects.front
  compose_good (bad-text x i u v) w e c = let o : ◌≡◌ {A = ℕ} 0 1 = cc in absurd (omega arith)

  -- a text has no more note lines than bytes
  pub notes_few : {r : Result Parts BadLine} → ReadsText text pre pre' th th' ki ki' ob ob' r → (v : Parts) → r ≡ Ok v → (m : ℕ) → length text ≤ m → v.notes ≤ m
  notes_few (good {v = u} x ea en pr li) v e m h = let q : u ≡ v = cc in let k = rw q at ea in let g = makes_few text x in omega arith
  notes_few (bad-text x i u v) w e m h = let o : ◌≡◌ {A = ℕ} 0 1 = cc in absurd (omega arith)

-- ---- what an answer says

by_refusal : (o : Option Refusal) (s file file' : List ℕ) (n : ℕ) → (Ok n, file') ≡ settled (λ r. (Err r, file)) (wrote s file) o → n ≤ length file'
unfolding in_front
by_refusal none s file file' n e =
    let p : ◌≡◌ {A = Result ℕ Refusal} (Ok n) (Ok (length s)) = ap (λ (x : Result ℕ Refusal × List ℕ). x.0) e in
    let q : n ≡ length s = cc in
    let l = ap (λ (x : Result ℕ Refusal × List ℕ). length x.1) e ∙ length-append s (drop (length s) file) in
    omega arith
by_refusal (some r) s file file' n e =
    absurd (refused_no_bytes r n (sym (ap (λ (x : Result ℕ Refusal × List ℕ). x.0) e)))

module _ {text file file' : List ℕ} where
  -- the bytes of a recording are within the file
  pub recording_within : {c : Result ℕ Failure} → Composes text file file' c → (n : ℕ) → c ≡ Ok n → n ≤ length file'
  unfolding handed
  recording_within (bad_line x i q) n e = let o : ◌≡◌ {A = ℕ} 0 1 = cc in absurd (omega arith)
  recording_within (refused m ea q) n e = let o : ◌≡◌ {A = ℕ} 0 1 = cc in absurd (omega arith)
  recording_within (recording {notes = notes} {es = es} {n = k} m q) n e =
      let s = file_with (joined notes) es in
      let h = by_refusal (hand_refusal s file) s file file' k q in
      let z : k ≡ n = cc in
      omega arith
