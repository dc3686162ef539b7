-- A text has one answer, which leaves one content in what is lent.
use Prim.Native.Nat.{ℕ, zero, suc, ◌-◌, ◌<◌}
use native.Mathlib.Omega.{arith}
use mathlib.Core.Path.{◌≡◌, refl, sym, ◌∙◌, ap}
use mathlib.Core.List.Memᴰ
use mathlib.Core.List.{List, [], ◌∷◌, ◌++◌, map, Memᴰ}
use lib.ListN.{length, take, drop, take-append-drop}
use lib.Seq.{take-take}
use lib.Dec.{ltb}
use borrow.Author.Tests.{ltb-true, ltb-false}
use Rattle.model.specs.Trace.{Event, Trace}
use Rattle.model.proofs.Tests.{by_cases}
use Rattle.appending.specs.Appended.{Appends}
use Rattle.wording.specs.Lines.{note_line, event_line, InRange}
use Rattle.composing.specs.Texts.{lines, said, Makes, Listed, FirstBad, ReadsText, good, bad_line, Settled}
use Rattle.std.specs.Prelude.{Result, Ok, Err}
use Rattle.composing.specs.declared.Parts.{Parts}
use Rattle.composing.specs.declared.BadLine.{BadLine}
use Rattle.composing.proofs.SaidLaws.{said-front}
use Rattle.wording.proofs.LineOne.{event_one}
use Rattle.wording.proofs.LineLaws.{event_apart}

-- ---- the lines

events_one : (es fs : Trace) → ((e : Event) → Memᴰ e es → InRange e) → ((e : Event) → Memᴰ e fs → InRange e) → map event_line es ≡ map event_line fs → es ≡ fs
events_one [] [] r s q = refl
events_one [] (f ∷ fs) r s q = let o : ◌≡◌ {A = ℕ} 0 1 = cc in absurd (omega arith)
events_one (e ∷ es) [] r s q = let o : ◌≡◌ {A = ℕ} 0 1 = cc in absurd (omega arith)
events_one (e ∷ es) (f ∷ fs) r s q =
    let h : event_line e ≡ event_line f = cc in
    let t : map event_line es ≡ map event_line fs = cc in
    let a = event_one e f (r e (Memᴰ.head refl)) (s f (Memᴰ.head refl)) h in
    let b = events_one es fs (λ d m. r d (Memᴰ.tail m)) (λ d m. s d (Memᴰ.tail m)) t in
    cc

-- lines make one recording
lines_one : (notes more : List (List ℕ)) (es fs : Trace) → ((e : Event) → Memᴰ e es → InRange e) → ((e : Event) → Memᴰ e fs → InRange e)
    → map note_line notes ++ map event_line es ≡ map note_line more ++ map event_line fs → (notes ≡ more) × (es ≡ fs)
lines_one [] [] es fs r s q = (refl, events_one es fs r s q)
lines_one [] (t ∷ more) [] fs r s q = let o : ◌≡◌ {A = ℕ} 0 1 = cc in absurd (omega arith)
lines_one [] (t ∷ more) (e ∷ es) fs r s q = let h : event_line e ≡ note_line t = cc in absurd (event_apart e t h)
lines_one (t ∷ notes) [] es [] r s q = let o : ◌≡◌ {A = ℕ} 0 1 = cc in absurd (omega arith)
lines_one (t ∷ notes) [] es (f ∷ fs) r s q = let h : event_line f ≡ note_line t = cc in absurd (event_apart f t h)
lines_one (t ∷ notes) (u ∷ more) es fs r s q =
    let h : t ≡ u = cc in
    let k : map note_line notes ++ map event_line es ≡ map note_line more ++ map event_line fs = cc in
    let b = lines_one notes more es fs r s k in
    let c = b.0 in
    (cc, b.1)

pub makes_one : {ls notes more : List (List ℕ)} {es fs : Trace} → Makes ls notes es → Makes ls more fs → (notes ≡ more) × (es ≡ fs)
makes_one {notes = notes} {more = more} {es = es} {fs = fs} m k = lines_one notes more es fs m.in_range k.in_range (sym m.these ∙ k.these)

-- ---- fewer lines

take_in : {A : Type 0} (n : ℕ) (l : List A) (x : A) → Memᴰ x (take n l) → Memᴰ x l
take_in n l x m = let h : Memᴰ x (take n l ++ drop n l) = Memᴰ.append_left (drop n l) m in rw take-append-drop at h

map-take : {A : Type 0} (f : A → List ℕ) (n : ℕ) (l : List A) → take n (map f l) ≡ map f (take n l)
map-take f zero l = refl
map-take f (suc n) [] = refl
map-take f (suc n) (x ∷ l) = ap (λ (r : List (List ℕ)). f x ∷ r) (map-take f n l)

front-lines : (n : ℕ) (notes : List (List ℕ)) (es : Trace) → take n (map note_line notes ++ map event_line es) ≡ map note_line (take n notes) ++ map event_line (take (n - length notes) es)
front-lines zero notes es = let z : 0 - length notes ≡ 0 = omega arith in rw z
front-lines (suc n) [] es = let z : suc n - 0 ≡ suc n = omega arith in rw z (map-take event_line (suc n) es)
front-lines (suc n) (t ∷ notes) es =
    let z : suc n - suc (length notes) ≡ n - length notes = omega arith in
    rw z (ap (λ (r : List (List ℕ)). note_line t ∷ r) (front-lines n notes es))

makes_front : (n : ℕ) {ls notes : List (List ℕ)} {es : Trace} → Makes ls notes es
    → Makes (take n ls) (take (length (said (take n ls))) notes) (take (length (said (take n ls)) - length notes) es)
makes_front n {ls} {notes} {es} m =
    let k = length (said (take n ls)) in
    record {
      these = said-front n ls ∙ ap (take k) m.these ∙ front-lines k notes es;
      readable = λ t i. m.readable t (take_in k notes t i);
      in_range = λ e i. m.in_range e (take_in (k - length notes) es e i);
    }

-- ---- a text

appends_one : {put out a b : List ℕ} {r s : ℕ} → Appends put 0 out a r → Appends put 0 out b s → (r ≡ s) × (a ≡ b)
appends_one {put} {out} {a} {b} {r} {s} x y =
    let e : r ≡ s = x.ends ∙ sym y.ends in
    let f : take r a ≡ take r b = x.front ∙ sym (rw (sym e) at y.front) in
    let g : drop r a ≡ drop r b = x.rest ∙ sym (rw (sym e) at y.rest) in
    (e, sym (take-append-drop r a) ∙ (rw (f, g) (take-append-drop r b)))

-- the same preamble and events leave one content in what is lent
same_lent : {put : List ℕ} {es : Trace} {pre pre₁ pre₂ th th₁ th₂ ki ki₁ ki₂ ob ob₁ ob₂ : List ℕ} {p q n m : ℕ} {r s : Result Parts BadLine} → r ≡ s
    → Appends put 0 pre pre₁ p → Appends put 0 pre pre₂ q → Listed es th th₁ ki ki₁ ob ob₁ n → Listed es th th₂ ki ki₂ ob ob₂ m
    → Settled r s pre₁ pre₂ th₁ th₂ ki₁ ki₂ ob₁ ob₂
same_lent e a b l k = record {
  answer = e;
  preamble = (appends_one a b).1;
  threads = (appends_one l.threads k.threads).1;
  kinds = (appends_one l.kinds k.kinds).1;
  objects = (appends_one l.objects k.objects).1;
}

same_parts : (v w : Parts) → v.notes ≡ w.notes → v.preamble ≡ w.preamble → v.events ≡ w.events → v ≡ w
same_parts v w a p n = let same : ◌≡◌ {A = Parts} (record { notes = v.notes; preamble = v.preamble; events = v.events }) (record { notes = w.notes; preamble = w.preamble; events = w.events }) = rw (a, p, n) in same

pub same_bad : (b c : BadLine) → b.number ≡ c.number → b.reason ≡ c.reason → b ≡ c
same_bad b c n r = let same : ◌≡◌ {A = BadLine} (record { number = b.number; reason = b.reason }) (record { number = c.number; reason = c.reason }) = rw (n, r) in same

module _ (text : List ℕ) where
  -- lines that make a recording have no bad line
  pub none_bad : {notes : List (List ℕ)} {es : Trace} → Makes (lines text) notes es → (n : ℕ) → ((other : List (List ℕ)) (more : Trace) → ¬ Makes (take n (lines text)) other more) → ⊥
  none_bad m n f = f _ _ (makes_front n m)

  -- and those before a bad line none before it
  none_before : {notes : List (List ℕ)} {es : Trace} (m : ℕ) → Makes (take (m - 1) (lines text)) notes es → (n : ℕ)
      → ((other : List (List ℕ)) (more : Trace) → ¬ Makes (take n (lines text)) other more) → n < m → ⊥
  none_before m x n f h = f _ _ (rw (take-take n (m - 1) (lines text) (omega arith)) at (makes_front n x))

  pub bad_one : {n m : ℕ} → FirstBad text n → FirstBad text m → n ≡ m
  bad_one {n} {m} x y =
      by_cases (ltb n m) (λ e. absurd (none_before m y.before n x.none (ltb-true n m e)))
      (λ e.
      by_cases (ltb m n) (λ d. absurd (none_before n x.before m y.none (ltb-true m n d)))
      (λ d. let u = ltb-false n m e in let v = ltb-false m n d in omega arith))

  pub text_one : {pre pre₁ pre₂ th th₁ th₂ ki ki₁ ki₂ ob ob₁ ob₂ : List ℕ} {r s : Result Parts BadLine} → ReadsText text pre pre₁ th th₁ ki ki₁ ob ob₁ r
      → ReadsText text pre pre₂ th th₂ ki ki₂ ob ob₂ s → Settled r s pre₁ pre₂ th₁ th₂ ki₁ ki₂ ob₁ ob₂
  text_one (good {notes = notes} {es = es} {v = v} m ea en pr li) (good {notes = notes'} {es = es'} {v = w} m' ea' en' pr' li') =
      let l = makes_one m m' in
      let x = l.0 in
      let y = l.1 in
      let z = same_parts v w (ea ∙ ap length x ∙ sym ea') (appends_one (rw x at pr) pr').0 (en ∙ ap length y ∙ sym en') in
      same_lent (ap Ok z) (rw x at pr) pr' (rw y at li) li'
  text_one (good m ea en pr li) (bad_line {b = b} x i u v) = absurd (none_bad m b.number x.none)
  text_one (bad_line {b = b} x i u v) (good m ea en pr li) = absurd (none_bad m b.number x.none)
  text_one (bad_line {b = b} x i pr li) (bad_line {b = c} y i' pr' li') =
      let z = bad_one x y in
      let w : b.reason ≡ c.reason = rw z at i ∙ sym i' in
      let f : Makes (take (c.number - 1) (lines text)) x.notes x.es = rw z at x.before in
      let l = makes_one f y.before in
      let u = l.0 in
      let v = l.1 in
      same_lent (ap Err (same_bad b c z w)) (rw u at pr) pr' (rw v at li) li'
