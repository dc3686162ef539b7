-- What an answer says to a caller.
use Prim.Native.Nat.{ℕ, suc, ◌≤◌}
use native.Mathlib.Omega.{arith}
use mathlib.Core.Path.{◌≡◌, sym, ap}
use mathlib.Core.List.{List, [], ◌∷◌, map}
use lib.ListN.{length, length-append, length-map}
use lib.Dec.{eqb}
use Rattle.model.specs.Trace.{Trace}
use Rattle.model.proofs.Tests.{by_cases}
use Rattle.format.specs.Readable.{line_feed}
use Rattle.appending.specs.Appended.{Appends}
use Rattle.wording.specs.Lines.{note_line, event_line}
use Rattle.composing.specs.Texts.{extend, lines, Makes, ReadsText, good, bad_line}
use Rattle.composing.proofs.SaidLaws.{said_few}
use Rattle.std.specs.Prelude.{Result, Ok}
use Rattle.composing.specs.declared.Parts.{Parts}
use Rattle.composing.specs.declared.BadLine.{BadLine}

extend_few : (b : ℕ) (ls : List (List ℕ)) → length (extend b ls) ≤ suc (length ls)
extend_few b [] = omega arith
extend_few b (l ∷ ls) = omega arith

-- no more lines than bytes
lines_few : (s : List ℕ) → length (lines s) ≤ length s
unfolding lines
lines_few [] = omega arith
lines_few (b ∷ s) =
    let h = lines_few s in
    by_cases (eqb b line_feed) (λ e. rw e (omega arith)) (λ e. let g = extend_few b (lines s) in rw e (omega arith))

-- no more notes than bytes
pub makes_few : (text : List ℕ) {notes : List (List ℕ)} {es : Trace} → Makes (lines text) notes es → length notes ≤ length text
makes_few text {notes} {es} m =
    let f = lines_few text in
    let k = said_few (lines text) in
    let g = ap length m.these in
    let h = length-append (map note_line notes) (map event_line es) in
    let i = length-map notes note_line in
    omega arith

-- the parts that were put are within what is lent
appends_within : {put out out' : List ℕ} {r : ℕ} → Appends put 0 out out' r → r ≤ length out'
appends_within a = let w = a.within in let s = a.same in omega arith

module _ {text pre pre' th th' ki ki' ob ob' : List ℕ} where
  good-parts : {r : Result Parts BadLine} → ReadsText text pre pre' th th' ki ki' ob ob' r → (v : Parts) → r ≡ Ok v
      → (v.preamble ≤ length pre') × (v.events ≤ length th') × (v.events ≤ length ki') × (v.events ≤ length ob')
  good-parts (good {v = w} m ea en pr li) v e =
      let q : w ≡ v = cc in
      rw (sym q) (appends_within pr, appends_within li.threads, appends_within li.kinds, appends_within li.objects)
  good-parts (bad_line x i u v) w e = let o : ◌≡◌ {A = ℕ} 0 1 = cc in absurd (omega arith)

  module _ (r : Result Parts BadLine) (x : ReadsText text pre pre' th th' ki ki' ob ob' r) (v : Parts) (e : r ≡ Ok v) where
    pub threads_within : v.events ≤ length th'
    threads_within = (good-parts x v e).1

    pub kinds_within : v.events ≤ length ki'
    kinds_within = (good-parts x v e).2

    pub objects_within : v.events ≤ length ob'
    objects_within = (good-parts x v e).3
