-- A line has one reading.
use Prim.Native.Nat.{ℕ, ◌≤◌}
use mathlib.Core.Path.{◌≡◌, refl, sym, ◌∙◌, ap}
use mathlib.Core.Bool.{Bool}
use mathlib.Core.List.{List, ◌∷◌, ◌++◌}
use lib.Dec.{eqb}
use borrow.Author.Tests.{eqb-true}
use Rattle.model.specs.Trace.{Event, read, join}
use Rattle.model.specs.Lists.{◌∈◌, up_to, keep, nearest}
use Rattle.model.proofs.Lists.{mem_keep, up_to_mem}
use Rattle.limits.specs.Kinds.{kind_number}
use Rattle.limits.proofs.KindLaws.{kind_one}
use Rattle.appending.specs.Decimal.{decimal}
use Rattle.wording.specs.Lines.{kind_word, event_line, InRange, Reads, note, event, bad}
use Rattle.wording.specs.Reasons.{same}
use Rattle.std.specs.Prelude.{Option}
use Rattle.wording.specs.declared.Line.{Line}
use Rattle.wording.proofs.NumberLaws.{decimal-whole}
use Rattle.wording.proofs.LineLaws.{word-whole, space_one, same_number, event_no_note}

-- the kind of a word
abbrev kind_by : List ℕ → ℕ
kind_by w = nearest (λ k. same w (kind_word k)) (up_to join)

-- each kind is that of its own word, so no two have the same
abbrev is_back : ℕ → Bool
is_back k = eqb (kind_by (kind_word k)) k

all_back : keep is_back (up_to join) ≡ up_to join
unfolding kind_word
all_back = refl

word_kind : (k : ℕ) → read ≤ k → k ≤ join → kind_by (kind_word k) ≡ k
word_kind k l m =
    let i : k ∈ keep is_back (up_to join) = rw all_back (up_to_mem join k l m) in
    eqb-true (kind_by (kind_word k)) k (mem_keep is_back k (up_to join) i).1

-- an event line is that of one event
pub event_one : (e f : Event) → InRange e → InRange f → event_line e ≡ event_line f → e ≡ f
unfolding event_line
event_one e f r s q =
    let a = space_one (decimal e.thread) (kind_word e.kind ++ (32 ∷ decimal e.object)) (decimal f.thread) (kind_word f.kind ++ (32 ∷ decimal f.object)) (decimal-whole e.thread) (decimal-whole f.thread) q in
    let b = space_one (kind_word e.kind) (decimal e.object) (kind_word f.kind) (decimal f.object) (word-whole e.kind) (word-whole f.kind) a.1 in
    let t = same_number e.thread f.thread a.0 in
    let o = same_number e.object f.object b.1 in
    let k : e.kind ≡ f.kind = sym (word_kind e.kind r.least r.most) ∙ ap kind_by b.0 ∙ word_kind f.kind s.least s.most in
    let same : ◌≡◌ {A = Event} (record { thread = e.thread; kind = e.kind; object = e.object }) (record { thread = f.thread; kind = f.kind; object = f.object }) = rw (t, k, o) in
    same

pub line_one : {line : List ℕ} {r s : Option Line} → Reads line r → Reads line s → r ≡ s
line_one (note n) (note m) = refl
line_one (note n) (event {t} {k} {o} i) = absurd (event_no_note (record { thread = t; kind = kind_number k; object = o }) i n)
line_one (note n) (bad f g) = absurd (f n)
line_one (event {t} {k} {o} i) (note n) = absurd (event_no_note (record { thread = t; kind = kind_number k; object = o }) i n)
line_one (event {t = t} {k = k} {o = o} i) (event {t = t'} {k = k'} {o = o'} j) =
    let e = event_one (record { thread = t; kind = kind_number k; object = o }) (record { thread = t'; kind = kind_number k'; object = o' }) i.in_range j.in_range (sym i.these ∙ j.these) in
    let x : t ≡ t' = ap (λ (e : Event). e.thread) e in
    let y : k ≡ k' = kind_one k k' (ap (λ (e : Event). e.kind) e) in
    let z : o ≡ o' = ap (λ (e : Event). e.object) e in
    rw (x, y, z)
line_one (event {t} {k} {o} i) (bad f g) = absurd (g (record { thread = t; kind = kind_number k; object = o }) i)
line_one (bad f g) (note n) = absurd (f n)
line_one (bad f g) (event {t} {k} {o} i) = absurd (g (record { thread = t; kind = kind_number k; object = o }) i)
line_one (bad f g) (bad h i) = refl
