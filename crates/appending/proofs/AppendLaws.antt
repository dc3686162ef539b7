-- One piece of a line behind the other.
use Prim.Native.Nat.{ℕ, suc, ◌+◌, ◌/◌, ◌%◌, ◌^◌, ◌≤◌, ◌<◌}
use native.Mathlib.Omega.{arith}
use native.Mathlib.Numerals.{add-one}
use mathlib.Core.Path.{◌≡◌, refl, sym, ◌∙◌, ap}
use mathlib.Core.List.{List, [], ◌∷◌, ◌++◌, append_assoc, append-nil}
use lib.ListN.{length, take, drop, set, length-append, length-set}
use lib.Seq.{drop-drop, take-suc-set, drop-set-lt}
use lib.Dec.{ltb}
use borrow.Author.Tests.{ltb-true, ltb-false}
use borrow.Rule.Slice.PartMut.{put_mid, same_len_mid}
use Rattle.std.proofs.lemmas.Slice.{take-put_mid, drop-put_mid}
use Rattle.std.proofs.Common.{length-take-le, length-drop}
use mir.Syntax.{w16, w32}
use mir.Val.{Fits}
use Rattle.model.proofs.Tests.{by_cases}
use Rattle.appending.specs.Decimal.{decimal, spaced, event_width, number_width}
use Rattle.appending.specs.Appended.{Appends, AppendsShort}
use Rattle.appending.proofs.DecimalLaws.{decimal_one, decimal_more, decimal_few}

pub appends_nothing : (at : ℕ) (out : List ℕ) → at ≤ length out → Appends [] at out out at
appends_nothing at out h = record { front = sym (append-nil _); rest = refl; ends = omega arith; within = h; same = refl }

pub appends_byte : (b at : ℕ) (out : List ℕ) → at + 1 ≤ length out → Appends (b ∷ []) at out (set out at b) (at + 1)
appends_byte b at out h = record {
  front = rw (add-one at) (take-suc-set out at b (omega arith));
  rest = drop-set-lt (at + 1) out at b (omega arith);
  ends = omega arith;
  within = h;
  same = length-set out at b;
}

-- two pieces, one behind the other: what every line is put together by
pub appends_then : {l m : List ℕ} {at : ℕ} {out mid out' : List ℕ} {p r : ℕ} → Appends l at out mid p → Appends m p mid out' r → Appends (l ++ m) at out out' r
appends_then {l} {m} {at} {out} {mid} {out'} {p} {r} a b = record {
  front = b.front ∙ ap (λ (x : List ℕ). x ++ m) a.front ∙ append_assoc (take at out) l m;
  rest = b.rest ∙ behind;
  ends = let x = a.ends in let y = b.ends in rw length-append (omega arith);
  within = let x = b.within in let y = a.same in omega arith;
  same = b.same ∙ a.same;
}
  where
    behind : drop r mid ≡ drop r out
    behind = rw (b.ends, ← drop-drop (length m) p mid, ← drop-drop (length m) p out, a.rest)

-- a word laid over the bytes behind those in use
pub appends_word : (word now : List ℕ) (at k : ℕ) (out : List ℕ) → now ≡ word → k ≡ length word → at + k ≤ length out → Appends word at out (put_mid at k out now) (at + length word)
appends_word word now at k out e f h = rw e (record {
  front = take-put_mid at k out word (at + length word) refl (omega arith);
  rest = drop-put_mid at k out word (at + length word) (omega arith) (omega arith) (sym f);
  ends = refl;
  within = omega arith;
  same = same_len_mid at k out word (omega (arith, length-take-le k (drop at out) (omega (arith, length-drop at out))));
})

-- ---- a number, digit by digit

longer : (n : ℕ) → 10 ≤ n → length (decimal n) ≡ length (decimal (n / 10)) + 1
longer n h = rw (decimal_more n h, length-append) (omega arith)

-- a number has a digit, and without its last it is not longer: these ask nothing of the number, so that a wrong test for the last digit is
-- refused where a byte too many is written
not_longer : (n : ℕ) → (1 ≤ length (decimal n)) × (length (decimal (n / 10)) ≤ length (decimal n))
not_longer n =
    by_cases (ltb n 10)
    (λ e.
    let h = ltb-true n 10 e in
    let f = ap length (decimal_one n h) in
    let g = ap length (decimal_one (n / 10) (omega arith)) in (omega arith, omega arith))
    (λ e. let g = longer n (ltb-false n 10 e) in (omega arith, omega arith))

module _ (n at : ℕ) (out : List ℕ) (room : at + length (decimal n) ≤ length out) where
  pub digit_room : at + 1 ≤ length out
  digit_room = let h = not_longer n in omega arith

  pub higher_room : at + length (decimal (n / 10)) ≤ length out
  higher_room = let h = not_longer n in omega arith

  pub next_digit_room : 10 ≤ n → {mid : List ℕ} {p : ℕ} → Appends (decimal (n / 10)) at out mid p → p + 1 ≤ length mid
  next_digit_room h a =
      let e = longer n h in
      let f = a.ends in
      let g = a.same in
      omega arith

module _ (n b : ℕ) {at : ℕ} {out out' : List ℕ} {r : ℕ} where
  pub first_digit : decimal n ≡ b ∷ [] → Appends (b ∷ []) at out out' r → Appends (decimal n) at out out' r
  first_digit e a = rw e a

  pub next_digit : 10 ≤ n → {mid : List ℕ} {p : ℕ} → Appends (decimal (n / 10)) at out mid p → decimal (n % 10) ≡ b ∷ [] → Appends (b ∷ []) p mid out' r → Appends (decimal n) at out out' r
  next_digit h x e y = rw (decimal_more n h, ← decimal_one (n % 10) (omega arith), e) (appends_then x y)

-- ---- a number after a space

module _ (w n : ℕ) (small : n < 10 ^ suc w) {at : ℕ} {out mid : List ℕ} {p : ℕ} (a : Appends (32 ∷ []) at out mid p) where
  behind_space : at + (w + 2) ≤ length out → p + length (decimal n) ≤ length mid
  behind_space h = let e = decimal_few w n small in let f = a.ends in let g = a.same in omega arith

  after_space : {out' : List ℕ} {r : ℕ} → Appends (decimal n) p mid out' r → AppendsShort (w + 2) (spaced n) at out out' r
  after_space b = record { appends = appends_then a b; short = let e = decimal_few w n small in let f = a.ends in let g = b.ends in omega arith }

module _ (n : ℕ) {at : ℕ} {out mid : List ℕ} {p : ℕ} where
  pub number_room : Fits w32 n → Appends (32 ∷ []) at out mid p → at + number_width ≤ length out → p + length (decimal n) ≤ length mid
  number_room f a h = behind_space 9 n (omega arith) a h

  pub number_put : Fits w32 n → Appends (32 ∷ []) at out mid p → {out' : List ℕ} {r : ℕ} → Appends (decimal n) p mid out' r → AppendsShort number_width (spaced n) at out out' r
  number_put f a b = after_space 9 n (omega arith) a b

  pub event_room : Fits w16 n → Appends (32 ∷ []) at out mid p → at + event_width ≤ length out → p + length (decimal n) ≤ length mid
  event_room f a h = behind_space 4 n (omega arith) a h

  pub event_put : Fits w16 n → Appends (32 ∷ []) at out mid p → {out' : List ℕ} {r : ℕ} → Appends (decimal n) p mid out' r → AppendsShort event_width (spaced n) at out out' r
  event_put f a b = after_space 4 n (omega arith) a b
