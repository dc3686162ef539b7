-- Refusals 1 to 4 and 13 are given exactly in their cases and order, and none exactly when the file has the layout.
use Prim.Native.Nat.{ℕ, ◌+◌, ◌-◌, ◌*◌}
use mathlib.Core.Path.{◌≡◌, refl}
use mathlib.Core.Logic.Iff
use mathlib.Core.Logic.{◌↔◌}
use mathlib.Core.Bool.{true}
use mathlib.Core.Option.{Option, none}
use mathlib.Core.List.{List, [], ◌∷◌}
use lib.ListN.{length}
use lib.Dec.{eqb, leb}
use borrow.Author.Tests.{eqb-true, eq-eqb, leb-true, le-leb}
use Rattle.model.specs.Good.{max_events}
use Rattle.model.specs.Rows.{First, Quiet, said}
use Rattle.model.proofs.Tests.{both, true_both}
use Rattle.model.proofs.RowsExact.{not_exactly, surely, tests_first, first_exactly}
use Rattle.limits.specs.Limits.{trailer_bytes, max_bytes, is_file_size, mark_first, mark_second}
use Rattle.limits.specs.Refusals.{paper}
use Rattle.limits.proofs.PaperLaws.{paper_one, quiet_exactly}
use Rattle.format.proofs.ReadableExact.{readable_true, true_readable}
use Rattle.format.specs.Bytes.{byte}
use Rattle.format.specs.Layout.{distance, count, preamble, Sized, Marked, Pointed, Layout, layout_rows, layout_tests, is_marked, is_pointed, layout_refusal}
use Rattle.limits.specs.declared.Refusal.{Refusal}
use Rattle.limits.specs.declared.Refusal.TheVariants.{FileSize, Mark, EventCount, Distance, Preamble}

module _ (s : List ℕ) where
  pub sized_true : is_file_size (length s) ≡ true → Sized s
  sized_true e =
      let p = both (leb trailer_bytes (length s)) (leb (length s) max_bytes) e in
      record { least = leb-true trailer_bytes (length s) p.0; most = leb-true (length s) max_bytes p.1 }

  pub true_sized : Sized s → is_file_size (length s) ≡ true
  true_sized p = true_both (le-leb trailer_bytes (length s) p.least) (le-leb (length s) max_bytes p.most)

  pub marked_true : is_marked s ≡ true → Marked s
  unfolding is_marked
  marked_true e =
      let p = both (eqb (byte s (length s - 2)) mark_first) (eqb (byte s (length s - 1)) mark_second) e in
      record { first = eqb-true _ _ p.0; second = eqb-true _ _ p.1 }

  pub true_marked : Marked s → is_marked s ≡ true
  unfolding is_marked
  true_marked p = true_both (eq-eqb _ _ p.first) (eq-eqb _ _ p.second)

  module _ (z : ℕ) where
    pointed_true : is_pointed z s ≡ true → Pointed z s
    unfolding is_pointed
    pointed_true e =
        let p = both (eqb (distance s) (trailer_bytes + z * count s)) (leb (distance s) (length s)) e in
        record { back = eqb-true _ _ p.0; within = leb-true (distance s) (length s) p.1 }

    true_pointed : Pointed z s → is_pointed z s ≡ true
    unfolding is_pointed
    true_pointed p = true_both (eq-eqb _ _ p.back) (le-leb (distance s) (length s) p.within)

    layout_first : First (layout_rows z s) (said paper (layout_refusal z s))
    unfolding layout_refusal
    layout_first =
        tests_first paper (layout_tests z s) (FileSize ∷ Mark ∷ EventCount ∷ Distance ∷ Preamble ∷ []) (layout_rows z s) (
          not_exactly sized_true true_sized,
          (
            not_exactly marked_true true_marked,
            (not_exactly (leb-true (count s) max_events) (le-leb (count s) max_events), (not_exactly pointed_true true_pointed, (not_exactly (readable_true (preamble s)) (true_readable (preamble s)), tt))),
          ),
        )
        refl

    -- each answer exactly in its case
    pub layout_exactly : (o : Option Refusal) → (layout_refusal z s ≡ o) ↔ First (layout_rows z s) (said paper o)
    layout_exactly o = first_exactly paper paper_one (layout_rows z s) (layout_refusal z s) layout_first o

    -- none exactly where the file has the layout
    pub layout_quiet : Quiet (layout_rows z s) ↔ Layout z s
    layout_quiet = (
      (λ q. record {
        sized = surely sized_true true_sized q.0;
        marked = surely marked_true true_marked q.1.0;
        few = surely (leb-true (count s) max_events) (le-leb (count s) max_events) q.1.1.0;
        pointed = surely pointed_true true_pointed q.1.1.1.0;
        readable = surely (readable_true (preamble s)) (true_readable (preamble s)) q.1.1.1.1.0;
      }),
      (λ l. ((λ f. f l.sized), ((λ f. f l.marked), ((λ f. f l.few), ((λ f. f l.pointed), ((λ f. f l.readable), tt)))))),
    )

    pub layout_none : (layout_refusal z s ≡ none) ↔ Layout z s
    layout_none = Iff.trans (quiet_exactly (layout_rows z s) (layout_refusal z s) layout_first) layout_quiet
