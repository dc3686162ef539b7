-- The ways through the functions that write the report.
use Prim.Native.Nat.{ℕ, ◌+◌, ◌-◌, ◌≤◌, ◌<◌}
use native.Mathlib.Omega.{arith}
use mathlib.Core.Path.{◌≡◌, refl, sym, ◌∙◌, ap, subst}
use mathlib.Core.Option.{Option, none, some}
use mathlib.Core.List.{List, ◌∷◌, ◌++◌, append_assoc}
use lib.ListN.{length, take, drop, length-append, length-drop}
use lib.Seq.{length-take-le}
use mir.Val.{Fits}
use mir.Syntax.{w32}
use Rattle.model.specs.Trace.{Trace}
use Rattle.model.specs.Listing.{Race}
use Rattle.decision.specs.Decision.{next_race}
use Rattle.model.specs.Lists.{in_front}
use Rattle.model.proofs.Lists.{front_taken}
use Rattle.table.specs.declared.judged.Table.{Table}
use Rattle.table.specs.Judged.{events}
use Rattle.table.specs.Table.{trace}
use Rattle.limits.specs.declared.Refusal.{Refusal}
use Rattle.judging.specs.Judged.{events_of, refusal_of}
use Rattle.opening.specs.Opening.{Opens}
use Rattle.opening.proofs.OpenLaws.{refused_by, opened_clean, opened_trace}
use Rattle.races.specs.Next.{Hands}
use Rattle.races.specs.declared.Race.{Race as FoundRace}
use Rattle.std.specs.Prelude.{Option as RustOption, None, Some, Ok, Err}
use Rattle.races.proofs.AnswerLaws.{handed-none, handed-some}
use Rattle.lines.specs.Lines.{race_line, races_line, refused_line}
use Rattle.appending.specs.Appended.{Appends}
use Rattle.appending.proofs.AppendLaws.{appends_then}
use Rattle.lines.specs.Room.{line_bytes, Room, RaceRoom}
use Rattle.report.specs.Report.{first_line}
use Rattle.report.specs.Rest.{Line, after, max_races, behind_first, races_from, lines_from, lines_at, fill}
use Rattle.report.specs.Writing.{Countable, Starting, Writing, position_in, next_of, OnNext, Advances, Writes, Fills}
use Rattle.report.specs.declared.Position.{Position}
use Rattle.report.specs.declared.Progress.{Progress}
use Rattle.report.proofs.RestLaws.{few_countable, fill_stops, fill_goes, fill_last, from_first, first_countable, from_end, from-race, race_countable}

-- ---- an opened file

-- a good one's table is ready
pub good_starting : {table : Table} {p : Position} {out : List ℕ} → p.count ≤ max_races → Room 0 out → Starting table p out
good_starting {table} {p} c h = record { countable = few_countable (events table) table.links.good.size p c; room = h }

-- its lines are what fills the buffer
pub good_writes : (s : List ℕ) {rows rows' : List ℕ} {n : ℕ} → Opens (refusal_of s) (events_of s) rows rows' (Ok n) → (p : Position) {out out' : List ℕ} (w : Progress)
    → Writes (lines_from (trace (take n rows')) p) out out' w → Writes (lines_at s p) out out' w
unfolding lines_at
good_writes s o p w y = rw (opened_clean o) (rw (opened_trace o) at y)

-- or a refusal's line is
pub refused_writes : (s : List ℕ) {rows rows' : List ℕ} {r : Refusal} → Opens (refusal_of s) (events_of s) rows rows' (Err r) → (p : Position) {out out' : List ℕ} {n : ℕ}
    → Appends (refused_line r) 0 out out' n → Writes (lines_at s p) out out' (record { bytes = n; next = None })
unfolding lines_at
refused_writes s {r = r} o p {out = out} a = let l = fill_last (length out) (refused_line r) in rw (refused_by o) (record { puts = rw l a; stops = rw l })

-- ---- one line

module _ {p : Position} {table : Table} {list : List ℕ} {at : ℕ} {out : List ℕ} (g : Writing table p list at out) where
  -- the first line
  pub line_first : p.next ≡ 0 → {out' : List ℕ} {r : ℕ} → Appends (first_line (events table)) at out out' r
      → Advances (events table) (lines_from (events table) p) list list at out out' (record { bytes = r; next = Some (behind_first p) })
  line_first e a = record {
    line = first_line (events table);
    first = from_first (events table) p e;
    puts = a;
    countable = first_countable (events table) p g.countable;
    list_long = refl;
  }

  -- that of a race, or the last
  module _ {list' : List ℕ} (x : RustOption FoundRace) (h : Hands (next_race (events table) p.lower p.higher) list list' x) (long : length list' ≡ length list) where
    pub line_ended : x ≡ None → {out' : List ℕ} {r : ℕ} → Appends (races_line p.count) at out out' r
        → Advances (events table) (races_from (events table) p) list list' at out out' (record { bytes = r; next = None })
    line_ended e a =
        let n = handed-none (next_race (events table) p.lower p.higher) (sym e ∙ h.says) in
        record {
          line = races_line p.count;
          first = from_end (events table) table.links.good.well_formed p n;
          puts = a;
          countable = tt;
          list_long = long;
        }

    by_race : (y : Race) → next_race (events table) p.lower p.higher ≡ some y → (k j : ℕ) → k ≡ y.lower → j ≡ y.higher → {out' : List ℕ} {r : ℕ}
        → Appends (race_line k j y.witness) at out out' r
        → Advances (events table) (races_from (events table) p) list list' at out out' (record { bytes = r; next = Some (record { next = 1; lower = k; higher = j; count = p.count + 1 }) })
    by_race y e k j ek ej a =
        let w = table.links.good.well_formed in
        let b = rw (ek, ej) at a in
        rw (ek, ej) (record {
          line = race_line y.lower y.higher y.witness;
          first = from-race (events table) w p y e;
          puts = b;
          countable = (race_countable (events table) w p y e g.countable).1;
          list_long = long;
        })

    module _ (o : FoundRace) (e : x ≡ Some o) where
      race : (y : Race) × (next_race (events table) p.lower p.higher ≡ some y) × (o.lower ≡ y.lower) × (o.higher ≡ y.higher) × (o.length ≡ length y.witness)
      race = handed-some (next_race (events table) p.lower p.higher) o (sym e ∙ h.says)

      in_list : list' ≡ in_front race.0.witness list
      in_list = rw race.1 at h.wrote

      pub race_listed : o.length ≤ length list'
      unfolding in_front
      race_listed =
          let y = race in
          let w = y.0.witness in
          let l : length list' ≡ length w + (length list - length w) = ap length in_list ∙ length-append w (drop (length w) list) ∙ ap (λ (i : ℕ). length w + i) (length-drop (length w) list) in
          let q = y.4 in
          omega arith

      pub race_long : o.length ≡ length (take o.length list')
      race_long = sym (length-take-le o.length list' race_listed)

      pub race-room : RaceRoom at (take o.length list') out
      race-room = let l = race_long in let i = race_listed in let m = g.entries in record { room = g.room; few = omega arith }

      pub count_fits : Fits w32 (p.count + 1)
      count_fits = let y = race in record { fits = (race_countable (events table) table.links.good.well_formed p y.0 y.1 g.countable).0 }

      in_front_lem : take o.length list' ≡ race.0.witness
      in_front_lem = let v = race.0.witness in ap (λ (i : ℕ). take i list') race.4 ∙ ap (take (length v)) in_list ∙ front_taken v list

      pub line_more : {out' : List ℕ} {r : ℕ} → Appends (race_line o.lower o.higher (take o.length list')) at out out' r
          → Advances (events table) (races_from (events table) p) list list' at out out' (record { bytes = r; next = Some (record { next = 1; lower = o.lower; higher = o.higher; count = p.count + 1 }) })
      line_more a = let y = race in by_race y.0 y.1 o.lower o.higher y.2 y.3 (rw in_front_lem at a)

-- what is lent is ready for the next line
again : {p q : Position} {table : Table} {list list' : List ℕ} {at m : ℕ} {out out' : List ℕ} → Writing table p list at out
    → Countable (events table) q → length list' ≡ length list → Room m out' → Writing table q list' m out'
again g c l h =
    let i = g.entries in
    let d = g.lent.room in
    record { lent = record { room = omega arith }; entries = omega arith; countable = c; room = h }

-- ---- as many lines as fit

-- the lines from p on are written as far as q: some bytes were put, and what is to be put in all is these and what is to be put from q on
pub record Filling (table : Table) (p : Position) (list₀ out₀ list out : List ℕ) (q : Position) (n : ℕ) : Type 0 where
  pub writing : Writing table q list n out
  pub put : List ℕ
  pub puts : Appends put 0 out₀ out n
  pub bytes : (fill (length out₀) (lines_from (events table) p)).0 ≡ put ++ (fill (length out - n) (lines_from (events table) q)).0
  pub stops : (fill (length out₀) (lines_from (events table) p)).1 ≡ (fill (length out - n) (lines_from (events table) q)).1
  pub left : length (lines_from (events table) q) ≤ length (lines_from (events table) p)
  pub list_long : length list ≡ length list₀
  pub out_long : length out ≡ length out₀

-- what was put is what fills the buffer
filled : {p : Position} {table : Table} {list₀ out₀ list out : List ℕ} {q : Position} {m : ℕ} → Filling table p list₀ out₀ list out q m
    → {list' out' : List ℕ} (w : Progress) (x : Advances (events table) (lines_from (events table) q) list list' m out out' w)
    → fill (length out - m) (lines_from (events table) q) ≡ (x.line, next_of w) → Fills (events table) p list₀ list' out₀ out' w
filled f w x b =
    let l = ap length x.first in
    let k = f.left in
    record {
      writes = record { puts = rw (f.bytes, b) (appends_then f.puts x.puts); stops = sym (f.stops ∙ ap (λ (z : List ℕ × Option Position). z.1) b) };
      fewer = omega arith;
      countable = x.countable;
      list_long = x.list_long ∙ f.list_long;
    }

-- a line that ends the report is the last that is put
fill_ends : (room : ℕ) (t : Trace) (b : List ℕ) (o : Option Position) → o ≡ none → fill room (record { bytes = b; behind = o } ∷ after (lines_from t) o) ≡ (b, o)
fill_ends room t b none e = fill_last room b
fill_ends room t b (some q) e = cc

-- where there is a position to go on from
module _ (w : Progress) (r : Position) (e : w.next ≡ Some r) where
  lines_behind : (t : Trace) → after (lines_from t) (next_of w) ≡ lines_from t r
  lines_behind t = ap (λ (o : RustOption Position). after (lines_from t) (position_in o)) e

  countable_on : (t : Trace) → OnNext (Countable t) (next_of w) → Countable t r
  countable_on t c = let P : RustOption Position → Type 0 = λ o. OnNext (Countable t) (position_in o) in subst P e c

-- a line is put behind these, and w tells of it
module _ {p : Position} {table : Table} {list₀ out₀ list out : List ℕ} {q : Position} {m : ℕ} (f : Filling table p list₀ out₀ list out q m)
    {list' out' : List ℕ} (w : Progress) (x : Advances (events table) (lines_from (events table) q) list list' m out out' w) where
  -- the room that is left behind the line
  room-left : length out - m - length x.line ≡ length out' - w.bytes
  room-left = let k = x.puts.ends in let s = x.puts.same in omega arith

  pub fill_within : w.bytes ≤ length out'
  fill_within = let a = x.puts.within in let b = x.puts.same in omega arith

  pub fill_full : length out' - w.bytes < line_bytes → Fills (events table) p list₀ list' out₀ out' w
  fill_full h =
      let k = room-left in
      let v : length out - m - length x.line < line_bytes = omega arith in
      filled f w x (ap (fill (length out - m)) x.first ∙ fill_stops (length out - m) (record { bytes = x.line; behind = next_of w }) (after (lines_from (events table)) (next_of w)) v)

  pub fill_ended : w.next ≡ None → Fills (events table) p list₀ list' out₀ out' w
  fill_ended e = filled f w x (ap (fill (length out - m)) x.first ∙ fill_ends (length out - m) (events table) x.line (next_of w) (ap position_in e))

  module _ (r : Position) (e : w.next ≡ Some r) where
    first_on : lines_from (events table) q ≡ record { bytes = x.line; behind = next_of w } ∷ lines_from (events table) r
    first_on = x.first ∙ ap (λ (l : List Line). record { bytes = x.line; behind = next_of w } ∷ l) (lines_behind w r e (events table))

    pub fill_less : length (lines_from (events table) r) < length (lines_from (events table) q)
    fill_less = let l = ap length first_on in omega arith

    pub fill_on : line_bytes ≤ length out' - w.bytes → Filling table p list₀ out₀ list' out' r w.bytes
    fill_on h =
        let k = room-left in
        let v : line_bytes ≤ length out - m - length x.line = omega arith in
        let i = fill_within in
        let d : Room w.bytes out' = omega arith in
        let a = f.left in
        let b = fill_less in
        let n : fill (length out - m) (lines_from (events table) q) ≡ (x.line ++ (fill (length out' - w.bytes) (lines_from (events table) r)).0, (fill (length out' - w.bytes) (lines_from (events table) r)).1) =
        rw (room-left, lines_behind w r e (events table)) at (ap (fill (length out - m)) x.first ∙ fill_goes (length out - m) (record { bytes = x.line; behind = next_of w }) (after (lines_from (events table)) (next_of w)) v) in
        record {
          writing = again f.writing (countable_on w r e (events table) x.countable) x.list_long d;
          put = f.put ++ x.line;
          puts = appends_then f.puts x.puts;
          bytes = f.bytes ∙ ap (λ (z : List ℕ × Option Position). f.put ++ z.0) n ∙ sym (append_assoc f.put x.line (fill (length out' - w.bytes) (lines_from (events table) r)).0);
          stops = f.stops ∙ ap (λ (z : List ℕ × Option Position). z.1) n;
          left = omega arith;
          list_long = x.list_long ∙ f.list_long;
          out_long = x.puts.same ∙ f.out_long;
        }

-- ---- block after block: what a caller goes on by

module _ {p : Position} {table : Table} {list out : List ℕ} (g : Writing table p list 0 out)
    {list' out' : List ℕ} (w : Progress) (x : Fills (events table) p list list' out out' w) where
  pub block_within : w.bytes ≤ length out'
  block_within = let a = x.writes.puts.within in let b = x.writes.puts.same in omega arith

  -- the next block in the same buffer
  pub block_again : (q : Position) → w.next ≡ Some q → Writing table q list' 0 out'
  block_again q e = let r = g.room in let b = x.writes.puts.same in let d : Room 0 out' = omega arith in again g (countable_on w q e (events table) x.countable) x.list_long d
