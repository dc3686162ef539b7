-- The report of the paper's worked example Q, computed from the bytes of its file.
use Prim.Native.Nat.{ℕ}
use mathlib.Core.Path.{◌≡◌, refl}
use mathlib.Core.List.{List, [], ◌∷◌, ◌++◌}
use Rattle.model.specs.Trace.{does}
use Rattle.model.specs.Lists.{listed, just, all_but, threads}
use Rattle.model.specs.Observed.{observed}
use Rattle.model.specs.Sections.{own_depth, is_outermost, is_last}
use Rattle.model.specs.Cone.{gives_back, matching}
use Rattle.decision.specs.Check.{same_list, is_valid, is_next, is_seen, is_free, is_awaited, is_ready, place_tests, place_fault, fault_from, is_correct}
use Rattle.decision.specs.Refusals.{is_forked, is_joined, is_begun, is_self, is_second, event_tests}
use Rattle.decision.specs.Rounds.{is_brought, rounds, is_earlier, is_preceding, is_rooted, is_observed, is_exempt, is_closing, brings, cone}
use Rattle.decision.specs.Stairs.{is_opening, is_alike, is_within, is_overwriting, is_read_over, is_unended, is_bound, is_kept_apart, is_rising, is_forced, raised, settled, least_stairs, climb, least_merge}
use Rattle.decision.specs.Decision.{shown_for, is_access, is_conflicting, conflicting_pairs, races}
use Rattle.format.specs.Readable.{is_readable}
use Rattle.format.specs.Bytes.{events_from, trace_of}
use Rattle.format.specs.Layout.{distance, count, start, preamble, event_part, events, is_marked, is_pointed, layout_refusal}
use Rattle.judging.specs.Judged.{event_refusal, refusal_in, file_refusal}
use Rattle.appending.specs.Decimal.{decimal}
use Rattle.lines.specs.Lines.{events_line, race_head, race_line, races_line}
use Rattle.report.specs.Report.{report}

-- the paper's bytes of Q: eight events of four bytes, and the trailer
abbrev pub q_bytes : List ℕ
q_bytes =
    0x00 ∷ 0x02 ∷ 0x01 ∷ 0x00 ∷ 0x00 ∷ 0x03 ∷ 0x00 ∷ 0x00 ∷ 0x00 ∷ 0x01 ∷ 0x00 ∷ 0x00 ∷ 0x00 ∷ 0x04 ∷ 0x00 ∷ 0x00
    ∷ 0x01 ∷ 0x03 ∷ 0x00 ∷ 0x00 ∷ 0x01 ∷ 0x01 ∷ 0x00 ∷ 0x00 ∷ 0x01 ∷ 0x04 ∷ 0x00 ∷ 0x00 ∷ 0x01 ∷ 0x01 ∷ 0x01 ∷ 0x00
    ∷ 0x28 ∷ 0x00 ∷ 0x00 ∷ 0x00 ∷ 0x08 ∷ 0x00 ∷ 0x50 ∷ 0x4C ∷ []

-- "events 8 threads 2", "race 1 8 witness 5 6 7" and "races 1"
pub report_of_q : report q_bytes ≡ events_line 8 2 ++ (race_line 1 8 (5 ∷ 6 ∷ 7 ∷ []) ++ races_line 1)
unfolding does listed just all_but threads observed own_depth is_outermost is_last gives_back matching same_list is_valid is_next is_seen is_free is_awaited is_ready place_tests place_fault fault_from is_correct is_forked is_joined is_begun is_self is_second event_tests event_refusal refusal_in
    is_brought rounds is_earlier is_preceding is_rooted is_observed is_exempt is_closing brings cone is_opening is_alike is_within is_overwriting is_read_over is_unended is_bound is_kept_apart is_rising is_forced raised settled least_stairs climb least_merge
    shown_for is_access is_conflicting conflicting_pairs races
    events_from trace_of distance count start preamble is_readable event_part events is_marked is_pointed layout_refusal file_refusal
    decimal events_line race_head race_line races_line report
report_of_q = refl
