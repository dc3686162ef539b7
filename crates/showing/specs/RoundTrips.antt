-- What is shown makes the recording again, and what a recording was made of is shown again.
use Rattle.std.specs.Prelude.{ℕ, ◌≤◌, ◌≡◌, ◌≢◌, ◌⊎◌, List, [], ◌∷◌, ◌++◌, length, take, Ok}
use Rattle.model.specs.Trace.{Trace}
use Rattle.model.specs.Lists.{in_front}
use Rattle.format.specs.Readable.{line_feed}
use Rattle.format.specs.Layout.{preamble}
use Rattle.judging.specs.Judged.{events_of}
use Rattle.writing.specs.Written.{file_with}
use Rattle.writing.specs.RoundTrip.{AllBytes}
use Rattle.writing.specs.Writing.{handed}
use Rattle.composing.specs.Texts.{text_bytes, lines, said, joined, Makes}
use Rattle.showing.specs.Shown.{notes_of, text_from, text_with, shown, answer_show}

-- ---- what is shown

-- the text makes the file s: it is no longer than a text may be, its lines make the notes and the events of s, and the writer gives s for these
pub record MakesAgain (s text : List ℕ) : Type 0 where
  pub short : length text ≤ text_bytes
  pub makes : Makes (lines text) (notes_of (preamble s)) (events_of s)
  pub again : (buffer : List ℕ) → length s ≤ length buffer → handed (file_with (joined (notes_of (preamble s))) (events_of s)) buffer ≡ (Ok (length s), in_front s buffer)

-- the first round trip: whatever was shown of a file of bytes
abbrev pub WhatIsShown : Type 0
WhatIsShown = (s : List ℕ) → AllBytes s → (out : List ℕ) (n : ℕ) (after : List ℕ) → answer_show s out ≡ (Ok n, after) → MakesAgain s (take n after)

-- ---- what was composed

-- a text whose last line has its line feed, or that has no line
abbrev pub Ended : List ℕ → Type 0
Ended text = (text ≡ []) ⊎ ((front : List ℕ) × (text ≡ front ++ (line_feed ∷ [])))

-- the text of these notes and events is shown of the file s: it has the lines of the text that are no comments, where its notes are not one empty
-- note, whose recording is that of no note. It is the same text where that has no comment and is ended
pub record ShowsAgain (text : List ℕ) (notes : List (List ℕ)) (es : Trace) (s : List ℕ) : Type 0 where
  pub shows : (out : List ℕ) → text_bytes ≤ length out → answer_show s out ≡ shown (text_with (joined notes) es) out
  pub said_again : notes ≢ [] ∷ [] → text_with (joined notes) es ≡ text_from (said (lines text))
  pub same : notes ≢ [] ∷ [] → said (lines text) ≡ lines text → Ended text → text_with (joined notes) es ≡ text

-- the second round trip: whatever was written of a text's notes and events
abbrev pub WhatIsComposed : Type 0
WhatIsComposed =
    (text : List ℕ) (notes : List (List ℕ)) (es : Trace) → Makes (lines text) notes es → (buffer : List ℕ) (n : ℕ) (after : List ℕ)
    → handed (file_with (joined notes) es) buffer ≡ (Ok n, after) → ShowsAgain text notes es (take n after)
