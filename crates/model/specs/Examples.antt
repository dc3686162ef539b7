-- The paper's worked examples P to X, Y and Z for re-entrant locks, two for what these leave open, and some for forks and joins, with what the rules say of them.
use Rattle.std.specs.Prelude.{ℕ, ◌≡◌, length}
use mathlib.Core.List.{List, [], ◌∷◌, Memᴰ}
use Rattle.model.specs.Trace.{Trace, Event, read, write, acquire, release, fork, join}
use Rattle.model.specs.Lists.{threads}
use Rattle.model.specs.Good.{Good}
use Rattle.model.specs.Check.{CheckAnswer}
use Rattle.model.specs.Listing.{Race, RaceOf, pair_of, Listing}

-- a list proposed for (a, b) and the check's answer, 0 for yes
pub record Proposal : Type 0 where
  pub lower : ℕ
  pub higher : ℕ
  pub list : List ℕ
  pub answer : ℕ

pub record Example : Type 0 where
  pub trace : Trace
  pub thread_count : ℕ
  pub races : List Race
  pub proposals : List Proposal

-- what the paper says of an example, by the rules
pub record HoldsOf (e : Example) : Type 0 where
  pub good : Good e.trace
  pub count : length (threads e.trace) ≡ e.thread_count
  pub listing : Listing pair_of (RaceOf e.trace) e.races
  pub answers : (p : Proposal) → Memᴰ p e.proposals → CheckAnswer e.trace p.lower p.higher p.list p.answer

-- events by thread c
abbrev r : ℕ → ℕ → Event
r c x = record { thread = c; kind = read; object = x }

abbrev w : ℕ → ℕ → Event
w c x = record { thread = c; kind = write; object = x }

abbrev acq : ℕ → ℕ → Event
acq c x = record { thread = c; kind = acquire; object = x }

abbrev rel : ℕ → ℕ → Event
rel c x = record { thread = c; kind = release; object = x }

-- of thread d
abbrev forks : ℕ → ℕ → Event
forks c d = record { thread = c; kind = fork; object = d }

abbrev joins : ℕ → ℕ → Event
joins c d = record { thread = c; kind = join; object = d }

abbrev race : ℕ → ℕ → List ℕ → Race
race a b ρ = record { lower = a; higher = b; witness = ρ }

abbrev pub proposal : ℕ → ℕ → List ℕ → ℕ → Proposal
proposal a b l n = record { lower = a; higher = b; list = l; answer = n }

-- cells x = 0, y = 1, z = 2; locks l = 0, m = 1
abbrev pub examples : List Example
examples =
    -- P
    record { trace = []; thread_count = 0; races = []; proposals = [] }
    -- Q
    ∷ record {
      trace = w 0 1 ∷ acq 0 0 ∷ r 0 0 ∷ rel 0 0 ∷ acq 1 0 ∷ r 1 0 ∷ rel 1 0 ∷ r 1 1 ∷ [];
      thread_count = 2;
      races = race 1 8 (5 ∷ 6 ∷ 7 ∷ []) ∷ [];
      proposals = [];
    }
    -- R
    ∷ record {
      trace = acq 0 0 ∷ r 0 0 ∷ w 0 0 ∷ rel 0 0 ∷ acq 1 0 ∷ r 1 0 ∷ w 1 0 ∷ rel 1 0 ∷ [];
      thread_count = 2;
      races = [];
      proposals = [];
    }
    -- S
    ∷ record {
      trace = w 0 1 ∷ acq 0 0 ∷ w 0 0 ∷ rel 0 0 ∷ acq 1 0 ∷ r 1 1 ∷ r 1 0 ∷ rel 1 0 ∷ [];
      thread_count = 2;
      races = race 1 6 (5 ∷ []) ∷ [];
      proposals = [];
    }
    -- T: S with 6 and 7 exchanged
    ∷ record {
      trace = w 0 1 ∷ acq 0 0 ∷ w 0 0 ∷ rel 0 0 ∷ acq 1 0 ∷ r 1 0 ∷ r 1 1 ∷ rel 1 0 ∷ [];
      thread_count = 2;
      races = [];
      proposals = [];
    }
    -- U
    ∷ record {
      trace = r 0 0 ∷ w 0 2 ∷ w 1 0 ∷ w 1 2 ∷ [];
      thread_count = 2;
      races = race 1 3 [] ∷ race 2 4 (1 ∷ 3 ∷ []) ∷ [];
      proposals =
          proposal 2 4 (3 ∷ 1 ∷ []) 23
          ∷ proposal 2 4 (1 ∷ 0 ∷ []) 21
          ∷ proposal 2 4 (5 ∷ []) 21
          ∷ proposal 2 4 (2 ∷ []) 22
          ∷ proposal 2 4 (1 ∷ 1 ∷ []) 22
          ∷ proposal 2 4 [] 25
          ∷ proposal 2 4 (1 ∷ []) 26
          ∷ [];
    }
    -- V
    ∷ record {
      trace = w 0 0 ∷ r 1 0 ∷ [];
      thread_count = 2;
      races = race 1 2 [] ∷ [];
      proposals = proposal 1 2 [] 0 ∷ [];
    }
    -- W
    ∷ record {
      trace = w 0 0 ∷ acq 2 0 ∷ w 2 1 ∷ r 2 0 ∷ rel 2 0 ∷ r 1 1 ∷ w 1 0 ∷ [];
      thread_count = 3;
      races = race 1 4 (2 ∷ 3 ∷ []) ∷ race 3 6 (2 ∷ []) ∷ race 4 7 (2 ∷ 3 ∷ 6 ∷ []) ∷ [];
      proposals = proposal 1 7 (2 ∷ 3 ∷ 6 ∷ []) 0 ∷ [];
    }
    -- X
    ∷ record {
      trace = acq 2 1 ∷ w 2 1 ∷ r 0 1 ∷ w 0 0 ∷ acq 1 0 ∷ r 1 0 ∷ rel 1 0 ∷ acq 2 0 ∷ rel 2 0 ∷ rel 2 1 ∷ [];
      thread_count = 3;
      races = race 2 3 (1 ∷ []) ∷ [];
      proposals = [];
    }
    -- Y: inner releases do not count. (1, 10) is not reported, since rule (iv) brings in 7, so 6, so 1; nor is (6, 10), since after 5 thread 2 holds l still.
    ∷ record {
      trace = w 0 0 ∷ acq 2 0 ∷ acq 2 0 ∷ w 2 1 ∷ rel 2 0 ∷ r 2 0 ∷ rel 2 0 ∷ r 1 1 ∷ acq 1 0 ∷ w 1 0 ∷ [];
      thread_count = 3;
      races = race 1 6 (2 ∷ 3 ∷ 4 ∷ 5 ∷ []) ∷ race 4 8 (2 ∷ 3 ∷ []) ∷ [];
      proposals = proposal 6 10 (2 ∷ 3 ∷ 4 ∷ 5 ∷ 8 ∷ 9 ∷ []) 24 ∷ [];
    }
    -- Z: S with l taken twice by thread 1, and so two deep at its reads
    ∷ record {
      trace = w 0 1 ∷ acq 0 0 ∷ w 0 0 ∷ rel 0 0 ∷ acq 1 0 ∷ acq 1 0 ∷ r 1 1 ∷ r 1 0 ∷ rel 1 0 ∷ rel 1 0 ∷ [];
      thread_count = 2;
      races = race 1 7 (5 ∷ 6 ∷ []) ∷ [];
      proposals = proposal 1 7 (5 ∷ 6 ∷ []) 0 ∷ [];
    }
    -- two lists are possible: the one shown begins with the thread that is not moved
    ∷ record {
      trace = w 0 1 ∷ w 0 0 ∷ w 1 2 ∷ w 1 0 ∷ [];
      thread_count = 2;
      races = race 2 4 (3 ∷ 1 ∷ []) ∷ [];
      proposals = proposal 2 4 (1 ∷ 3 ∷ []) 0 ∷ [];
    }
    -- two locks: (1, 9) is not reported, since 2 is given back by 7 and not by 5, and rule (iv) brings in 7, so 6, so 1
    ∷ record {
      trace = w 0 0 ∷ acq 2 0 ∷ acq 2 1 ∷ w 2 1 ∷ rel 2 1 ∷ r 2 0 ∷ rel 2 0 ∷ r 1 1 ∷ w 1 0 ∷ [];
      thread_count = 3;
      races = race 1 6 (2 ∷ 3 ∷ 4 ∷ 5 ∷ []) ∷ race 4 8 (2 ∷ 3 ∷ []) ∷ race 6 9 (2 ∷ 3 ∷ 4 ∷ 8 ∷ 5 ∷ []) ∷ [];
      proposals = [];
    }
    -- a write before the fork never meets the child's first write: the fork is in the cone, and so is the write
    ∷ record {
      trace = w 0 0 ∷ forks 0 1 ∷ w 1 0 ∷ joins 0 1 ∷ [];
      thread_count = 2;
      races = [];
      proposals = proposal 1 3 [] 26 ∷ proposal 1 3 (1 ∷ 2 ∷ []) 25 ∷ proposal 1 3 (2 ∷ []) 22 ∷ proposal 1 3 (3 ∷ []) 27 ∷ proposal 1 3 (1 ∷ 3 ∷ []) 27 ∷ [];
    }
    -- a child's write and its parent's after the fork meet, and not after the join
    ∷ record {
      trace = forks 0 1 ∷ w 1 0 ∷ w 0 0 ∷ joins 0 1 ∷ w 0 0 ∷ [];
      thread_count = 2;
      races = race 2 3 (1 ∷ []) ∷ [];
      proposals = proposal 2 3 [] 25 ∷ proposal 2 3 (2 ∷ []) 27 ∷ proposal 2 5 (1 ∷ 3 ∷ []) 26 ∷ proposal 2 5 (1 ∷ 3 ∷ 4 ∷ []) 27 ∷ [];
    }
    -- the fork of (5, 6) is by a third thread, with what stands before it and the release of its lock
    ∷ record {
      trace = acq 2 0 ∷ w 2 1 ∷ forks 2 1 ∷ rel 2 0 ∷ w 0 0 ∷ w 1 0 ∷ [];
      thread_count = 3;
      races = race 5 6 (1 ∷ 2 ∷ 3 ∷ 4 ∷ []) ∷ [];
      proposals = proposal 5 6 (1 ∷ 2 ∷ 3 ∷ []) 0 ∷ proposal 5 6 (1 ∷ 2 ∷ []) 26 ∷ proposal 5 6 (1 ∷ 2 ∷ 6 ∷ []) 27 ∷ [];
    }
    -- a join brings in a whole thread: (4, 5) with 1 and 2; (2, 6) is not reported
    ∷ record {
      trace = w 1 1 ∷ w 1 0 ∷ joins 0 1 ∷ w 0 2 ∷ r 2 2 ∷ w 2 0 ∷ [];
      thread_count = 3;
      races = race 4 5 (1 ∷ 2 ∷ 3 ∷ []) ∷ [];
      proposals = proposal 4 5 (1 ∷ 3 ∷ []) 27 ∷ proposal 2 6 (1 ∷ 2 ∷ 3 ∷ 4 ∷ 5 ∷ []) 25 ∷ proposal 2 6 (1 ∷ 5 ∷ []) 23 ∷ [];
    }
    -- the moved thread forks: its fork stands before the child's write, which another thread saw
    ∷ record {
      trace = forks 0 2 ∷ w 0 0 ∷ w 2 1 ∷ r 1 1 ∷ w 1 0 ∷ [];
      thread_count = 3;
      races = race 2 5 (1 ∷ 3 ∷ 4 ∷ []) ∷ race 3 4 (1 ∷ []) ∷ [];
      proposals = proposal 2 5 (3 ∷ 1 ∷ 4 ∷ []) 27 ∷ proposal 2 5 (1 ∷ 4 ∷ 3 ∷ []) 23 ∷ [];
    }
    -- only an event of the cone needs the fork, and not (3, 5)
    ∷ record {
      trace = forks 3 2 ∷ w 2 1 ∷ w 0 0 ∷ r 1 1 ∷ w 1 0 ∷ [];
      thread_count = 4;
      races = race 2 4 (1 ∷ []) ∷ race 3 5 (1 ∷ 2 ∷ 4 ∷ []) ∷ [];
      proposals = proposal 3 5 (2 ∷ 4 ∷ []) 27 ∷ proposal 3 5 (2 ∷ 1 ∷ 4 ∷ []) 27 ∷ [];
    }
    -- joined by two threads, and never forked: two lists are possible
    ∷ record {
      trace = w 1 0 ∷ joins 0 1 ∷ joins 2 1 ∷ w 0 1 ∷ w 2 1 ∷ [];
      thread_count = 3;
      races = race 4 5 (1 ∷ 3 ∷ 2 ∷ []) ∷ [];
      proposals = proposal 4 5 (1 ∷ 2 ∷ 3 ∷ []) 0 ∷ proposal 4 5 (2 ∷ 1 ∷ 3 ∷ []) 27 ∷ [];
    }
    -- 23 comes before 27 in one place, and 22 before both; a place comes before the next
    ∷ record {
      trace = w 0 0 ∷ forks 0 1 ∷ r 1 0 ∷ w 1 1 ∷ w 2 1 ∷ [];
      thread_count = 3;
      races = race 4 5 (1 ∷ 2 ∷ 3 ∷ []) ∷ [];
      proposals = proposal 4 5 (3 ∷ []) 23 ∷ proposal 4 5 (1 ∷ 3 ∷ []) 27 ∷ proposal 4 5 (4 ∷ []) 22 ∷ proposal 4 5 (1 ∷ 3 ∷ 0 ∷ []) 27 ∷ [];
    }
    -- 24 comes before 27
    ∷ record {
      trace = acq 0 0 ∷ forks 0 1 ∷ rel 0 0 ∷ acq 1 0 ∷ w 1 0 ∷ rel 1 0 ∷ w 2 0 ∷ [];
      thread_count = 3;
      races = race 5 7 (1 ∷ 2 ∷ 3 ∷ 4 ∷ []) ∷ [];
      proposals = proposal 5 7 (4 ∷ []) 27 ∷ proposal 5 7 (1 ∷ 4 ∷ []) 24 ∷ [];
    }
    ∷ []
