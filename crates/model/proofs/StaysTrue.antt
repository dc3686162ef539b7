-- Demand 3, whole: one theorem over a trace, a pair and the whole list of added events.
use Rattle.model.specs.Trace.{thread_of}
use Rattle.model.specs.Lists.{pair}
use Rattle.model.specs.StaysTrue.{DemandThree}
use Rattle.model.proofs.Threads.{conflicting_apart}
use Rattle.model.proofs.TwoThreads.{two_threads_exact}
use Rattle.model.proofs.Stability.{same_verdict, same_witness, candidate_stays}

pub stays_true : DemandThree
stays_true t t' g long a b c =
    let apart = conflicting_apart t a b c in record {
      two_threads = λ two. record {
        exact = two_threads_exact t g two a b apart;
        same_verdict = same_verdict t two a b apart t' long;
        same_witness = same_witness t two a b apart t' long;
      };
      witness_stays = λ ρ s. candidate_stays t t' long (pair a b) apart.valid (thread_of t a) ρ s.candidate;
    }
