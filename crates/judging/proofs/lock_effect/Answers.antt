use Rattle.std.proofs.Common.{rules}
use Rattle.judging.proofs.EffectLaws.{deeper_fits}
use Rattle.judging.proofs.lock_effect.Goals as goal

pub overflow_add-result : goal.overflow_add-result
overflow_add-result c = search (deeper_fits, rules)
