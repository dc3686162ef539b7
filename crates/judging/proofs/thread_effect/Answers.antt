use Rattle.std.proofs.Common.{rules}
use Rattle.judging.proofs.EffectLaws.{in_place}
use Rattle.judging.proofs.thread_effect.Goals as goal

pub lock_effect-requires : goal.lock_effect-requires
lock_effect-requires c = (
  search rules,
  search rules,
  in_place _ _ c.self_or_second.ensures c.if-self_or_second.false c.already_begun.ensures c.if-already_begun.false c.already_joined.ensures c.if-already_joined.false,
)
