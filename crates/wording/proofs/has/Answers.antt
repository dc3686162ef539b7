use Rattle.std.proofs.Common.{◌∙◌}
use Rattle.wording.proofs.FirstLaws.{has_any}
use Rattle.wording.proofs.has.Goals as goal

pub returns : goal.returns
returns c = c.contains.ensures.value ∙ has_any c.args.b c.args.s.now
