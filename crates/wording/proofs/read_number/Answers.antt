use Rattle.std.proofs.Common.{rules}
use Rattle.wording.proofs.NumberLaws.{number_empty, number_leading, number_digits}
use Rattle.wording.proofs.read_number.Goals.{then-is_empty-via-then-is_empty, then-is_empty-via-else-is_empty+then-leads_zero}
use Rattle.wording.proofs.read_number.Goals as goal

pub returns-then-is_empty : goal.returns-then-is_empty
returns-then-is_empty c =
    elim c.then-is_empty.branch [
      | then-is_empty-via-then-is_empty w ↦ search (number_empty, rules)
      | then-is_empty-via-else-is_empty+then-leads_zero w ↦ search (number_leading, rules)
    ]

pub returns : goal.returns
returns c = search (number_digits, rules)
