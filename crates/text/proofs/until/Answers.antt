use Rattle.std.proofs.Common.{◌-◌, ◌+◌, ◌≡◌, ◌∙◌, ap, arith, length, get_or, le_refl, subst, sym, ◌≤◌, drop}
use Rattle.std.proofs.lemmas.List.{get_or-drop, length-drop, take_all}
use Rattle.text.proofs.until.Goals as goal

pub returns-clause-before : goal.returns-clause-before
returns-clause-before c k low high is =
    let same : c.args.from + (k - c.args.from) ≡ k = omega arith in
    let rest = take_all (length c.args.text.now - c.args.from) (drop c.args.from c.args.text.now) (subst (λ n. n ≤ length c.args.text.now - c.args.from) (sym (length-drop c.args.from c.args.text.now)) (le_refl _)) in
    c.first.ensures.before (k - c.args.from) (omega arith) (ap (λ l. get_or l (k - c.args.from) 0) rest ∙ get_or-drop c.args.from c.args.text.now (k - c.args.from) 0 ∙ ap (λ j. get_or c.args.text.now j 0) same ∙ is)
