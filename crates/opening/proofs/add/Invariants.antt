use Rattle.table.specs.Table.{trace}
use Rattle.opening.proofs.PassLaws.{Ahead}
use Rattle.opening.proofs.add.Given as goal

abbrev pub invariant-loop-k : goal.invariant-loop-k
invariant-loop-k g l =
    let p = g.P.Pass in Ahead p.knows p.column l.n l.k l.initial.table (p.list l.pass) l.table × p.uses (trace l.initial.table) l.pass
