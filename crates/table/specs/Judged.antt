-- The table of a judged recording.
use Rattle.model.specs.Trace.{Trace}
use Rattle.table.specs.Table.{trace}
use Rattle.table.specs.declared.judged.Table.{Table}

-- its trace
abbrev pub events : Table → Trace
events t = trace t.words.now
