-- The invariant: after j tasks the pair is a stretch of those j.
use Rattle.columns.specs.Columns.{ranked_by}
use Rattle.columns.specs.Tasks.{tasks_in}
use Rattle.tolerance.specs.Walk.{Stretch}
use Rattle.tolerance.proofs.Stretches.{up_to}
use Rattle.tolerance.proofs.stretch.Given as goal

abbrev pub invariant-loop-j : goal.invariant-loop-j
invariant-loop-j l = Stretch (up_to (tasks_in l.y) l.j) (ranked_by l.p) l.i l.last l.from l.s
