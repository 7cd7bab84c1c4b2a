-- The invariant: the best so far is the largest difference from 1 to `here`.
use Rattle.std.proofs.Common.{◌-◌}
use Rattle.columns.specs.Columns.{ranked_by}
use Rattle.columns.specs.Tasks.{tasks_in}
use Rattle.tolerance.specs.Walk.{Walked}
use Rattle.tolerance.proofs.tolerance_of.Given as goal

abbrev pub invariant-loop-here : goal.invariant-loop-here
invariant-loop-here l = Walked (tasks_in l.y) (ranked_by l.p) l.i l.last l.here l.best

abbrev pub decreases-loop-here : goal.decreases-loop-here
decreases-loop-here l = l.last - l.here
