-- The invariant: x is no larger than the answer, and rises to it.
use Rattle.std.proofs.Common.{◌-◌}
use Rattle.paper.specs.Numbers.{horizon}
use Rattle.laws.proofs.Least.{Climb}
use Rattle.columns.specs.Columns.{ranked_by}
use Rattle.columns.specs.Tasks.{tasks_in}
use Rattle.climb.specs.Work.{side}
use Rattle.climb.proofs.solve.Given as goal

abbrev pub invariant-loop-x : goal.invariant-loop-x
invariant-loop-x l = Climb (side (tasks_in l.y) (ranked_by l.fn.p) l.fn.e) l.fn.from l.x

abbrev pub decreases-loop-x : goal.decreases-loop-x
decreases-loop-x l = horizon - l.x
