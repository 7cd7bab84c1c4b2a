-- The invariant: the first i tolerances are in the array, and the others are 0 still.
use Rattle.std.proofs.Common.{◌≡◌}
use lib.IntN.{pos}
use Rattle.paper.specs.Numbers.{per_task}
use Rattle.paper.specs.Lengths.{tolerance}
use Rattle.columns.specs.Columns.{ranked_by}
use Rattle.columns.specs.Tasks.{tasks_in}
use Rattle.tolerance.proofs.all_tolerances.Given as goal

abbrev pub invariant-loop-i : goal.invariant-loop-i
invariant-loop-i l = l.ticks ≡ per_task l.i (tolerance (tasks_in l.y) (ranked_by l.p)) (pos 0)
