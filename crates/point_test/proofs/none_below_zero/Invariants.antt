-- The invariant: each record so far would end in time with nothing below it.
use Rattle.std.proofs.Common.{ℕ, ◌≡◌, ◌<◌}
use mathlib.Core.Bool.{false, not}
use Rattle.paper.specs.Points.{has_time}
use Rattle.columns.specs.Columns.{ranked_by}
use Rattle.columns.specs.Tasks.{tasks_in}
use Rattle.point_test.proofs.none_below_zero.Given as goal

abbrev pub invariant-loop-k : goal.invariant-loop-k
invariant-loop-k l = (j : ℕ) → j < l.k → not (has_time (tasks_in l.y) (ranked_by l.p) j 0 0) ≡ false
