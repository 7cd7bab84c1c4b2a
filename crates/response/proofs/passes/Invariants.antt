-- The invariant: every task passed is within its deadline.
use Rattle.std.proofs.Common.{ℕ, ◌≡◌, ◌<◌, true}
use Rattle.paper.specs.Analysis.{task_passes}
use Rattle.columns.specs.Columns.{assigned_by}
use Rattle.columns.specs.Tasks.{tasks_in}
use Rattle.response.proofs.passes.Given as goal

abbrev pub invariant-loop-i : goal.invariant-loop-i
invariant-loop-i l = (j : ℕ) → j < l.i → task_passes (tasks_in l.y) (assigned_by l.fn.p l.fn.h) j ≡ true
