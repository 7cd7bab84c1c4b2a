-- The invariant: the responses of the tasks passed stand in front, nothing behind them.
use Rattle.std.proofs.Common.{◌≡◌}
use Rattle.paper.specs.Numbers.{per_task}
use Rattle.paper.specs.Answers.{no_time}
use Rattle.columns.specs.Columns.{assigned_by}
use Rattle.columns.specs.Tasks.{tasks_in}
use Rattle.response.specs.Bounds.{response_of}
use Rattle.response.proofs.all_responses.Given as goal

abbrev pub invariant-loop-i : goal.invariant-loop-i
invariant-loop-i l = l.times ≡ per_task l.i (response_of (tasks_in l.y) (assigned_by l.fn.p l.fn.h)) no_time
