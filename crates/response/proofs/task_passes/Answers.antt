use Rattle.std.proofs.Common.{ap, ◌∙◌}
use Rattle.std.specs.Option.{is_some}
use Rattle.columns.specs.Columns.{assigned_by}
use Rattle.columns.specs.Tasks.{tasks_in}
use Rattle.response.proofs.Bounds.{task-passes}
use Rattle.response.proofs.task_passes.Goals as goal

pub returns : goal.returns
returns c =
    let a = c.args in
    c.is_some.ensures ∙ ap is_some c.response.ensures ∙ task-passes (tasks_in a.y.now) (assigned_by a.p.now a.h.now) a.i c.deadline.ensures
