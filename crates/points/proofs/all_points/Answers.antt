use mathlib.Core.Path.{ap, ◌∙◌}
use native.Mathlib.Omega.{arith}
use Rattle.paper.specs.Answers.{verdict_for}
use Rattle.laws.proofs.Lists.{per_task_turn}
use Rattle.columns.specs.Columns.{ranked_by}
use Rattle.columns.specs.Tasks.{tasks_in}
use Rattle.point_test.proofs.Passes.{passes_last}
use Rattle.points.proofs.all_points.Goals as goal

pub loop-i-preserved : goal.loop-i-preserved
loop-i-preserved c =
    let l = c.loop-i in
    let a = c.args in
    per_task_turn l.i _ _ (omega arith) l.invariant
    (c.verdict.ensures ∙ ap verdict_for (c.task_passes.ensures ∙ passes_last (tasks_in a.y.now) (ranked_by a.p.now) a.regions.now _ l.i c.last_region-q.ensures))
