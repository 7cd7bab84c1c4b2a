-- The invariant: the first i verdicts are in the array, and the others are not shown still.
use Rattle.std.proofs.Common.{◌≡◌}
use Rattle.paper.specs.Numbers.{rec, per_task}
use Rattle.paper.specs.Points.{last_region, points_pass}
use Rattle.paper.specs.Answers.{verdict_for}
use Rattle.paper.specs.declared.Shown.TheVariants.{NotShown}
use Rattle.columns.specs.Columns.{ranked_by}
use Rattle.columns.specs.Tasks.{tasks_in}
use Rattle.point_test.specs.Chunks.{chunks_by}
use Rattle.points.proofs.all_points.Given as goal

abbrev pub invariant-loop-i : goal.invariant-loop-i
invariant-loop-i l =
    l.tasks
    ≡ per_task l.i (λ k. verdict_for (points_pass (tasks_in l.y) (ranked_by l.p) (chunks_by l.regions (λ k. last_region l.own l.catalogue (rec l.t.records k))) k)) NotShown
