use mathlib.Core.Path.{◌∙◌}
use native.Mathlib.Omega.{arith}
use Rattle.columns.specs.Columns.{ranked_by}
use Rattle.jobs.specs.Task.{tasks_at}
use Rattle.jobs.proofs.Cases.{level_is, level_rises}
use Rattle.jobs.proofs.Task.level.Goals as goal

pub solve-requires : goal.solve-requires
solve-requires c =
    let t = c.args.self.now in
    level_rises (tasks_at t) (ranked_by t.priorities.now) t.all.now.ranged t.stand _ (omega arith) t.stands

pub returns : goal.returns
returns c =
    let t = c.args.self.now in
    c.solve.ensures ∙ level_is (tasks_at t) (ranked_by t.priorities.now) t.all.now.ranged t.stand
