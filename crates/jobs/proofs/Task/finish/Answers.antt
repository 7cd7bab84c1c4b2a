use mathlib.Core.Path.{◌∙◌}
use Rattle.columns.specs.Columns.{ranked_by}
use Rattle.jobs.specs.Task.{tasks_at}
use Rattle.jobs.proofs.Cases.{finish_is, finish_rises}
use Rattle.jobs.proofs.Task.finish.Goals as goal

pub solve-requires : goal.solve-requires
solve-requires c =
    let t = c.args.self.now in
    let a = c.args in
    finish_rises (tasks_at t) (ranked_by t.priorities.now) t.all.now.ranged t.stand t.stand.i a.begun _ _ c.work-off.ensures c.cost-own.ensures t.stands.among c.requires

pub returns : goal.returns
returns c =
    let t = c.args.self.now in
    let a = c.args in
    c.solve.ensures ∙ finish_is (tasks_at t) (ranked_by t.priorities.now) t.all.now.ranged t.stand t.stand.i a.begun _ _ c.work-off.ensures c.cost-own.ensures
