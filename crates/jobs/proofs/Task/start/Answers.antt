use mathlib.Core.Path.{◌∙◌}
use Rattle.columns.specs.Columns.{ranked_by}
use Rattle.jobs.specs.Task.{tasks_at}
use Rattle.jobs.proofs.Cases.{start_is, start_rises}
use Rattle.jobs.proofs.Task.start.Goals as goal

pub solve-requires : goal.solve-requires
solve-requires c =
    let t = c.args.self.now in
    let a = c.args in
    let q = t.stands in
    start_rises (tasks_at t) (ranked_by t.priorities.now) t.all.now.ranged t.stand t.stand.i a.k a.from _ c.cost-own.ensures c.requires.climbs q.among q.blocked c.requires.near

pub returns : goal.returns
returns c =
    let t = c.args.self.now in
    let a = c.args in
    c.solve.ensures ∙ start_is (tasks_at t) (ranked_by t.priorities.now) t.all.now.ranged t.stand t.stand.i a.k a.from _ c.cost-own.ensures c.requires.climbs
