use Rattle.std.proofs.Common.{◌≡◌, sym, ◌∙◌}
use Rattle.columns.specs.Columns.{assigned_by, ranked_by}
use Rattle.jobs.specs.Stands.{stand_of}
use Rattle.jobs.specs.Task.{tasks_at}
use Rattle.jobs.proofs.Cases.{level_range}
use Rattle.jobs.proofs.Spans.{count_bound}
use Rattle.response.proofs.Bounds.{beyond_is, worst_is}
use Rattle.response.proofs.response.Goals.{After-new-task}
use Rattle.response.proofs.response.Goals as goal

-- where the task stands, by what it holds itself
stood : (c : After-new-task) → let t = c.new-task.result in
    t.stand ≡ stand_of (tasks_at t) (assigned_by t.priorities.now c.args.h.now) c.args.i
stood c = let e = c.new-task.ensures in rw (e.all, e.priorities) e.stand

pub returns-in_err-count : goal.returns-in_err-count
returns-in_err-count c =
    let a = c.args in
    let t = c.new-task.result in
    rw (← c.new-task.ensures.all, ← c.new-task.ensures.priorities)
    (c.from_residual.ensures
    ∙ beyond_is (tasks_at t) (assigned_by t.priorities.now a.h.now) a.i (ranked_by t.priorities.now).h _ (stood (goal.at.returns-in_err-count c).After-new-task) a.most (sym (c.in_err-count.ensures {u = tt})))

pub worst-requires : goal.worst-requires
worst-requires c =
    let t = c.new-task.result in
    count_bound _ _ _ _ (t.all.now.ranged.jitters _ t.stands.among) (level_range (tasks_at t) (ranked_by t.priorities.now) t.all.now.ranged t.stand) (sym (c.in_ok-count.ensures {u = tt}))

pub returns : goal.returns
returns c =
    let a = c.args in
    let t = c.new-task.result in
    rw (← c.new-task.ensures.all, ← c.new-task.ensures.priorities)
    (c.worst.ensures ∙ worst_is (tasks_at t) (assigned_by t.priorities.now a.h.now) a.i (ranked_by t.priorities.now).h _ (stood (goal.at.returns c).After-new-task) a.most _ (sym (c.in_ok-count.ensures {u = tt})))
