use Rattle.std.proofs.Common.{sym, ◌∙◌}
use Rattle.columns.specs.Columns.{ranked_by}
use Rattle.jobs.specs.Task.{tasks_at}
use Rattle.jobs.proofs.Cases.{start_range}
use Rattle.jobs.proofs.Spans.{span_no_start, span_no_finish, span_ends}
use Rattle.jobs.proofs.Task.job.Goals as goal

pub returns-in_err-begun : goal.returns-in_err-begun
returns-in_err-begun c = c.from_residual.ensures ∙ span_no_start _ _ _ _ (sym (c.in_err-begun.ensures {u = tt}))

pub finish-requires : goal.finish-requires
finish-requires c =
    let t = c.args.self.now in
    let a = c.args in
    start_range (tasks_at t) (ranked_by t.priorities.now) t.all.now.ranged t.stand t.stand.i a.k _ (sym (c.in_ok-begun.ensures {u = tt}))

pub returns-in_err-end : goal.returns-in_err-end
returns-in_err-end c =
    c.from_residual-in_err-end.ensures
    ∙ span_no_finish _ _ _ _ _ (sym (c.in_ok-begun.ensures {u = tt})) (sym (c.in_err-end.ensures {u = tt}))

pub returns : goal.returns
returns c = span_ends _ _ _ _ _ _ (sym (c.in_ok-begun.ensures {u = tt})) (sym (c.in_ok-end.ensures {u = tt}))
