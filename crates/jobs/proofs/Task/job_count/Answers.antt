use Rattle.std.proofs.Common.{sym, ◌∙◌, arith}
use Rattle.columns.specs.Columns.{ranked_by}
use Rattle.jobs.specs.Task.{tasks_at}
use Rattle.jobs.proofs.Cases.{level_range}
use Rattle.jobs.proofs.Spans.{count_at, count_beyond}
use Rattle.jobs.proofs.Task.job_count.Goals as goal

pub returns-in_err-l : goal.returns-in_err-l
returns-in_err-l c = c.from_residual.ensures ∙ count_beyond _ _ _ (sym (c.in_err-l.ensures {u = tt}))

pub arrived-many-requires : goal.arrived-many-requires
arrived-many-requires c =
    let t = c.args.self.now in
    let r = t.all.now.ranged in
    let among = t.stands.among in
    let v = level_range (tasks_at t) (ranked_by t.priorities.now) r t.stand _ (sym (c.in_ok-l.ensures {u = tt})) in
    (omega arith, rw c.period-period.ensures (r.periods t.stand.i among).1, omega (arith, c.period-period.ensures, c.jitter-jitter.ensures, r.jitters t.stand.i among))

pub returns : goal.returns
returns c = count_at _ _ _ _ _ _ _ (sym (c.in_ok-l.ensures {u = tt})) c.period-period.ensures c.jitter-jitter.ensures c.arrived-many.ensures
