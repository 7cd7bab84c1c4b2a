use Rattle.std.proofs.Common.{zero-le, sym, ◌∙◌, arith}
use Rattle.columns.specs.Columns.{ranked_by}
use Rattle.jobs.specs.Task.{tasks_at}
use Rattle.jobs.proofs.Cases.{start_range, climbs_none, climbs_next}
use Rattle.jobs.proofs.Spans.{ended, beyond}
use Rattle.response.proofs.Bounds.{finish_range, one_late, one_beyond, all_within, worst_none, worst_more, first_none, first_next}
use Rattle.response.proofs.worst.Goals as goal

pub loop-k-init : goal.loop-k-init
loop-k-init c =
    let a = c.args in
    let t = a.task.now in
    record {
      climbs = climbs_none (tasks_at t) (ranked_by t.priorities.now) t.all.now.ranged t.stand t.stand.i;
      worst = worst_none _ _ _;
      first = first_none _ _ _;
      within = zero-le;
    }

pub returns-in_err-ran : goal.returns-in_err-ran
returns-in_err-ran c =
    let a = c.args in
    let t = a.task.now in
    c.from_residual.ensures
    ∙ one_beyond _ _ t.stand.i a.most a.count _ c.loop-k-test.true (beyond _ _ _ _ (sym (c.in_err-ran.ensures {u = tt})))

pub overflow_add-ran : goal.overflow_add-ran
overflow_add-ran c =
    let t = c.args.task.now in
    let i = t.stand.i in
    let e = ended _ _ _ _ _ (sym (c.in_ok-ran.ensures {u = tt})) in
    omega (
      arith,
      c.jitter-jitter.ensures,
      t.all.now.ranged.jitters i t.stands.among,
      (t.all.now.ranged.periods i t.stands.among).1,
      finish_range _ _ i _ _ e.finish,
    )

pub returns-then-most-r : goal.returns-then-most-r
returns-then-most-r c =
    let a = c.args in
    let t = a.task.now in
    let e = ended _ _ _ _ _ (sym (c.in_ok-ran.ensures {u = tt})) in
    one_late _ _ t.stand.i a.most a.count _ _ c.loop-k-test.true e.finish
    c.period-period.ensures c.jitter-jitter.ensures c.saturating_sub-r.ensures c.if-most-r.true

pub overflow_add-from : goal.overflow_add-from
overflow_add-from c =
    let a = c.args in
    let t = a.task.now in
    let e = ended _ _ _ _ _ (sym (c.in_ok-ran.ensures {u = tt})) in
    omega (
      arith,
      c.cost-cost.ensures,
      start_range (tasks_at t) (ranked_by t.priorities.now) t.all.now.ranged t.stand t.stand.i _ _ e.start,
      (t.all.now.ranged.costs t.stand.i t.stands.among).1,
    )

pub loop-k-preserved : goal.loop-k-preserved
loop-k-preserved c =
    let a = c.args in
    let t = a.task.now in
    let v = c.loop-k.invariant in
    let e = ended _ _ _ _ _ (sym (c.in_ok-ran.ensures {u = tt})) in
    record {
      climbs = rw c.cost-cost.ensures (climbs_next (tasks_at t) (ranked_by t.priorities.now) t.all.now.ranged t.stand t.stand.i _ _ e.start);
      worst = worst_more _ _ _ _ _ _ v.worst e.finish c.period-period.ensures c.jitter-jitter.ensures c.saturating_sub-r.ensures c.max-largest.ensures;
      first = first_next _ _ _ _ _ _ _ v.worst v.first e.finish c.period-period.ensures c.jitter-jitter.ensures c.saturating_sub-r.ensures c.first_reaching-first.ensures c.max-largest.ensures;
      within = omega (arith, c.max-largest.ensures, v.within, c.if-most-r.false);
    }

pub returns : goal.returns
returns c =
    let a = c.args in
    let t = a.task.now in
    let v = c.loop-k.invariant in
    all_within _ _ t.stand.i a.most a.count _ _ _ v.worst v.first v.within (omega arith)
