use Rattle.std.proofs.Common.{◌∙◌, arith}
use Rattle.laws.proofs.Lists.{per_task_none, per_task_turn}
use Rattle.response.proofs.Bounds.{latest_bounds}
use Rattle.response.proofs.all_responses.Goals as goal

pub loop-i-init : goal.loop-i-init
loop-i-init c = per_task_none _ _

pub loop-i-preserved : goal.loop-i-preserved
loop-i-preserved c =
    let i = c.loop-i.i in
    let r = c.args.y.now.ranged in
    per_task_turn i _ _ (omega arith) c.loop-i.invariant
    (c.unwrap_or.ensures ∙ latest_bounds _ _ _ (omega (arith, r.jitters i c.loop-i-test.true, (r.periods i c.loop-i-test.true).1)) c.response.ensures)
