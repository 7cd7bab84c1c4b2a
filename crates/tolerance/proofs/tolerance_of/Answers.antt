use Rattle.tolerance.proofs.Stretches.{last_near, walk_start, walk_more, walk_done}
use Rattle.tolerance.proofs.tolerance_of.Goals as goal

pub loop-here-init : goal.loop-here-init
loop-here-init c =
    let r = c.args.y.now.ranged in
    let near = last_near r c.requires c.deadline-deadline.ensures c.jitter-jitter.ensures c.last_instant-last.ensures in
    walk_start r c.requires near.2 c.stretch-best.ensures

pub loop-here-preserved : goal.loop-here-preserved
loop-here-preserved c =
    let r = c.args.y.now.ranged in
    let near = last_near r c.requires c.deadline-deadline.ensures c.jitter-jitter.ensures c.last_instant-last.ensures in
    rw c.larger-best.ensures (walk_more r c.requires near.2 c.loop-here.invariant c.stretch-s.ensures)

pub returns : goal.returns
returns c =
    let r = c.args.y.now.ranged in
    let near = last_near r c.requires c.deadline-deadline.ensures c.jitter-jitter.ensures c.last_instant-last.ensures in
    walk_done r c.requires near.2 near.0 c.loop-here.invariant c.loop-here-test.false
