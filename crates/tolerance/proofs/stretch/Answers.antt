use mathlib.Core.Path.{◌∙◌}
use native.Mathlib.Omega.{arith}
use borrow.Author.Tests.{lt-ltb, le-ltb}
use Rattle.tolerance.proofs.Stretches.{stretch_none, stretch_more, stretch_same}
use Rattle.tolerance.proofs.stretch.Goals as goal
use Rattle.tolerance.proofs.stretch.Goals.{then-above, else-above}

pub new-s-requires : goal.new-s-requires
new-s-requires c = (omega arith, omega (arith, c.cost.ensures, c.args.y.now.ranged.costs c.args.i c.requires.i_lt_n))

pub loop-j-init : goal.loop-j-init
loop-j-init c =
    stretch_none c.args.y.now.ranged c.requires.i_lt_n c.requires.from_lt_last.1 c.new-s.ensures.at (c.new-s.ensures.need ∙ c.cost.ensures) c.requires.from_lt_last.0

pub with_task-s-requires : goal.with_task-s-requires
with_task-s-requires c =
    let r = c.args.y.now.ranged in
    let j = c.loop-j.j in
    let l = c.loop-j-test.true in (
      omega (arith, c.cost-then-above.ensures, (r.costs j l).1),
      omega (arith, c.jitter.ensures, c.period.ensures, r.jitters j l),
      omega (arith, c.period.ensures, (r.periods j l).1),
      omega arith,
      omega (arith, c.loop-j.invariant.small, r.few),
    )

pub loop-j-preserved : goal.loop-j-preserved
loop-j-preserved c =
    let r = c.args.y.now.ranged in
    let i = c.requires.i_lt_n in
    let near = c.requires.from_lt_last in
    let l = c.loop-j.invariant in
    elim c.if-above.branch [
      | then-above w ↦ rw w.s-is
          (stretch_more r i near.1 near.0 c.loop-j-test.true l (lt-ltb _ _ w.if-above.true) w.cost-then-above.ensures w.period.ensures w.jitter.ensures
          w.with_task-s.ensures.at w.with_task-s.ensures.need)
      | else-above w ↦ rw w.s-is (stretch_same r i near.1 l (le-ltb _ _ w.if-above.false))
    ]
