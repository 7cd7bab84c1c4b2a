use Prim.Native.Nat.{◌+◌, ◌-◌}
use mathlib.Core.Path.{sym}
use native.Mathlib.Omega.{arith}
use Rattle.paper.specs.Numbers.{horizon}
use Rattle.laws.proofs.Least.{climb_again, climb_found, climb_beyond, least_none}
use Rattle.columns.specs.Columns.{ranked_by}
use Rattle.columns.specs.Tasks.{tasks_in}
use Rattle.climb.specs.Work.{solution}
use Rattle.climb.proofs.Works.{side_le, rises_on}
use Rattle.climb.proofs.solve.Goals as goal

pub returns-then-from-gt-HORIZON : goal.returns-then-from-gt-HORIZON
unfolding solution
returns-then-from-gt-HORIZON c = sym (least_none _ c.args.from (horizon + 1 - c.args.from) (omega arith))

pub side-next-requires : goal.side-next-requires
side-next-requires c =
    let a = c.args in
    let i = c.loop-x.invariant in
    record { near = i.high; rises = rises_on (tasks_in a.y.now) (ranked_by a.p.now) a.e a.from _ i.low i.rises c.requires }

pub returns-then-next-x : goal.returns-then-next-x
unfolding solution
returns-then-next-x c = climb_found _ _ _ _ c.loop-x.invariant c.side-next.ensures _ (omega (arith, c.if-from-gt-HORIZON.false)) c.if-next-x.true

pub returns-then-next-gt-HORIZON : goal.returns-then-next-gt-HORIZON
unfolding solution
returns-then-next-gt-HORIZON c =
    let a = c.args in
    climb_beyond _ _ _ _ c.loop-x.invariant c.side-next.ensures _ (omega (arith, c.if-from-gt-HORIZON.false)) (side_le (tasks_in a.y.now) (ranked_by a.p.now) a.e) c.if-next-gt-HORIZON.true

pub loop-x-preserved : goal.loop-x-preserved
loop-x-preserved c =
    let a = c.args in
    climb_again _ _ _ _ c.loop-x.invariant c.side-next.ensures (side_le (tasks_in a.y.now) (ranked_by a.p.now) a.e) c.if-next-gt-HORIZON.false
