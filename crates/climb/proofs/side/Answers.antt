use Prim.Native.Nat.{◌+◌, ◌-◌}
use mathlib.Core.Path.{ap}
use native.Mathlib.Omega.{arith}
use Rattle.columns.specs.Columns.{ranked_by}
use Rattle.columns.specs.Tasks.{tasks_in}
use Rattle.climb.specs.Work.{side}
use Rattle.climb.proofs.Works.{work_bound}
use Rattle.climb.proofs.side.Goals as goal

pub overflow_add-result : goal.overflow_add-result
overflow_add-result c =
    let a = c.args in
    omega (
      arith,
      c.work.ensures,
      work_bound (tasks_in a.y.now) (ranked_by a.p.now) a.e.limit a.y.now.ranged (a.x + a.e.edge) (omega (arith, c.requires.near, c.requires.rises.edge)),
      c.requires.rises.base,
    )

pub returns : goal.returns
unfolding side
returns c =
    let e = c.args.e in
    ap (λ w. e.base + w - e.off) c.work.ensures
