use Rattle.std.proofs.Common.{arith}
use Rattle.columns.specs.Columns.{ranked_by}
use Rattle.columns.specs.Tasks.{tasks_in}
use Rattle.climb.proofs.Works.{part_is, part_of_bound, sum_of_bound}
use Rattle.climb.proofs.work.Goals as goal

pub overflow_add-total : goal.overflow_add-total
overflow_add-total c =
    let a = c.args in
    let y = tasks_in a.y.now in
    let r = ranked_by a.p.now in
    let j = c.loop-j.j in
    omega (
      arith,
      part_is y r a.limit a.x j c.cost-cost.ensures c.period-period.ensures c.jitter-jitter.ensures c.part-total.ensures,
      part_of_bound y r a.limit a.y.now.ranged a.x c.requires j c.loop-j-test.true,
      sum_of_bound y r a.limit a.y.now.ranged a.x c.requires j (omega arith),
    )
