use Rattle.columns.specs.Columns.{assigned_by, ranked_by}
use Rattle.columns.specs.Tasks.{tasks_in}
use Rattle.jobs.proofs.Blocks.{stands}
use Rattle.jobs.proofs.Task.new.Goals as goal

pub standing-requires : goal.standing-requires
standing-requires c =
    let a = c.args in
    stands (tasks_in a.y.now) (assigned_by a.p.now a.h.now) a.i (ranked_by a.p.now).h _ c.stand_of.ensures a.y.now.ranged c.requires.placed c.requires.among
