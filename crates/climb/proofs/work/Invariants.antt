-- The invariant: the total is the sum over the tasks passed.
use Rattle.std.proofs.Common.{◌≡◌}
use Rattle.paper.specs.Vocabulary.{sum_to}
use Rattle.columns.specs.Columns.{ranked_by}
use Rattle.columns.specs.Tasks.{tasks_in}
use Rattle.climb.proofs.Works.{part_of}
use Rattle.climb.proofs.work.Given as goal

abbrev pub invariant-loop-j : goal.invariant-loop-j
invariant-loop-j l = l.total ≡ sum_to l.j (part_of (tasks_in l.y) (ranked_by l.fn.p) l.fn.limit l.fn.x)
