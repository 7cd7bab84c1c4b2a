-- The invariant: the largest so far is that of the tasks passed.
use Rattle.std.proofs.Common.{◌≡◌}
use Rattle.paper.specs.Vocabulary.{max_to}
use Rattle.columns.specs.Columns.{assigned_by}
use Rattle.columns.specs.Tasks.{tasks_on}
use Rattle.jobs.proofs.Blocks.{block_of}
use Rattle.jobs.proofs.blocking.Given as goal

abbrev pub invariant-loop-j : goal.invariant-loop-j
invariant-loop-j l = l.most ≡ max_to l.j (block_of (tasks_on l.fn.n l.y) (assigned_by l.fn.p l.fn.h) l.own)
