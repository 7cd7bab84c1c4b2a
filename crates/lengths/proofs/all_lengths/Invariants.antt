-- The invariant: the first k lengths are in the array, and the others are 0 still.
use Rattle.std.proofs.Common.{◌≡◌}
use lib.IntN.{pos}
use Rattle.paper.specs.Numbers.{per_task}
use Rattle.paper.specs.Lengths.{length_of}
use Rattle.columns.specs.Columns.{ranked_by}
use Rattle.columns.specs.Tasks.{tasks_in}
use Rattle.lengths.proofs.all_lengths.Given as goal

abbrev pub invariant-loop-k : goal.invariant-loop-k
invariant-loop-k l = l.lengths ≡ per_task l.k (length_of (tasks_in l.y) (ranked_by l.p)) (pos 0)
