-- The invariant: the first k are in the array, and the others are 0 still.
use Rattle.std.proofs.Common.{◌≡◌}
use Rattle.paper.specs.Numbers.{rec, per_task}
use Rattle.paper.specs.Points.{longest_region}
use Rattle.points.proofs.all_longest.Given as goal

abbrev pub invariant-loop-k : goal.invariant-loop-k
invariant-loop-k l = l.xs ≡ per_task l.k (λ k. longest_region l.own l.catalogue (rec l.t.records k)) 0
