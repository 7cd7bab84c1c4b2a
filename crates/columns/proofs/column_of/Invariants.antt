-- The first k numbers of the column are there, the others are 0 still.
use Rattle.std.proofs.Common.{◌≡◌}
use Rattle.paper.specs.Numbers.{rec, per_task}
use Rattle.columns.specs.Columns.{value_in}
use Rattle.columns.proofs.column_of.Given as goal

abbrev pub invariant-loop-k : goal.invariant-loop-k
invariant-loop-k l = l.xs ≡ per_task l.k (λ j. value_in l.fn.which (rec l.fn.rs j)) 0
