-- The invariant: the first k numbers of the column are there, the others are 0 still.
use Prim.Native.Nat.{◌+◌}
use mathlib.Core.Path.{◌≡◌}
use lib.ListN.{get_or}
use Rattle.paper.specs.Numbers.{per_task}
use Rattle.rows.proofs.numbers_from.Given as goal

abbrev pub invariant-loop-k : goal.invariant-loop-k
invariant-loop-k l = l.xs ≡ per_task l.k (λ j. get_or l.d (l.from + j) 0) 0
