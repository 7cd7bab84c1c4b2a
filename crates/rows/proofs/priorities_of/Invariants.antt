-- The invariant: the first k numbers of the column are there, the others are 0 still.
use Prim.Native.Nat.{suc}
use mathlib.Core.Path.{◌≡◌}
use lib.ListN.{take}
use Rattle.paper.specs.Numbers.{per_task}
use Rattle.paper.specs.Rows.{place_of}
use Rattle.rows.proofs.priorities_of.Given as goal

abbrev pub invariant-loop-k : goal.invariant-loop-k
invariant-loop-k l = l.xs ≡ per_task l.k (λ j. place_of (take l.n l.d) (suc j)) 0
