-- The invariant: no record so far falls under 16.
use Rattle.std.proofs.Common.{ℕ, ◌≡◌, ◌<◌}
use mathlib.Core.Bool.{false}
use Rattle.lengths.proofs.none_falls.Given as goal

abbrev pub invariant-loop-k : goal.invariant-loop-k
invariant-loop-k g l = (j : ℕ) → j < l.k → g.p j ≡ false
