-- The invariant: the count (the second field) stays as it was set.
use Rattle.std.proofs.Common.{◌≡◌}
use Rattle.request.proofs.Body.words.Given as goal

abbrev pub invariant-loop-k : goal.invariant-loop-k
invariant-loop-k l = l.words.1.0 ≡ l.kept
