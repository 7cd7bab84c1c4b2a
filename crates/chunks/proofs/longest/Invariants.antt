-- The invariant: the largest so far is that of the first i words.
use Rattle.std.proofs.Common.{◌≡◌, ◌+◌}
use lib.ListN.{get_or}
use Rattle.paper.specs.Vocabulary.{max_to}
use Rattle.chunks.proofs.longest.Given as goal

abbrev pub invariant-loop-i : goal.invariant-loop-i
invariant-loop-i l = l.most ≡ max_to l.i (λ i. get_or l.list (l.first + i) 0)
