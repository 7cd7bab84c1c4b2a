-- The invariant: the largest so far is that of the tasks passed.
use Rattle.std.proofs.Common.{◌≡◌}
use mathlib.Core.Bool.{cond}
use lib.Dec.{ltb}
use lib.ListN.{get_or}
use Rattle.paper.specs.Vocabulary.{max_to}
use Rattle.point_test.proofs.alpha.Given as goal

abbrev pub invariant-loop-k : goal.invariant-loop-k
invariant-loop-k l = l.most ≡ max_to l.k (λ k. cond (ltb l.own (get_or l.p k 0)) (get_or l.regions k 0) 0)
