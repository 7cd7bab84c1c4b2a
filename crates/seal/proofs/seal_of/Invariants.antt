-- The bytes that are left, moved through from c, give the answer.
use Rattle.std.proofs.Common.{◌≡◌, drop}
use Rattle.paper.specs.Seal.{seal_from, seal_of}
use Rattle.seal.proofs.seal_of.Given as goal

abbrev pub invariant-loop-b : goal.invariant-loop-b
invariant-loop-b l = seal_from l.c (drop l.b-index l.s) ≡ seal_of l.s
