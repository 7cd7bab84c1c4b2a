-- The words before k are there, the others zero still.
use Rattle.std.proofs.Common.{◌≡◌}
use Rattle.layout.specs.Editions.{edition_number}
use Rattle.unpack.specs.Unpack.{words_array}
use Rattle.unpack.proofs.words_in.Given as goal

abbrev pub invariant-loop-k : goal.invariant-loop-k
invariant-loop-k l = l.words ≡ words_array l.f (edition_number l.shape.edition) l.shape.tasks l.k
