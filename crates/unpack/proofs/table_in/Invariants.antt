-- The records before k are there, the others zero still.
use Rattle.std.proofs.Common.{◌≡◌}
use Rattle.paper.specs.File.{records_in}
use Rattle.layout.specs.Editions.{edition_number}
use Rattle.unpack.proofs.table_in.Given as goal

abbrev pub invariant-loop-k : goal.invariant-loop-k
invariant-loop-k l = l.records ≡ records_in l.f (edition_number l.edition) l.k
