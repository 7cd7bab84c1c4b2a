-- `clear` says of the records before k what is asked of all.
use Rattle.std.proofs.Common.{◌≡◌}
use Rattle.std.specs.Prelude.{eqb}
use Rattle.paper.specs.Vocabulary.{every}
use Rattle.paper.specs.File.{record_fields, spare_from}
use Rattle.layout.specs.Editions.{edition_number}
use Rattle.unpack.proofs.records_spare_clear.Given as goal

abbrev pub invariant-loop-k : goal.invariant-loop-k
invariant-loop-k l = l.clear ≡ every l.k (λ j. eqb (spare_from (edition_number l.edition) (record_fields l.f (edition_number l.edition) j)) 0)
