-- The first k records are put.
use Rattle.std.proofs.Common.{◌≡◌}
use Rattle.paper.specs.File.{put_records}
use Rattle.layout.specs.Editions.{edition_number}
use Rattle.pack.proofs.put_records.Given as goal

abbrev pub invariant-loop-k : goal.invariant-loop-k
invariant-loop-k l = l.s ≡ put_records l.initial.s (edition_number l.edition) l.t.records l.k
