-- The first i pairs are put.
use Rattle.std.proofs.Common.{◌≡◌, ◌*◌}
use Rattle.paper.specs.File.{put_words}
use Rattle.layout.specs.Editions.{edition_number}
use Rattle.pack.proofs.put_pairs.Given as goal

abbrev pub invariant-loop-i : goal.invariant-loop-i
invariant-loop-i l = l.s ≡ put_words l.initial.s (edition_number l.fn.shape.edition) l.fn.shape.tasks l.ws (2 * l.i)
