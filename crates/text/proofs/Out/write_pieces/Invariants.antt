-- Nothing is lost.
use Rattle.std.proofs.Common.{◌<◌}
use Rattle.text.specs.declared.TheConstants.{SIZE}
use Rattle.text.proofs.Out.write_pieces.Given as goal

abbrev pub invariant-loop-piece : goal.invariant-loop-piece
invariant-loop-piece g l = l.self.at < SIZE
