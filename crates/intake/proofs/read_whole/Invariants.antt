-- `intake::read_whole` ends and counts the bytes of its buffer, whose length no read changes; the measure is the number of places that are left.
use Rattle.std.proofs.Common.{◌≤◌, ◌-◌, length}
use Rattle.intake.proofs.read_whole.Given as goal

abbrev pub invariant-loop-bytes : goal.invariant-loop-bytes
invariant-loop-bytes g l = l.bytes ≤ length l.buf

abbrev pub decreases-loop-bytes : goal.decreases-loop-bytes
decreases-loop-bytes g l = length l.buf - l.bytes
