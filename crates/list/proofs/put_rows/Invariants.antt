-- The measure is what is left of the most rows, so that no list has more than these.
use Rattle.std.proofs.Common.{◌≤◌, ◌-◌}
use Rattle.list.proofs.put_rows.Given as goal

abbrev pub invariant-loop-rows : goal.invariant-loop-rows
invariant-loop-rows g l = l.rows ≤ 1_000_000

abbrev pub decreases-loop-rows : goal.decreases-loop-rows
decreases-loop-rows g l = 1_000_000 - l.rows
