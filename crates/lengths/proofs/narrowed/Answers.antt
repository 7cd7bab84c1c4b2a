-- A task that isn't above, or whose tolerance is q or more, leaves q as it is.
use mathlib.Core.Path.{refl}
use mir.Facts.{to_z-of_z}
use Rattle.tolerance.proofs.Machine.{kept}
use Rattle.lengths.proofs.Turns.{narrows, next_fits}
use Rattle.lengths.proofs.narrowed.Goals as goal

pub returns-then-above-tolerance : goal.returns-then-above-tolerance
returns-then-above-tolerance c =
    let below = rw (to_z-of_z c.ranges.tolerance, to_z-of_z c.ranges.q) at c.if-above-tolerance.true in
    rw (to_z-of_z c.ranges.tolerance, narrows c.args.q c.args.tolerance c.args.above, below)
    (kept _ (next_fits c.args.q c.args.tolerance c.args.above _ below c.ranges.tolerance.sfits c.ranges.q.sfits) refl)

pub returns-else-above-tolerance : goal.returns-else-above-tolerance
returns-else-above-tolerance c =
    let below = rw (to_z-of_z c.ranges.tolerance, to_z-of_z c.ranges.q) at c.if-above-tolerance.false in
    rw (to_z-of_z c.ranges.q, narrows c.args.q c.args.tolerance c.args.above, below)
