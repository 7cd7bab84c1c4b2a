use mathlib.Core.Path.{sym}
use Rattle.lengths.proofs.Outcomes.{in-range}
use Rattle.lengths.proofs.tolerances.Goals as goal

pub tolerances_in_range-requires : goal.tolerances_in_range-requires
tolerances_in_range-requires c = in-range c.args.t (sym (c.in_ok-deadlines_outcome.ensures {u = tt}))
