use mathlib.Core.Path.{sym}
use Rattle.lengths.proofs.Outcomes.{in-range}
use Rattle.lengths.proofs.lengths.Goals as goal

pub lengths_in_range-requires : goal.lengths_in_range-requires
lengths_in_range-requires c = in-range c.args.t (sym (c.in_ok-deadlines_outcome.ensures {u = tt}))
