use mathlib.Core.Path.{sym}
use Rattle.points.proofs.Tables.{in-range}
use Rattle.points.proofs.point_check.Goals as goal

pub points_in_range-requires : goal.points_in_range-requires
points_in_range-requires c = in-range c.args.t c.args.own.now c.args.catalogue.now (sym (c.in_ok-early_outcome.ensures {u = tt}))
