use mathlib.Core.Path.{sym}
use Rattle.lengths.proofs.Outcomes.{early_done}
use Rattle.lengths.proofs.region_check.Goals as goal

pub fit_in_range-requires : goal.fit_in_range-requires
fit_in_range-requires c = early_done c.args.t c.args.own.now c.args.catalogue.now (sym (c.in_ok-early_outcome.ensures {u = tt}))
