use Rattle.paper.specs.Lengths.{no_instant}
use Rattle.columns.specs.Tasks.{tasks_in}
use Rattle.lengths.proofs.tolerances_in_range.Given as goal

-- there is no t
abbrev pub ghost-none_falls : goal.ghost-none_falls
ghost-none_falls a = no_instant (tasks_in a.falls.0.now)
