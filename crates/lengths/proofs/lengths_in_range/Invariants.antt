use Rattle.columns.specs.Tasks.{tasks_in}
use Rattle.lengths.specs.Stages.{falls}
use Rattle.lengths.proofs.lengths_in_range.Given as goal

-- that, or the tolerance is below zero
abbrev pub ghost-none_falls : goal.ghost-none_falls
ghost-none_falls a = falls (tasks_in a.falls.0.now) a.falls.1.now
