-- A task among the others, as a value of the code's type holds it.
use Rattle.paper.specs.Analysis.{Tasks, Standing}
use Rattle.columns.specs.Columns.{ranked_by}
use Rattle.columns.specs.Tasks.{tasks_in}
use Rattle.jobs.specs.Stands.{stand_by}
use Rattle.jobs.specs.declared.Task.{Task}

abbrev pub tasks_at : Task → Tasks
tasks_at t = tasks_in t.all.now

abbrev pub standing_at : Task → Standing
standing_at t = stand_by (ranked_by t.priorities.now) t.stand
