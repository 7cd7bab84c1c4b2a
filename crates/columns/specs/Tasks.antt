-- The tasks that values of the code's types hold.
use Rattle.std.specs.Prelude.{ℕ}
use Rattle.paper.specs.Analysis.{Tasks as Numbered}
use Rattle.columns.specs.Columns.{tasks_by}
use Rattle.columns.specs.declared.Columns.{Columns}
use Rattle.columns.specs.declared.Tasks.{Tasks}

-- n tasks whose numbers stand in columns
abbrev pub tasks_on : ℕ → Columns → Numbered
tasks_on n y = tasks_by n y.costs y.periods y.deadlines y.jitters

abbrev pub tasks_in : Tasks → Numbered
tasks_in y = tasks_on y.n y.columns
