-- The tasks of a caller in another language: their columns one after the other.
use Rattle.std.specs.Prelude.{ℕ, List, [], get_or}
use Rattle.paper.specs.Analysis.{Tasks}
use Rattle.columns.specs.Columns.{tasks_by}

abbrev pub tasks_in_columns : ℕ → List (List ℕ) → Tasks
tasks_in_columns n ys = tasks_by n (get_or ys 0 []) (get_or ys 1 []) (get_or ys 2 []) (get_or ys 3 [])
