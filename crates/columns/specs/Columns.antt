-- A table unpacked into columns of numbers, which is what the analysis runs on.
use Rattle.std.specs.Prelude.{ℕ, ◌<◌, ◌≤◌, List, [], get_or}
use Rattle.paper.specs.Vocabulary.{list_to}
use Rattle.paper.specs.Numbers.{most_tasks, most_ticks, rec, Assignment}
use Rattle.paper.specs.Analysis.{Tasks}
use Rattle.paper.specs.declared.Record.{Record}
use Rattle.columns.specs.declared.Column.{Column}
use Rattle.columns.specs.declared.Column.TheVariants.{Cost, Period, Deadline, Priority, Threshold, Jitter}

-- the number of a record that stands in a column
abbrev pub value_in : Column → Record → ℕ
value_in Cost r = r.cost
value_in Period r = r.period
value_in Deadline r = r.deadline
value_in Priority r = r.priority
value_in Threshold r = r.threshold
value_in Jitter r = r.jitter

-- a column: that number of every record
abbrev pub column_of : List Record → Column → List ℕ
column_of rs which = list_to most_tasks (λ j. value_in which (rec rs j))

-- the tasks whose numbers stand in columns; 0 where there is no such task, as a record that isn't there has it
abbrev pub tasks_by : ℕ → List ℕ → List ℕ → List ℕ → List ℕ → Tasks
tasks_by n cs ts ds js = record { n = n; c = λ k. get_or cs k 0; t = λ k. get_or ts k 0; d = λ k. get_or ds k 0; j = λ k. get_or js k 0 }

-- an assignment whose priorities and thresholds stand in columns
abbrev pub assigned_by : List ℕ → List ℕ → Assignment
assigned_by ps hs = record { p = λ j. get_or ps j 0; h = λ j. get_or hs j 0 }

-- by its priorities alone, where thresholds play no part
abbrev pub ranked_by : List ℕ → Assignment
ranked_by ps = assigned_by ps []

-- tasks on which the analysis may run: as few as a table holds, and each number in range
pub record Ranged (y : Tasks) : Type 0 where
  pub few : y.n ≤ most_tasks
  pub costs : (k : ℕ) → k < y.n → (1 ≤ y.c k) × (y.c k ≤ most_ticks)
  pub periods : (k : ℕ) → k < y.n → (1 ≤ y.t k) × (y.t k ≤ most_ticks)
  pub deadlines : (k : ℕ) → k < y.n → (1 ≤ y.d k) × (y.d k ≤ most_ticks)
  pub jitters : (k : ℕ) → k < y.n → y.j k < y.t k

-- an assignment on which it may run: priorities and thresholds from 1 to the most tasks
pub record Placed (n : ℕ) (a : Assignment) : Type 0 where
  pub priorities : (k : ℕ) → k < n → (1 ≤ a.p k) × (a.p k ≤ most_tasks)
  pub thresholds : (k : ℕ) → k < n → (1 ≤ a.h k) × (a.h k ≤ most_tasks)
