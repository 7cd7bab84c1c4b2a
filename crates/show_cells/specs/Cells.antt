-- The cells of a sheet's table, out of the calls' answers alone, and which column is left out.
use Rattle.std.specs.Prelude.{ℕ, suc, ◌-◌, Bool, true, false, cond, List, [], ◌∷◌, leb, ltb, eqb, ℤ, pos, negsuc, get_or, map, Option, Some, None, Result, Ok, Err}
use Rattle.paper.specs.Answers.{no_time}
use Rattle.paper.specs.declared.Refusal.{Refusal}
use Rattle.paper.specs.declared.Shown.{Shown}
use Rattle.paper.specs.declared.Shown.TheVariants.{NotShown, Passes}
use Rattle.cells.specs.declared.Cell.{Cell}
use Rattle.show_facts.specs.Facts.{job_of}
use Rattle.show_facts.specs.declared.Facts.{Facts}
use Rattle.first_jobs.specs.Firsts.{first_jitter}
use Rattle.show_cells.specs.declared.Column.{Column}
use Rattle.show_cells.specs.declared.Column.TheVariants.{Cost, Period, Deadline, Jitter, Priority, Threshold, Time, Slack, Tolerance, Length, Fit, Points}

-- A priority or a threshold of 0 is none
abbrev pub place_cell : ℕ → Cell
place_cell x = cond (eqb x 0) Cell.Dash (Cell.Number x)

abbrev pub time_cell : Option ℕ → Cell
time_cell (Some x) = Cell.Number x
time_cell None = Cell.Beyond

-- what is left from the response time to the deadline
abbrev pub slack_cell : Option ℕ → ℕ → Cell
slack_cell (Some x) d = cond (leb x d) (Cell.Number (d - x)) (Cell.Minus (x - d))
slack_cell None d = Cell.Dash

abbrev pub ticks_cell : ℤ → Cell
ticks_cell (pos x) = Cell.Number x
ticks_cell (negsuc x) = Cell.Minus (suc x)

abbrev pub fit_cell : Bool → Cell
fit_cell fits = cond fits Cell.Yes Cell.No

-- by the test of fixed preemption points, which is sufficient only
abbrev pub verdict_cell : Shown → Cell
verdict_cell Passes = Cell.Passes
verdict_cell NotShown = Cell.NotShown

-- a cell of what a call answers; a dash where it is turned away
module _ {A : Type 0} where
  abbrev pub shown : Result A Refusal → (A → Cell) → Cell
  shown (Ok a) cell = cell a
  shown (Err r) cell = Cell.Dash

-- the cell of job k + 1 in a column
abbrev pub cell_of : Facts → ℕ → Column → Cell
cell_of f k Cost = Cell.Number (job_of f k).cost
cell_of f k Period = Cell.Number (job_of f k).period
cell_of f k Deadline = Cell.Number (job_of f k).deadline
cell_of f k Jitter = Cell.Number (job_of f k).jitter
cell_of f k Priority = place_cell (job_of f k).priority
cell_of f k Threshold = place_cell (job_of f k).threshold
cell_of f k Time = shown f.times (λ times. time_cell (get_or times k no_time).time)
cell_of f k Slack = shown f.times (λ times. slack_cell (get_or times k no_time).time (job_of f k).deadline)
cell_of f k Tolerance = shown f.tolerances (λ ticks. ticks_cell (get_or ticks k (pos 0)))
cell_of f k Length = shown f.lengths (λ ticks. ticks_cell (get_or ticks k (pos 0)))
cell_of f k Fit = shown f.fits (λ fits. fit_cell (get_or fits k false))
cell_of f k Points = shown f.points (λ points. verdict_cell (get_or points k NotShown))

-- from left to right
abbrev pub columns : List Column
columns = Cost ∷ Period ∷ Deadline ∷ Jitter ∷ Priority ∷ Threshold ∷ Time ∷ Slack ∷ Tolerance ∷ Length ∷ Fit ∷ Points ∷ []

-- the place of a column among these
abbrev pub place_of : Column → ℕ
place_of Cost = 0
place_of Period = 1
place_of Deadline = 2
place_of Jitter = 3
place_of Priority = 4
place_of Threshold = 5
place_of Time = 6
place_of Slack = 7
place_of Tolerance = 8
place_of Length = 9
place_of Fit = 10
place_of Points = 11

-- the cells of job k + 1
abbrev pub cells_of : Facts → ℕ → List Cell
cells_of f k = map (cell_of f k) columns

-- the jitters' column is left out where no job has one
abbrev pub column_stands : Facts → Column → Bool
column_stands f Jitter = ltb 0 (first_jitter f)
column_stands f _ = true

-- the same by places: past the last column there is none to leave out
abbrev pub stands_at : Facts → ℕ → Bool
stands_at f place = get_or (map (column_stands f) columns) place true
