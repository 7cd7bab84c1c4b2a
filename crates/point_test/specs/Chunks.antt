-- The regions of tasks, by a column of numbers.
use Rattle.std.specs.Prelude.{ℕ, ◌<◌, ◌≤◌, List, get_or}
use Rattle.paper.specs.Numbers.{most_ticks}
use Rattle.paper.specs.Points.{Chunks}

-- the first n numbers of a column are no longer than a region may be
abbrev pub Short : ℕ → List ℕ → Type 0
Short n xs = (k : ℕ) → k < n → get_or xs k 0 ≤ most_ticks

-- the regions of each task, by a column of the longest
abbrev pub chunks_by : List ℕ → (ℕ → ℕ) → Chunks
chunks_by xs last = record { longest = λ k. get_or xs k 0; last = last }
