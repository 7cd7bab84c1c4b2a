-- What functions that look into a file, or write one, may count on: that the records lie inside it (e is the edition, size the file's length in bytes).
use Rattle.std.specs.Prelude.{ℕ, ◌+◌, ◌*◌, ◌^◌, ◌≤◌, ◌<◌}
use Rattle.paper.specs.Numbers.{most_tasks}
use Rattle.paper.specs.File.{in_edition, record_at}

-- there is room for the head and n records at least
pub record Holds (size e n : ℕ) : Type 0 where
  pub tasks : n ≤ most_tasks
  pub long : record_at e n ≤ size * 8

-- a record that begins at bit `at` lies inside: its used bits, and what its edition has behind them
pub record Lies (size e at : ℕ) : Type 0 where
  pub near : at < 2 ^ 16
  pub used : at + 90 ≤ size * 8
  pub all : at + 90 + in_edition e 6 30 ≤ size * 8
