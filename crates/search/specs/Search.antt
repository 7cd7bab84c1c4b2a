-- What the search by digits answers. Its digits are the numbers of a row, at the front of an array that has room for the longest row.
use Rattle.std.specs.Prelude.{ℕ, ◌+◌, ◌<◌, ◌≤◌, ◌≡◌, Bool, true, false, Option, Some, None, List, length, take, get_or}
use Rattle.paper.specs.Numbers.{most_tasks}
use Rattle.paper.specs.Analysis.{Tasks}
use Rattle.paper.specs.Rows.{row_size, Later, Passing}
use Rattle.laws.specs.Order.{From, Within}

-- what the test of a full row says: true, and the row in the digits passes, or false, and it does not
unfoldable pub Tests : Tasks → Bool → List ℕ → Type 0
Tests y true d = Passing y (take (row_size y.n) d)
Tests y false d = Passing y (take (row_size y.n) d) → ⊥

-- the digits up to place pos are a candidate: each from 1 to n, the last perhaps n + 1
pub record Begun (n : ℕ) (d : List ℕ) (pos : ℕ) : Type 0 where
  pub few : n ≤ most_tasks
  pub inside : pos < row_size n
  pub size : length d ≡ row_size most_tasks
  pub head : Within n (take pos d)
  pub low : 1 ≤ get_or d pos 0
  pub high : get_or d pos 0 ≤ n + 1

-- no passing row begins with the first k digits
unfoldable pub Barren : Tasks → List ℕ → ℕ → Type 0
Barren y d k = (r : List ℕ) → Passing y r → take k r ≡ take k d → ⊥

-- the first passing row that begins with p or is later
pub record FirstFrom (y : Tasks) (p row : List ℕ) : Type 0 where
  pub passing : Passing y row
  pub onward : From p row
  pub first : (r : List ℕ) → Passing y r → From p r → Later r row → ⊥

-- no passing row begins with p or is later
unfoldable pub NoneFrom : Tasks → List ℕ → Type 0
NoneFrom y p = (r : List ℕ) → Passing y r → From p r → ⊥

-- what a search from p on finds: the row in the digits, or none
unfoldable pub Finds : Tasks → List ℕ → Option (List ℕ) → Type 0
Finds y p (Some d) = FirstFrom y p (take (row_size y.n) d)
Finds y p None = NoneFrom y p
