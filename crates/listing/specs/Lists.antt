-- What a search from a candidate on leaves in the caller's buffer.
use Rattle.std.specs.Prelude.{ℕ, ◌≡◌, List, take, drop, Ok}
use Rattle.paper.specs.Analysis.{Tasks}
use Rattle.paper.specs.Rows.{row_size}
use Rattle.paper.specs.Refusals.{first_of, first_asks}
use Rattle.paper.specs.declared.Table.{Table}
use Rattle.paper.specs.declared.Step.{Step}
use Rattle.paper.specs.declared.Step.TheVariants.{Row, End}
use Rattle.search.specs.Search.{FirstFrom, NoneFrom}

-- a table and a buffer of this size are not turned away
pub record Accepted (t : Table) (room : ℕ) : Type 0 where
  pub done : first_of (first_asks t room) ≡ Ok tt

-- what the search finds, in the caller's buffer: as `Lists`, from p on
unfoldable pub ListsFrom : Tasks → List ℕ → List ℕ → List ℕ → Step → Type 0
ListsFrom y p out out' Row = FirstFrom y p (take (row_size y.n) out') × (drop (row_size y.n) out' ≡ drop (row_size y.n) out)
ListsFrom y p out out' End = NoneFrom y p × (out' ≡ out)
