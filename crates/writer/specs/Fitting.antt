-- The shape of the file that is written of a table as edition e, with its own region words, into so much room.
use Rattle.std.specs.Prelude.{ℕ, ◌≡◌, ◌≤◌, List, length}
use Rattle.paper.specs.declared.Table.{Table}
use Rattle.layout.specs.declared.shape.Shape.{Shape}
use Rattle.layout.specs.Editions.{edition_number}
use Rattle.layout.specs.Shapes.{length_of}

pub record IsFitting (e : ℕ) (t : Table) (own : List ℕ) (room : ℕ) (s : Shape) : Type 0 where
  pub edition : edition_number s.edition ≡ e
  pub tasks : s.tasks ≡ t.n
  pub words : s.words ≡ length own
  pub fits : length_of s ≤ room
