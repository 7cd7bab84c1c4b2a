-- What the last region handed back is: one word, and where it lies in the caller's own memory. A bare one is on a refusal no word, at the start of the own words; the outcome says which.
use Rattle.std.specs.Prelude.{ℕ, ◌≡◌, List}
use Rattle.std.specs.Borrow.{Bor}
use Rattle.paper.specs.Answers.{regions_source, last_place, last_words}
use Rattle.paper.specs.declared.Table.{Table}
use Rattle.parts.specs.Parts.{LiesIn, slice_of}

-- in the own words or in the catalogue, whichever the record names
pub record IsLast (t : Table) (own catalogue : Bor (List ℕ)) (number : ℕ) (r : Bor (List ℕ)) : Type 0 where
  pub word : r.now ≡ last_words t own.now catalogue.now number
  pub place : LiesIn (slice_of (regions_source t own.now catalogue.now number) own catalogue) 4 (last_place t own.now catalogue.now number) r
