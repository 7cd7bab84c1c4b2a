-- What the code's shape of a file says of its length.
use Rattle.std.specs.Prelude.{ℕ}
use Rattle.paper.specs.File.{file_length}
use Rattle.layout.specs.declared.shape.Shape.{Shape}
use Rattle.layout.specs.Editions.{edition_number}

-- the length in bytes that the edition, n and m give
abbrev pub length_of : Shape → ℕ
length_of s = file_length (edition_number s.edition) s.tasks s.words
