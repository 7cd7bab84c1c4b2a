-- The asks of the first stage of reading, taken off the paper's list, and what is known of a file that passes them.
use Rattle.std.specs.Prelude.{ℕ, ◌≡◌, List, [], length, take}
use Rattle.paper.specs.File.{edition_in, tasks_in, words_in}
use Rattle.paper.specs.Refusals.{Asks, file_asks}
use Rattle.layout.specs.declared.shape.Shape.{Shape}
use Rattle.layout.specs.Editions.{edition_number}
use Rattle.layout.specs.Shapes.{length_of}

-- asks 1, 2, 18, 3 to 6, in which no catalogue plays a part
abbrev pub head_asks : List ℕ → ℕ → ℕ → Asks
head_asks f cabinet line = take 7 (file_asks f cabinet line [])

-- s is what the head of f says, and f has the length that follows from it
pub record IsShape (f : List ℕ) (s : Shape) : Type 0 where
  pub edition : edition_number s.edition ≡ edition_in f
  pub tasks : s.tasks ≡ tasks_in f
  pub words : s.words ≡ words_in f
  pub size : length f ≡ length_of s
