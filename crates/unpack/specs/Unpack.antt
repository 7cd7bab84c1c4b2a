-- The array that a file's region words come in.
use Rattle.std.specs.Prelude.{ℕ, ◌-◌, List, ◌++◌, replicate}
use Rattle.paper.specs.Numbers.{most_words}
use Rattle.paper.specs.File.{region_words}

-- the region words, then zeros: as many as the most words
unfoldable pub words_array : List ℕ → ℕ → ℕ → ℕ → List ℕ
words_array f e n m = region_words f e n m ++ replicate (most_words - m) 0
