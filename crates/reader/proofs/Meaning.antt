-- What passing asks 1, 2, 18, 3 to 11 means, as a record handed back wants it. What reading means is in paper (Reading).
use Rattle.std.specs.Prelude.{Ok}
use mathlib.Core.Path.{◌≡◌, ◌∙◌}
use mathlib.Core.List.{List, [], ◌∷◌}
use Prim.Native.Nat.{ℕ}
use native.Mathlib.Omega.{arith}
use borrow.Author.Tests.{le-ltb}
use Rattle.paper.specs.File.{words_in}
use Rattle.paper.specs.Refusals.{first_of, no_room, file_asks}
use Rattle.paper.proofs.Loading.{Loaded, read_says}
use Rattle.checks.proofs.Asks.{first_passed}

module _ (f : List ℕ) (cabinet line : ℕ) (catalogue : List ℕ) where
  -- All is known of the file that is known of one that was read, with room for its own words.
  pub file_says : first_of (file_asks f cabinet line catalogue) ≡ Ok tt → Loaded f cabinet line catalogue (words_in f)
  file_says e =
      read_says f cabinet line catalogue (words_in f)
      (first_passed (file_asks f cabinet line catalogue) (no_room (words_in f) (words_in f) ∷ []) e
      ∙ rw (le-ltb (words_in f) (words_in f) (omega arith)))
