-- Lists of numbers in the order of rows, for a search that goes by their beginnings.
use Rattle.std.specs.Prelude.{ℕ, ◌<◌, ◌≤◌, ◌≡◌, List, [], ◌∷◌, ◌⊎◌}

-- r begins with p, or is later than p
unfoldable pub From : List ℕ → List ℕ → Type 0
From [] r = Unit {0}
From (a ∷ p) [] = ⊥
From (a ∷ p) (b ∷ r) = (a < b) ⊎ ((a ≡ b) × From p r)

-- each number lies from 1 to n
unfoldable pub Within : ℕ → List ℕ → Type 0
Within n [] = Unit {0}
Within n (a ∷ r) = ((1 ≤ a) × (a ≤ n)) × Within n r
