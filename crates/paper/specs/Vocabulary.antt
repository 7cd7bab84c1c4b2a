-- The few words that the other pages are written in. Nothing here is about cabinets.
use Rattle.std.specs.Prelude.{ℕ, zero, suc, ◌+◌, ◌-◌, ◌/◌, max, Bool, true, false, ◌&&◌, ◌||◌, cond, List, [], ◌∷◌, ◌++◌}

-- f 0, f 1, .., f (n - 1), as a list
module _ {A : Type 0} where
  unfoldable pub list_to : ℕ → (ℕ → A) → List A
  list_to zero f = []
  list_to (suc n) f = list_to n f ++ (f n ∷ [])

-- every k below n passes the test
unfoldable pub every : ℕ → (ℕ → Bool) → Bool
every zero test = true
every (suc n) test = every n test && test n

-- some t from 1 to n passes the test
unfoldable pub some : ℕ → (ℕ → Bool) → Bool
some zero test = false
some (suc n) test = some n test || test (suc n)

-- one more than the least k below n that passes the test; 0 where none does
unfoldable pub lowest : ℕ → (ℕ → Bool) → ℕ
lowest zero test = 0
lowest (suc n) test = elim (lowest n test) [ zero ↦ cond (test n) (suc n) 0 | suc k ↦ suc k ]

-- the sum of f k over the k below n
unfoldable pub sum_to : ℕ → (ℕ → ℕ) → ℕ
sum_to zero f = 0
sum_to (suc n) f = sum_to n f + f n

-- the largest f k over the k below n, or 0
unfoldable pub max_to : ℕ → (ℕ → ℕ) → ℕ
max_to zero f = 0
max_to (suc n) f = max (max_to n f) (f n)

-- x / t, rounded up
abbrev pub ceil_div : ℕ → ℕ → ℕ
ceil_div x t = (x + (t - 1)) / t
