-- A row place by place, which is how the search goes.
use Rattle.std.specs.Prelude.{ℕ, ◌+◌, ◌-◌, Bool, not, cond, List, leb, ltb, eqb, get_or, take}
use Rattle.paper.specs.Vocabulary.{every}
use Rattle.paper.specs.Rows.{place_of}

-- the number at place k is none of those before it
unfoldable pub fresh_at : List ℕ → ℕ → Bool
fresh_at d k = every k (λ i. not (eqb (get_or d i 0) (get_or d k 0)))

-- the number at place k may stand there after those before it: a record number that is new, or a threshold up to the priority of its task
unfoldable pub fits_at : ℕ → List ℕ → ℕ → Bool
fits_at n d k = cond (ltb k n) (fresh_at d k) (leb (get_or d k 0) (place_of (take n d) (k - n + 1)))
