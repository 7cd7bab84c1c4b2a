-- The assignment in a row as two columns, which is what the analysis runs on.
use Rattle.std.specs.Prelude.{ℕ, suc, ◌+◌, ◌≡◌, List, get_or, take}
use Rattle.paper.specs.Numbers.{per_task}
use Rattle.paper.specs.Rows.{place_of}

-- the priorities and thresholds of records 1 to n in the row at the front of d
pub record Unpacked (n : ℕ) (d ps hs : List ℕ) : Type 0 where
  pub priorities : ps ≡ per_task n (λ k. place_of (take n d) (suc k)) 0
  pub thresholds : hs ≡ per_task n (λ k. get_or d (n + k) 0) 0
