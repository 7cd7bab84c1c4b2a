-- Document 02, item 2: fixed preemption points, after source document 000, Theorem 3 with its definition 18; with release jitter (item 8).
-- For D ≤ T and no tolerance below zero: the call turns other tables away, with 15 and 16, as the region check does. No threshold stands in the test.
-- The test is sufficient only: of a task that doesn't pass nothing is shown, and it may be in time all the same.
use Rattle.std.specs.Prelude.{ℕ, ◌+◌, ◌-◌, Bool, ◌||◌, cond, List, leb, ltb, eqb, get_or}
use Rattle.paper.specs.Vocabulary.{max_to, some}
use Rattle.paper.specs.Numbers.{rec, Assignment}
use Rattle.paper.specs.Regions.{list_of, last_part}
use Rattle.paper.specs.Analysis.{Tasks, before, load}
use Rattle.paper.specs.declared.Record.{Record}

-- the longest of a task's regions, and the last
abbrev pub longest_region : List ℕ → List ℕ → Record → ℕ
longest_region own catalogue r = max_to r.count (λ i. get_or (list_of r.source own catalogue) (r.first + i) 0)

abbrev pub last_region : List ℕ → List ℕ → Record → ℕ
last_region own catalogue r = get_or (list_of r.source own catalogue) (last_part r).from 0

-- what the test looks at of the regions of each task
pub record Chunks : Type 0 where
  pub longest : ℕ → ℕ
  pub last : ℕ → ℕ

abbrev pub chunks_of : List Record → List ℕ → List ℕ → Chunks
chunks_of rs own catalogue =
    record { longest = λ k. longest_region own catalogue (rec rs k); last = λ k. last_region own catalogue (rec rs k) }

-- alpha(i) is the longest region of any lower task, or 0 where there is none. It stays whole (item 5), since a last region may not start at a tick on which a higher task arrives
unfoldable pub alpha : Tasks → Assignment → Chunks → ℕ → ℕ
alpha y a g i = max_to y.n (λ k. cond (ltb (a.p i) (a.p k)) (g.longest k) 0)

-- (C(i) − q) + sum over higher tasks of ceil((t + J(j))/T(j))·C(j), where q is the task's last region
unfoldable pub before_last : Tasks → Assignment → ℕ → ℕ → ℕ → ℕ
before_last y a i q t = y.c i - q + load y (λ j. ltb (a.p j) (a.p i)) (before y t)

-- some t from 1 to D(i) − J(i) − q has that sum + alpha ≤ t, where alpha is `longest`
unfoldable pub has_time : Tasks → Assignment → ℕ → ℕ → ℕ → Bool
has_time y a i q longest = some (y.d i - y.j i - q) (λ t. leb (before_last y a i q t + longest) t)

-- task i passes if alpha is 0 or there is such a t, and else is not shown
unfoldable pub points_pass : Tasks → Assignment → Chunks → ℕ → Bool
points_pass y a g i = eqb (alpha y a g i) 0 || has_time y a i (g.last i) (alpha y a g i)
