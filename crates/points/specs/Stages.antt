-- What the stages of the call promise each other.
use Rattle.std.specs.Prelude.{ℕ, ◌<◌, ◌≤◌, List, [], ◌∷◌, Result}
use Rattle.paper.specs.Numbers.{most_ticks, rec, per_task, assigned, Assignment}
use Rattle.paper.specs.Analysis.{Tasks, tasks_of}
use Rattle.paper.specs.Points.{longest_region, Chunks, chunks_of, points_pass}
use Rattle.paper.specs.Refusals.{first_of, tolerance_below_zero}
use Rattle.paper.specs.Answers.{answered, verdict_for}
use Rattle.paper.specs.declared.Table.{Table}
use Rattle.paper.specs.declared.Refusal.{Refusal}
use Rattle.paper.specs.declared.Shown.{Shown}
use Rattle.paper.specs.declared.Shown.TheVariants.{NotShown}

-- the longest regions of a table's tasks are no longer than a region may be
abbrev pub Brief : Table → List ℕ → List ℕ → Type 0
Brief t own catalogue = (k : ℕ) → k < t.n → longest_region own catalogue (rec t.records k) ≤ most_ticks

-- the verdict on each task
abbrev pub verdicts_of : Tasks → Assignment → Chunks → List Shown
verdicts_of y a g = per_task y.n (λ k. verdict_for (points_pass y a g k)) NotShown

-- what is left of the call once nothing that is asked before the tolerances applies: refusal 16, or the verdicts
abbrev pub points_left : Table → List ℕ → List ℕ → Result (List Shown) Refusal
points_left t own catalogue =
    answered (first_of (tolerance_below_zero t ∷ []))
    (verdicts_of (tasks_of t.records t.n) (assigned t.records) (chunks_of t.records own catalogue))
