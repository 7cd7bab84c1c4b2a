-- What is worked out on a table's columns is what the paper says of its records.
use Rattle.std.specs.Prelude.{Ok}
use Prim.Native.Nat.{ℕ, ◌<◌}
use mathlib.Core.Path.{◌≡◌, ap, ◌∙◌}
use mathlib.Core.Bool.{◌||◌, cond}
use mathlib.Core.List.{List}
use lib.Dec.{ltb, eqb}
use lib.ListN.{length, get_or}
use Rattle.paper.specs.Numbers.{most_tasks, most_ticks, rec, per_task, counts_in_range, records_in_range, assignment_holds, assigned, Assignment}
use Rattle.paper.specs.Regions.{all_regions_hold}
use Rattle.paper.specs.Analysis.{Tasks, tasks_of}
use Rattle.paper.specs.Lengths.{slack, tolerance, lowest_below_zero}
use Rattle.paper.specs.Points.{longest_region, last_region, chunks_of, alpha, before_last, has_time, points_pass}
use Rattle.paper.specs.Refusals.{first_of}
use Rattle.paper.specs.Answers.{verdict_for}
use Rattle.paper.specs.declared.Table.{Table}
use Rattle.paper.proofs.Asks.{met}
use Rattle.paper.proofs.Points.{all_regions_say}
use Rattle.laws.proofs.Sums.{max_same, max_bound}
use Rattle.laws.proofs.Lists.{per_task_at, per_task_same}
use Rattle.columns.specs.Columns.{column_of, ranked_by, Ranged}
use Rattle.columns.specs.declared.Column.TheVariants.{Priority}
use Rattle.columns.proofs.Tables.{assigned-by}
use Rattle.point_test.specs.Chunks.{Short, chunks_by}
use Rattle.lengths.specs.Stages.{early_asks}
use Rattle.lengths.proofs.Outcomes.{early_done}
use Rattle.points.specs.Stages.{Brief, verdicts_of}

-- A column of the longest regions.
module _ (t : Table) (own catalogue : List ℕ) {xs : List ℕ} (x : xs ≡ per_task t.n (λ k. longest_region own catalogue (rec t.records k)) 0) where
  longest_at : (k : ℕ) → k < t.n → get_or xs k 0 ≡ longest_region own catalogue (rec t.records k)
  longest_at k l = rw x (per_task_at t.n (λ k. longest_region own catalogue (rec t.records k)) 0 0 k l)

  pub short_by : Brief t own catalogue → Short t.n xs
  short_by h k l = rw (longest_at k l) (h k l)

  same_alpha : (a : Assignment) (last : ℕ → ℕ) (i : ℕ) → alpha (tasks_of t.records t.n) a (chunks_by xs last) i ≡ alpha (tasks_of t.records t.n) a (chunks_of t.records own catalogue) i
  unfolding alpha
  same_alpha a last i = max_same t.n _ _ (λ k l. ap (λ (x : ℕ). cond (ltb (a.p i) (a.p k)) x 0) (longest_at k l))

-- A table's column of priorities stands for its assignment; thresholds play no part.
module _ (t : Table) {y : Tasks} {ps : List ℕ} (full : length t.records ≡ most_tasks) (tasks : y ≡ tasks_of t.records t.n) (p : ps ≡ column_of t.records Priority) where
  pub low_by : lowest_below_zero y (ranked_by ps) ≡ lowest_below_zero (tasks_of t.records t.n) (assigned t.records)
  unfolding lowest_below_zero tolerance slack
  low_by = rw (tasks, p) (ap (lowest_below_zero (tasks_of t.records t.n)) (assigned-by t.records full))

  pub verdicts_by : (own catalogue : List ℕ) {xs : List ℕ} → xs ≡ per_task t.n (λ k. longest_region own catalogue (rec t.records k)) 0
      → verdicts_of y (ranked_by ps) (chunks_by xs (λ k. last_region own catalogue (rec t.records k)))
      ≡ verdicts_of (tasks_of t.records t.n) (assigned t.records) (chunks_of t.records own catalogue)
  unfolding points_pass alpha has_time before_last
  verdicts_by own catalogue {xs} x =
      let g = chunks_by xs (λ k. last_region own catalogue (rec t.records k)) in
      rw (tasks, p) (ap (λ a. verdicts_of (tasks_of t.records t.n) a g) (assigned-by t.records full))
      ∙ per_task_same t.n _ _ _ (λ k l. ap (λ (x : ℕ). verdict_for (eqb x 0 || has_time (tasks_of t.records t.n) (assigned t.records) k (g.last k) x)) (same_alpha t own catalogue x (assigned t.records) g.last k))

-- The analysis may run on its table once nothing that is asked before the tolerances applies.
pub in-range : (t : Table) (own catalogue : List ℕ) → first_of (early_asks t own catalogue) ≡ Ok tt → Ranged (tasks_of t.records t.n) × Brief t own catalogue
in-range t own catalogue e =
    let c = met (counts_in_range t.n (length own)) _ _ e in
    let r = met (records_in_range t.records t.n) _ _ c.1 in
    let a = met (assignment_holds t.records t.n) _ _ r.1 in
    let h = met (all_regions_hold t.records t.n own catalogue) _ _ a.1 in
    let held = all_regions_say t.records t.n own catalogue h.0 in
    (early_done t own catalogue e, λ k l. max_bound (rec t.records k).count most_ticks _ (λ i m. ((held k l).words i m).1))
