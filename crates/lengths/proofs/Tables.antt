-- What is worked out on a table's columns is what the paper says of its records.
use Prim.Native.Nat.{ℕ, ◌<◌}
use mathlib.Core.Path.{◌≡◌, refl, ap, ◌∙◌}
use mathlib.Core.Bool.{◌||◌}
use mathlib.Core.List.{List}
use lib.IntN.{ℤ, pos, ◌+ℤ◌}
use lib.ListN.{length, get_or}
use lib.Signed.{lt_z}
use Rattle.paper.specs.Vocabulary.{every, lowest}
use Rattle.paper.specs.Numbers.{most_tasks, per_task, rec, assigned, Assignment}
use Rattle.paper.specs.Analysis.{Tasks, tasks_of}
use Rattle.paper.specs.Regions.{list_of}
use Rattle.paper.specs.Lengths.{slack, tolerance, no_instant, lowest_no_instant, lowest_below_zero, allowed, length_of, regions_fit, all_fit}
use Rattle.paper.specs.declared.Record.{Record}
use Rattle.laws.proofs.Every.{every_same, lowest_same}
use Rattle.laws.proofs.Lists.{per_task_at}
use Rattle.columns.specs.Columns.{column_of, ranked_by}
use Rattle.columns.specs.declared.Column.TheVariants.{Priority}
use Rattle.columns.proofs.Tables.{assigned-by}
use Rattle.lengths.specs.Stages.{tolerances_of, tolerances_left, lengths_left, falls}

-- a table's column of priorities stands for its assignment; thresholds play no part
module _ (rs : List Record) (n : ℕ) {y : Tasks} {ps : List ℕ} (full : length rs ≡ most_tasks) (tasks : y ≡ tasks_of rs n) (p : ps ≡ column_of rs Priority) where
  pub tolerances_by : tolerances_left y (ranked_by ps) ≡ tolerances_left (tasks_of rs n) (assigned rs)
  unfolding tolerance slack
  tolerances_by = rw (tasks, p) (ap (tolerances_left (tasks_of rs n)) (assigned-by rs full))

  pub lengths_by : lengths_left y (ranked_by ps) ≡ lengths_left (tasks_of rs n) (assigned rs)
  unfolding lowest_below_zero length_of allowed tolerance slack
  lengths_by = rw (tasks, p) (ap (lengths_left (tasks_of rs n)) (assigned-by rs full))

-- the tolerances in an array
module _ (y : Tasks) (a : Assignment) {ticks : List ℤ} (known : ticks ≡ tolerances_of y a) where
  pub tick_at : (j : ℕ) → j < y.n → get_or ticks j (pos 0) ≡ tolerance y a j
  tick_at j l = rw known (per_task_at y.n (tolerance y a) (pos 0) (pos 0) j l)

  -- and what each task allows
  pub allowed_at : (j : ℕ) {t : ℤ} → j < y.n → t ≡ get_or ticks j (pos 0) → t +ℤ pos 1 ≡ allowed y a j
  unfolding allowed
  allowed_at j l e = ap (λ (z : ℤ). z +ℤ pos 1) (e ∙ tick_at j l)

  -- the lowest record that falls under 16, for lengths
  pub lowest_by : lowest y.n (falls y ticks) ≡ lowest_below_zero y a
  unfolding lowest_below_zero
  lowest_by = lowest_same y.n _ _ (λ k l. ap (λ q. no_instant y k || lt_z q (pos 0)) (tick_at k l))

-- and for tolerances
pub lowest_none_by : (y : Tasks) → lowest y.n (no_instant y) ≡ lowest_no_instant y
unfolding lowest_no_instant
lowest_none_by y = refl

-- the region check with the lengths in an array
pub fit_by : (rs : List Record) (y : Tasks) (a : Assignment) (lengths : List ℤ) (own catalogue : List ℕ) → lengths ≡ per_task y.n (length_of y a) (pos 0)
    → every y.n (λ k. regions_fit (list_of (rec rs k).source own catalogue) (rec rs k) (get_or lengths k (pos 0))) ≡ all_fit rs y a own catalogue
unfolding all_fit
fit_by rs y a lengths own catalogue known =
    every_same y.n _ _ (λ k l.
    ap (regions_fit (list_of (rec rs k).source own catalogue) (rec rs k))
    (rw known (per_task_at y.n (length_of y a) (pos 0) (pos 0) k l)))
