-- The columns of the row at the front of an array.
use Prim.Native.Nat.{ℕ, suc, ◌+◌, ◌≤◌, ◌<◌}
use native.Mathlib.Nat.{zero-add}
use native.Mathlib.Omega.{arith}
use mathlib.Core.Path.{◌≡◌, ap₂, ◌∙◌}
use mathlib.Core.Bool.{true, ◌&&◌}
use mathlib.Core.List.{List}
use lib.ListN.{length, take, get_or, length-take}
use lib.Seq.{get_or-take, take-take, length-take-le}
use borrow.Author.Tests.{eq-eqb}
use Rattle.paper.specs.Numbers.{most_tasks, per_task, each_once, thresholds_hold}
use Rattle.paper.specs.Rows.{row_size, place_of, row_assignment, row_holds}
use Rattle.paper.proofs.Formed.{formed, threshold_range, place_most}
use Rattle.laws.proofs.Lists.{per_task_at}
use Rattle.laws.proofs.Agree.{SameAssignment, each_once_same, thresholds_same}
use Rattle.columns.specs.Columns.{assigned_by, Placed}
use Rattle.rows.specs.Columns.{Unpacked}

module _ (n : ℕ) (d : List ℕ) (few : n ≤ most_tasks) (size : length d ≡ row_size most_tasks) {ps hs : List ℕ} (u : Unpacked n d ps hs) where
  -- the assignment in them is the row's
  pub same_assignment : SameAssignment n (assigned_by ps hs) (row_assignment n (take (row_size n) d))
  unfolding row_assignment
  same_assignment =
      record {
        p = λ j l.
            rw (u.priorities, per_task_at n (λ k. place_of (take n d) (suc k)) 0 0 j l, take-take n (row_size n) d (omega arith));
        h = λ j l. rw (u.thresholds, per_task_at n (λ k. get_or d (n + k) 0) 0 0 j l, get_or-take (row_size n) d (n + j) 0 (omega arith));
      }

  -- the tests of the columns tell whether the row is well formed
  pub row_tests : (os : List ℕ) → os ≡ per_task n (λ k. get_or d (0 + k) 0) 0
      → (each_once n (λ k. get_or os k 0) && thresholds_hold n (assigned_by ps hs)) ≡ row_holds n (take (row_size n) d)
  unfolding row_holds
  row_tests os o =
      rw (eq-eqb (length (take (row_size n) d)) (row_size n) (length-take-le (row_size n) d (omega arith)))
      (ap₂ ◌&&◌
      (each_once_same n _ _ (λ k l. rw (o, per_task_at n (λ k. get_or d (0 + k) 0) 0 0 k l, zero-add k, get_or-take (row_size n) d k 0 (omega arith))))
      (thresholds_same n _ _ same_assignment.p same_assignment.h))

  -- and where it is, the analysis may run on them
  pub row_placed : row_holds n (take (row_size n) d) ≡ true → Placed n (assigned_by ps hs)
  unfolding row_assignment
  row_placed e = record { priorities = λ k l. omega (arith, bounds k l); thresholds = λ k l. omega (arith, bounds k l) }
    where
      bounds : (k : ℕ) → k < n → (1 ≤ get_or hs k 0) × (get_or hs k 0 ≤ get_or ps k 0) × (get_or ps k 0 ≤ most_tasks)
      bounds k l =
          let t = thresholds_same n _ _ same_assignment.p same_assignment.h ∙ (formed n (take (row_size n) d) e).thresholds in
          let order = take n (take (row_size n) d) in
          omega (arith, threshold_range n (assigned_by ps hs) t k l, same_assignment.p k l, place_most order (suc k), length-take n (take (row_size n) d))
