-- The answer of a table's columns is that of the table.
use mathlib.Core.Path.{◌≡◌, ap, sym, ◌∙◌}
use mathlib.Core.List.{List}
use Rattle.std.proofs.Common.{ℕ, Result, Ok}
use lib.ListN.{length}
use Rattle.paper.specs.Numbers.{most_tasks, per_task}
use Rattle.paper.specs.Analysis.{Tasks, tasks_of}
use Rattle.paper.specs.Refusals.{first_of, times_asks}
use Rattle.paper.specs.Answers.{answered, no_time, time_of, times_answer}
use Rattle.paper.specs.declared.Response.{Response}
use Rattle.paper.specs.declared.Table.{Table}
use Rattle.paper.specs.declared.Refusal.{Refusal}
use Rattle.columns.specs.Columns.{column_of, assigned_by, Placed}
use Rattle.columns.specs.declared.Column.TheVariants.{Priority, Threshold}
use Rattle.columns.proofs.Tables.{assigned-by}
use Rattle.outcomes.proofs.Meaning.{times_done, times_placed}
use Rattle.response.specs.Bounds.{response_of}

-- a call that is done, on the table's columns
module _ (t : Table) (done : first_of (times_asks t) ≡ Ok tt) {y : Tasks} (ey : y ≡ tasks_of t.records t.n) where
  module _ {ps hs : List ℕ} (ep : ps ≡ column_of t.records Priority) (eh : hs ≡ column_of t.records Threshold) (size : length t.records ≡ most_tasks) where
    pub placed_is : Placed y.n (assigned_by ps hs)
    placed_is = rw (ey, ep, eh, assigned-by t.records size) (times_placed t (times_done t done))

    pub done_is : (times : List Response) → times ≡ per_task y.n (response_of y (assigned_by ps hs)) no_time → ◌≡◌ {A = Result (List Response) Refusal} (Ok times) (times_answer t)
    done_is times q = ap Ok (q ∙ same) ∙ sym (ap (λ o. answered o (per_task t.n (time_of t) no_time)) done)
      where
        same : per_task y.n (response_of y (assigned_by ps hs)) no_time ≡ per_task t.n (time_of t) no_time
        same = rw (ey, ep, eh, assigned-by t.records size)
