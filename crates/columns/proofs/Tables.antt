-- A table's tasks and assignment may be read off its columns, and what the checks of a table say of them.
use Prim.Native.Nat.{ℕ, ◌≤◌, ◌<◌}
use mathlib.Core.Path.{◌≡◌, refl, sym, ap, ◌∙◌}
use mathlib.Core.Bool.{Bool, true, false, ◌&&◌, ◌||◌}
use mathlib.Core.List.{List}
use mathlib.Core.Logic.{by_cases}
use native.Mathlib.Omega.{arith}
use native.Mathlib.Decide.{dec_lt}
use borrow.Author.Tests.{leb-true, ltb-true}
use lib.Dec.{leb, ltb}
use lib.ListN.{length, get_or, get_or-eq_default}
use Rattle.paper.specs.Numbers.{most_tasks, most_ticks, most_name, zero_record, rec, ticks_in_range, record_in_range, records_in_range, each_once, thresholds_hold, assigned, unassigned, assignment_holds}
use Rattle.paper.specs.Analysis.{tasks_of}
use Rattle.paper.specs.declared.Record.{Record}
use Rattle.paper.proofs.Tests.{never, both, within, every_says}
use Rattle.paper.proofs.Formed.{each_once_range, threshold_range}
use Rattle.laws.proofs.Lists.{list_length, list_at}
use Rattle.columns.specs.Columns.{value_in, column_of, tasks_by, assigned_by, Ranged, Placed}
use Rattle.columns.specs.declared.Column.{Column}
use Rattle.columns.specs.declared.Column.TheVariants.{Cost, Period, Deadline, Priority, Threshold, Jitter}

-- past the last record all is 0
zero_in : (which : Column) → value_in which zero_record ≡ 0
zero_in Cost = refl
zero_in Period = refl
zero_in Deadline = refl
zero_in Priority = refl
zero_in Threshold = refl
zero_in Jitter = refl

past : (rs : List Record) (which : Column) → length rs ≡ most_tasks → (k : ℕ) → most_tasks ≤ k → value_in which (rec rs k) ≡ 0
past rs which e k h =
    let r : length rs ≤ k = rw e h in
    ap (value_in which) (get_or-eq_default rs zero_record r) ∙ zero_in which

-- the numbers of a column are the records' numbers at every index
column_all : (rs : List Record) (which : Column) → length rs ≡ most_tasks → (j : ℕ)
    → get_or (column_of rs which) j 0 ≡ value_in which (rec rs j)
column_all rs which e j =
    by_cases (dec_lt j most_tasks)
    (λ (l : j < most_tasks). list_at most_tasks (λ j. value_in which (rec rs j)) 0 j l)
    (λ l.
    let m : length (column_of rs which) ≤ j = rw (list_length most_tasks (λ j. value_in which (rec rs j))) (omega arith) in
    get_or-eq_default (column_of rs which) 0 m ∙ sym (past rs which e j (omega arith)))

pub tasks-by : (rs : List Record) (n : ℕ) → length rs ≡ most_tasks
    → tasks_by n (column_of rs Cost) (column_of rs Period) (column_of rs Deadline) (column_of rs Jitter) ≡ tasks_of rs n
tasks-by rs n e i = record {
  n = n;
  c = λ k. column_all rs Cost e k i;
  t = λ k. column_all rs Period e k i;
  d = λ k. column_all rs Deadline e k i;
  j = λ k. column_all rs Jitter e k i;
}

pub filled : (rs : List Record) (n : ℕ) {cs ts ds js : List ℕ} → cs ≡ column_of rs Cost → ts ≡ column_of rs Period → ds ≡ column_of rs Deadline
    → js ≡ column_of rs Jitter → length rs ≡ most_tasks → tasks_by n cs ts ds js ≡ tasks_of rs n
filled rs n c t d j e = rw (c, t, d, j) (tasks-by rs n e)

pub assigned-by : (rs : List Record) → length rs ≡ most_tasks
    → assigned_by (column_of rs Priority) (column_of rs Threshold) ≡ assigned rs
assigned-by rs e i = record { p = λ j. column_all rs Priority e j i; h = λ j. column_all rs Threshold e j i }

-- what the range check says of a record
pub record InRange (r : Record) : Type 0 where
  pub costs : (1 ≤ r.cost) × (r.cost ≤ most_ticks)
  pub periods : (1 ≤ r.period) × (r.period ≤ most_ticks)
  pub deadlines : (1 ≤ r.deadline) × (r.deadline ≤ most_ticks)
  pub names : r.name ≤ most_name
  pub jitters : r.jitter < r.period

pub record_says : (r : Record) → record_in_range r ≡ true → InRange r
record_says r e =
    let c = both (ticks_in_range r.cost) _ e in
    let t = both (ticks_in_range r.period) _ c.1 in
    let d = both (ticks_in_range r.deadline) _ t.1 in
    let n = both (leb r.name most_name) (ltb r.jitter r.period) d.1 in
    record {
      costs = within 1 most_ticks r.cost c.0;
      periods = within 1 most_ticks r.period t.0;
      deadlines = within 1 most_ticks r.deadline d.0;
      names = leb-true r.name most_name n.0;
      jitters = ltb-true r.jitter r.period n.1;
    }

-- an assignment that holds and is there is well formed
other : (a b : Bool) → (a || b) ≡ true → a ≡ false → b ≡ true
other true b e f = absurd (never true refl f)
other false b e f = e

pub well_formed : (rs : List Record) (n : ℕ) → assignment_holds rs n ≡ true → unassigned rs n ≡ false
    → (each_once n (assigned rs).p ≡ true) × (thresholds_hold n (assigned rs) ≡ true)
well_formed rs n e u =
    both (each_once n (assigned rs).p) (thresholds_hold n (assigned rs))
    (other (unassigned rs n) (each_once n (assigned rs).p && thresholds_hold n (assigned rs)) e u)

-- so the analysis may run
module _ (rs : List Record) (n : ℕ) (few : n ≤ most_tasks) where
  pub ranged : records_in_range rs n ≡ true → Ranged (tasks_of rs n)
  ranged e = record {
    few = few;
    costs = λ k h. (says k h).costs;
    periods = λ k h. (says k h).periods;
    deadlines = λ k h. (says k h).deadlines;
    jitters = λ k h. (says k h).jitters;
  }
    where
      says : (k : ℕ) → k < n → InRange (rec rs k)
      says k h = record_says (rec rs k) (every_says n (λ k. record_in_range (rec rs k)) e k h)

  pub placed : assignment_holds rs n ≡ true → unassigned rs n ≡ false → Placed n (assigned rs)
  placed e u = record {
    priorities = λ k h. let p = ps k h in (p.0, omega arith);
    thresholds = λ k h. let p = ps k h in let q = threshold_range n (assigned rs) (well_formed rs n e u).1 k h in (q.0, omega arith);
  }
    where
      ps : (k : ℕ) → k < n → (1 ≤ (assigned rs).p k) × ((assigned rs).p k ≤ n)
      ps k h = each_once_range n (assigned rs).p (well_formed rs n e u).0 k h
