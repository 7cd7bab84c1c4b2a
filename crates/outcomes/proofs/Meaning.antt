-- What a call may count on once nothing that it asks applies.
use Rattle.std.specs.Prelude.{Ok}
use Prim.Native.Nat.{ℕ, ◌≤◌, ◌<◌}
use mathlib.Core.Path.{◌≡◌}
use mathlib.Core.Bool.{true, false}
use mathlib.Core.List.{[], ◌∷◌}
use borrow.Author.Tests.{ltb-false}
use lib.Dec.{leb}
use Rattle.paper.specs.Vocabulary.{every}
use Rattle.paper.specs.Numbers.{rec, tasks_in_range, records_in_range, assigned, unassigned, assignment_holds}
use Rattle.paper.specs.Analysis.{tasks_of}
use Rattle.paper.specs.Rows.{row_size}
use Rattle.paper.specs.Lengths.{no_instant}
use Rattle.paper.specs.Refusals.{first_of, times_asks, tolerances_asks, first_asks, deadline_above_period, tolerance_over_none}
use Rattle.paper.specs.declared.Table.{Table}
use Rattle.columns.specs.Columns.{Ranged, Placed}
use Rattle.columns.proofs.Tables.{ranged, placed}
use Rattle.paper.proofs.Asks.{clear, met}
use Rattle.paper.proofs.Jitters.{answered_instants}
use Rattle.checks.proofs.Asks.{first_done}
use Rattle.checks.proofs.Meaning.{few}
use Rattle.outcomes.specs.Shared.{deadlines_asks}

-- response times
pub record TimesFacts (t : Table) : Type 0 where
  pub counts : tasks_in_range t.n ≡ true
  pub ranges : records_in_range t.records t.n ≡ true
  pub assignment : assignment_holds t.records t.n ≡ true
  pub assigned : unassigned t.records t.n ≡ false

pub times_done : (t : Table) → first_of (times_asks t) ≡ Ok tt → TimesFacts t
times_done t e =
    let c = met (tasks_in_range t.n) _ _ e in
    let r = met (records_in_range t.records t.n) _ _ c.1 in
    let a = met (assignment_holds t.records t.n) _ _ r.1 in
    let u = clear (unassigned t.records t.n) _ _ a.1 in
    record { counts = c.0; ranges = r.0; assignment = a.0; assigned = u.0 }

-- so the analysis may run
pub times_ranged : (t : Table) → TimesFacts t → Ranged (tasks_of t.records t.n)
times_ranged t f = ranged t.records t.n (few t.n f.counts) f.ranges

pub times_placed : (t : Table) → TimesFacts t → Placed t.n (assigned t.records)
times_placed t f = placed t.records t.n (few t.n f.counts) f.assignment f.assigned

-- tolerances and lengths, before 16
pub record DeadlinesFacts (t : Table) : Type 0 where
  pub times : TimesFacts t
  pub deadlines : every t.n (λ k. leb (rec t.records k).deadline (rec t.records k).period) ≡ true

pub deadlines_done : (t : Table) → first_of (deadlines_asks t) ≡ Ok tt → DeadlinesFacts t
deadlines_done t e =
    let p = first_done (times_asks t) (deadline_above_period t ∷ []) e in
    record { times = times_done t p.0; deadlines = (met _ _ _ p.1).0 }

-- tolerances
pub record TolerancesFacts (t : Table) : Type 0 where
  pub shared : DeadlinesFacts t
  pub instants : (k : ℕ) → k < t.n → no_instant (tasks_of t.records t.n) k ≡ false

pub tolerances_done : (t : Table) → first_of (tolerances_asks t) ≡ Ok tt → TolerancesFacts t
tolerances_done t e =
    record { shared = deadlines_done t (first_done (deadlines_asks t) (tolerance_over_none t ∷ []) e).0; instants = answered_instants t e }

-- the listing
pub record FirstFacts (t : Table) (room : ℕ) : Type 0 where
  pub counts : tasks_in_range t.n ≡ true
  pub ranges : records_in_range t.records t.n ≡ true
  pub fits : row_size t.n ≤ room

pub first_row_done : (t : Table) (room : ℕ) → first_of (first_asks t room) ≡ Ok tt → FirstFacts t room
first_row_done t room e =
    let c = met (tasks_in_range t.n) _ _ e in
    let r = met (records_in_range t.records t.n) _ _ c.1 in
    let s = clear _ _ _ r.1 in
    record { counts = c.0; ranges = r.0; fits = ltb-false room (row_size t.n) s.0 }
