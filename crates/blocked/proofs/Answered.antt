-- Of a table that the call of tolerances answers, each task whose threshold is its own priority is cut by every task above it.
use Rattle.std.proofs.Common.{Ok}
use Prim.Native.Nat.{ℕ, ◌<◌}
use mathlib.Core.Path.{◌≡◌}
use borrow.Author.Tests.{leb-true}
use Rattle.paper.specs.Numbers.{assigned}
use Rattle.paper.specs.Analysis.{tasks_of}
use Rattle.paper.specs.Refusals.{first_of, tolerances_asks}
use Rattle.paper.specs.declared.Table.{Table}
use Rattle.paper.proofs.Tests.{every_says}
use Rattle.paper.proofs.Formed.{each_once_apart}
use Rattle.columns.proofs.Tables.{well_formed}
use Rattle.outcomes.proofs.Meaning.{tolerances_done, times_ranged}
use Rattle.blocked.proofs.Tolerated.{Cut}

pub answered_cut : (t : Table) → first_of (tolerances_asks t) ≡ Ok tt → (i : ℕ) → i < t.n → (assigned t.records).h i ≡ (assigned t.records).p i
    → Cut (tasks_of t.records t.n) (assigned t.records) i
answered_cut t e i l cut =
    let f = tolerances_done t e in
    let times = f.shared.times in
    let r = times_ranged t times in
    let once = (well_formed t.records t.n times.assignment times.assigned).0 in
    record {
      among = l;
      periods = λ j h. (r.periods j h).0;
      cost = (r.costs i l).0;
      instant = f.instants i l;
      due = leb-true _ _ (every_says t.n _ f.shared.deadlines i l);
      near = (r.deadlines i l).1;
      alone = λ j h q. each_once_apart t.n _ once j i h l q;
      cut = cut;
    }
