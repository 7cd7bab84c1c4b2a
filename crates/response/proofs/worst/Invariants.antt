-- The invariant: the largest so far is the worst of the jobs passed and within the bound, `first` is the first of them that reaches it, and the next job starts no earlier than `from`.
use Rattle.std.proofs.Common.{◌≡◌, ◌≤◌, Some}
use Rattle.paper.specs.Analysis.{start_sum, worst, first_reaching}
use Rattle.jobs.specs.Stands.{Climbs}
use Rattle.jobs.specs.Task.{tasks_at, standing_at}
use Rattle.response.proofs.worst.Given as goal

abbrev pub invariant-loop-k : goal.invariant-loop-k
invariant-loop-k l =
    let y = tasks_at l.task in
    let s = standing_at l.task in
    let i = l.task.stand.i in
    record {
      climbs : Climbs (start_sum y s i l.k) l.from;
      worst : Some l.largest ≡ worst y s i l.k;
      first : l.first ≡ first_reaching y s i l.k (Some l.largest);
      within : l.largest ≤ l.fn.most;
    }
