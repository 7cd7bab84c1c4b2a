-- What a sheet says of a task's active period, out of the calls' answers alone: the worst job where that isn't job 0 and, where R is above D, the worst job and by how much it is late. Where R is beyond, no job is named.
use Rattle.std.specs.Prelude.{ℕ, ◌-◌, cond, List, leb, eqb, get_or, Option, Some, None, Result, Ok, Err}
use Rattle.paper.specs.Answers.{no_time}
use Rattle.paper.specs.declared.Refusal.{Refusal}
use Rattle.paper.specs.declared.Response.{Response}
use Rattle.show_facts.specs.Facts.{job_of}
use Rattle.show_facts.specs.declared.Facts.{Facts}
use Rattle.worst_jobs.specs.declared.Worst.{Worst}
use Rattle.worst_jobs.specs.declared.Worst.TheVariants.{Later, Late, Unknown}

-- of a response time that job k of the active period reached, and the deadline d
abbrev pub worst_by : Option ℕ → ℕ → ℕ → Option Worst
worst_by (Some x) k d = cond (leb x d) (cond (eqb k 0) None (Some (Later k))) (Some (Late k (x - d)))
worst_by None k d = Some Unknown

-- of task i, by the response times that are answered; nothing where the call is turned away
abbrev pub worst_in : Result (List Response) Refusal → ℕ → ℕ → Option Worst
worst_in (Ok times) i d = worst_by (get_or times i no_time).time (get_or times i no_time).job d
worst_in (Err r) i d = None

abbrev pub worst_at : Facts → ℕ → Option Worst
worst_at f i = worst_in f.times i (job_of f i).deadline
