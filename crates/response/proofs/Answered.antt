-- What the answer of response times holds: of a task of the table its R and the first job that reaches it, by the jobs' own finishes; past the last task nothing; and on a refusal there are no times.
use Prim.Native.Nat.{ℕ, ◌≤◌, ◌<◌}
use mathlib.Core.Path.{◌≡◌, refl, sym, ap, ◌∙◌}
use mathlib.Core.List.{List}
use mathlib.Core.Logic.{◌↔◌}
use Rattle.std.proofs.Common.{Some, None, Ok, Err, arith}
use lib.ListN.{get_or}
use Rattle.paper.specs.Numbers.{most_tasks, per_task, assigned}
use Rattle.paper.specs.Analysis.{Tasks, Standing, tasks_of, standing, response, with_job}
use Rattle.paper.specs.Refusals.{Outcome, first_of, times_asks}
use Rattle.paper.specs.Answers.{answered as given, no_time, time_of, times_answer}
use Rattle.paper.specs.declared.Response.{Response}
use Rattle.paper.specs.declared.Table.{Table}
use Rattle.paper.specs.declared.Refusal.{Refusal}
use Rattle.paper.proofs.Responses.{Largest, response_largest, beyond_job}
use Rattle.laws.proofs.Lists.{per_task_at, per_task_past}
use Rattle.outcomes.proofs.Meaning.{times_done, times_ranged}

-- a refusal is handed back alone
pub refused_nothing : (t : Table) (r : Refusal) → first_of (times_asks t) ≡ Err r → times_answer t ≡ Err r
refused_nothing t r e = ap (λ o. given o (per_task t.n (time_of t) no_time)) e

-- the times of a call that is done
module _ (t : Table) {times : List Response} (e : times_answer t ≡ Ok times) where
  record Done : Type 0 where
    done : first_of (times_asks t) ≡ Ok tt
    whole : times ≡ per_task t.n (time_of t) no_time

  is-done : Done
  is-done = go (first_of (times_asks t)) refl e
    where
      go : (o : Outcome) → first_of (times_asks t) ≡ o → given o (per_task t.n (time_of t) no_time) ≡ Ok times → Done
      go (Ok done) f h = record { done = f; whole = cc }
      go (Err r) f h = let z : ◌≡◌ {A = ℕ} 0 1 = cc in absurd (omega arith)

  -- entry i, whatever is read where a list has none
  module _ (i : ℕ) (d : Response) where
    -- past the last task, time 0 and job 0, which mean nothing
    pub past_nothing : t.n ≤ i → i < most_tasks → get_or times i d ≡ record { time = Some 0; job = 0 }
    past_nothing l h = ap (λ ts. get_or ts i d) is-done.whole ∙ per_task_past t.n (time_of t) no_time d i l h

    module _ (among : i < t.n) where
      abbrev y : Tasks
      y = tasks_of t.records t.n

      abbrev s : Standing
      s = standing y (assigned t.records) i

      pub answered : get_or times i d ≡ with_job y s i
      answered = ap (λ ts. get_or ts i d) is-done.whole ∙ per_task_at t.n (time_of t) no_time d i among

      -- R with k: no job's signed difference lies above R, that of job k is R, and that of each job before it lies below
      pub answered_largest : (r k : ℕ) → (get_or times i d ≡ record { time = Some r; job = k }) ↔ Largest y s i r k
      answered_largest r k =
          let w = response_largest y s i ((times_ranged t (times_done t is-done.done)).periods i among).0 r k in
          (λ e. w.0 (sym answered ∙ e), λ g. answered ∙ w.1 g)

      -- beyond, and job 0
      pub answered_beyond : (get_or times i d ≡ record { time = None; job = 0 }) ↔ (response y s i ≡ None)
      unfolding with_job
      answered_beyond = (λ e. ap (λ (v : Response). v.time) (sym answered ∙ e), λ e. answered ∙ beyond_job y s i e)
