-- Where a task stands, and when its jobs run.
use Rattle.std.specs.Prelude.{ℕ, ◌-◌, ◌≤◌, ◌<◌, ◌≡◌, leb, ltb, Option, Some, None}
use Rattle.paper.specs.Numbers.{most_tasks, most_ticks, Assignment}
use Rattle.paper.specs.Analysis.{Tasks, Standing, before, blocking, level_of, start_of, finish_of}
use Rattle.jobs.specs.declared.Stand.{Stand}
use Rattle.jobs.specs.declared.Ran.{Ran}

-- where a task stands, by its own numbers and the others' priorities
abbrev pub stand_by : Assignment → Stand → Standing
stand_by a s =
    record {
      b = s.b;
      level = λ j. leb (a.p j) s.p;
      above = λ j. ltb (a.p j) s.p;
      cuts = λ j. ltb (a.p j) s.h;
    }

abbrev pub stand_of : Tasks → Assignment → ℕ → Stand
stand_of y a i = record { i = i; b = blocking y a i - 1; p = a.p i; h = a.h i }

-- a task of y stands so
pub record Stands (y : Tasks) (a : Assignment) (s : Stand) : Type 0 where
  pub among : s.i < y.n
  pub blocked : s.b ≤ most_ticks
  pub place : s.p ≡ a.p s.i
  pub small : s.p ≤ most_tasks

-- a place from which to climb to the least fixed point of f: none lies below it
pub record Climbs (f : ℕ → ℕ) (from : ℕ) : Type 0 where
  pub rises : from ≤ f from
  pub under : (x : ℕ) → x ≡ f x → from ≤ x

-- a job by its start and its finish
unfoldable pub finished : ℕ → Option ℕ → Option Ran
finished start (Some f) = Some (record { start = start; end = f })
finished start None = None

unfoldable pub ran_from : Tasks → Standing → ℕ → Option ℕ → Option Ran
ran_from y s i (Some start) = finished start (finish_of y s i start)
ran_from y s i None = None

unfoldable pub ran_of : Tasks → Standing → ℕ → ℕ → Option Ran
ran_of y s i k = ran_from y s i (start_of y s i k)

-- jobs k run from 0 to ceil((L + J(i))/T(i)) − 1: how many these are
unfoldable pub count_from : Tasks → ℕ → Option ℕ → Option ℕ
count_from y i (Some l) = Some (before y l i)
count_from y i None = None

unfoldable pub job_count : Tasks → Standing → ℕ → Option ℕ
job_count y s i = count_from y i (level_of y s)
