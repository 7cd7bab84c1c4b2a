-- How many jobs of a table are looked at, and the number of the first of which something doesn't hold, by the calls' answers alone.
use Rattle.std.specs.Prelude.{ℕ, zero, suc, ◌+◌, min, Bool, true, false, not, List, leb, eqb, get_or, Option, Some, None, Result, Ok, Err}
use Rattle.paper.specs.Vocabulary.{lowest}
use Rattle.paper.specs.Numbers.{most_tasks, rec}
use Rattle.paper.specs.Analysis.{within}
use Rattle.paper.specs.Answers.{no_time}
use Rattle.paper.specs.declared.Source.TheVariants.{Own, Catalogue}
use Rattle.paper.specs.declared.Source.{Source}
use Rattle.paper.specs.declared.Record.{Record}
use Rattle.paper.specs.declared.Refusal.{Refusal}
use Rattle.paper.specs.declared.Response.{Response}
use Rattle.paper.specs.declared.Shown.{Shown}
use Rattle.paper.specs.declared.Shown.TheVariants.{NotShown, Passes}
use Rattle.show_facts.specs.Facts.{job_of}
use Rattle.show_facts.specs.declared.Facts.{Facts}

-- A table that is read has no more jobs than a table holds
abbrev pub jobs : Facts → ℕ
jobs f = min f.table.n most_tasks

-- a job's number as the code says it: jobs count from 1, and 0 is none
abbrev pub numbered : ℕ → Option ℕ
numbered zero = None
numbered (suc n) = Some (suc n)

-- a number by what a call answers; 0 where it is turned away
module _ {A : Type 0} where
  abbrev pub by_answer : Result A Refusal → (A → ℕ) → ℕ
  by_answer (Ok a) number = number a
  by_answer (Err r) number = 0

-- the number of the first job with a jitter, or 0
abbrev pub first_jitter : Facts → ℕ
first_jitter f = lowest (jobs f) (λ k. not (eqb (job_of f k).jitter 0))

-- a job keeps its deadline where its R exists and R ≤ D
abbrev pub keeps_at : Facts → List Response → ℕ → Bool
keeps_at f times k = within (get_or times k no_time).time (job_of f k).deadline

-- the number of the first job that does not, or 0; and of the first with a region above its length, or 0
abbrev pub first_late : Facts → ℕ
first_late f = by_answer f.times (λ times. lowest (jobs f) (λ k. not (keeps_at f times k)))

abbrev pub first_unfit : Facts → ℕ
first_unfit f = by_answer f.fits (λ fits. lowest (jobs f) (λ k. not (get_or fits k false)))

-- a job passes the test of fixed preemption points; the number of the first job that is not shown to, or 0
abbrev pub is_shown : Shown → Bool
is_shown Passes = true
is_shown NotShown = false

abbrev pub passes_at : List Shown → ℕ → Bool
passes_at points k = is_shown (get_or points k NotShown)

abbrev pub first_not_shown : Facts → ℕ
first_not_shown f = by_answer f.points (λ points. lowest (jobs f) (λ k. not (passes_at points k)))

-- Of a file that reading turns away with 11: the number of the first job that takes its regions from a catalogue of that size and finds it
-- ending before them, or 0
abbrev pub in_source : Source → Bool → Bool
in_source Own inside = true
in_source Catalogue inside = inside

abbrev pub inside : Record → ℕ → Bool
inside r size = in_source r.source (leb (r.first + r.count) size)

abbrev pub first_outside : List Record → ℕ → ℕ → ℕ
first_outside rs n size = lowest n (λ k. not (inside (rec rs k) size))
