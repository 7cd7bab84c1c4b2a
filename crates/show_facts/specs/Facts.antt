-- What the calls answer of a table and of each of its jobs.
use Rattle.std.specs.Prelude.{ℕ, Bool, List, ℤ, pos, get_or, Result, Ok, Err}
use Rattle.paper.specs.Vocabulary.{list_to}
use Rattle.paper.specs.Numbers.{most_tasks, rec}
use Rattle.paper.specs.Lengths.{regions_fit}
use Rattle.paper.specs.Regions.{list_of}
use Rattle.paper.specs.Answers.{times_answer, tolerances_answer, lengths_answer, fit_answer, points_answer}
use Rattle.paper.specs.declared.Record.{Record}
use Rattle.paper.specs.declared.Table.{Table}
use Rattle.paper.specs.declared.Refusal.{Refusal}
use Rattle.show_facts.specs.declared.Facts.{Facts}

-- the record of job k + 1
abbrev pub job_of : Facts → ℕ → Record
job_of f k = rec f.table.records k

-- every region of the job is at most the length that is answered for it
abbrev pub fits_at : List Record → List ℤ → List ℕ → List ℕ → ℕ → Bool
fits_at rs lengths own catalogue k = regions_fit (list_of (rec rs k).source own catalogue) (rec rs k) (get_or lengths k (pos 0))

abbrev pub fits_of : List Record → Result (List ℤ) Refusal → List ℕ → List ℕ → Result (List Bool) Refusal
fits_of rs (Ok lengths) own catalogue = Ok (list_to most_tasks (fits_at rs lengths own catalogue))
fits_of rs (Err r) own catalogue = Err r

-- the calls' answers for a table, the region check's among them
abbrev pub facts_of : Table → List ℕ → List ℕ → Facts
facts_of t own catalogue = record {
  table = t;
  times = times_answer t;
  tolerances = tolerances_answer t;
  lengths = lengths_answer t;
  fits = fits_of t.records (lengths_answer t) own catalogue;
  check = fit_answer t own catalogue;
  points = points_answer t own catalogue;
}
