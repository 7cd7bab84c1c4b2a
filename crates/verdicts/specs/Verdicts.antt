-- What a sheet says under its table, out of the calls' answers alone: the notes, and the verdict.
use Rattle.std.specs.Prelude.{ℕ, Bool, true, false, List, ℤ, Option, Some, None, Result, Ok, Err}
use Rattle.paper.specs.declared.Refusal.{Refusal}
use Rattle.paper.specs.declared.Response.{Response}
use Rattle.show_facts.specs.declared.Facts.{Facts}
use Rattle.first_jobs.specs.Firsts.{numbered, first_late, first_unfit, first_not_shown}
use Rattle.verdicts.specs.declared.Note.{Note}
use Rattle.verdicts.specs.declared.Verdict.{Verdict}

-- the first of the three calls that turned the table away, with its refusal
module _ {A : Type 0} where
  abbrev pub note_from : Result A Refusal → (Refusal → Note) → Option Note → Option Note
  note_from (Ok a) note next = next
  note_from (Err r) note next = Some (note r)

abbrev pub first_note : Result (List Response) Refusal → Result (List ℤ) Refusal → Result (List ℤ) Refusal → Option Note
first_note times tolerances lengths =
    note_from times Note.Times (note_from tolerances Note.Tolerances (note_from lengths Note.Lengths None))

-- the number of the first job that the test of fixed preemption points doesn't show, or 0, as where it is turned away
abbrev pub not_shown : Facts → ℕ
not_shown f = first_not_shown f

-- the verdict's second half: by the region check's answer, and the number of the first job with a region above its length, or 0
abbrev pub unfit_of : Result Bool Refusal → ℕ → Result (Option ℕ) Refusal
unfit_of (Ok true) unfit = Ok None
unfit_of (Ok false) unfit = Ok (Some unfit)
unfit_of (Err r) unfit = Err r

abbrev pub verdict_by : Result (List Response) Refusal → Facts → Result Verdict Refusal
verdict_by (Ok times) f = Ok (record { late = numbered (first_late f); unfit = unfit_of f.check (first_unfit f) })
verdict_by (Err r) f = Err r

abbrev pub verdict_of : Facts → Result Verdict Refusal
verdict_of f = verdict_by f.times f
