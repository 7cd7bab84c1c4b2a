-- What each of the thirteen calls answers, and what every lent memory holds afterwards.
-- A refusal returns its number (and record, for 16) and no lent byte or word has changed. On success only the bytes or words of the answer are written; the rest stay.
use Rattle.std.specs.Prelude.{ℕ, ◌+◌, ◌-◌, ◌≡◌, Bool, cond, List, [], ◌++◌, ℤ, pos, length, take, drop, Some, Result, Ok, Err}
use Rattle.paper.specs.Numbers.{per_task, rec, assigned}
use Rattle.paper.specs.File.{edition_in, words_in, file_length, own_words, table_in, file_of}
use Rattle.paper.specs.Regions.{Part, part_of, no_part, list_of, record_part, regions_part, last_part, name_list, name_part}
use Rattle.paper.specs.Analysis.{Tasks, tasks_of, standing, with_job}
use Rattle.paper.specs.Lengths.{tolerance, length_of, all_fit}
use Rattle.paper.specs.Points.{chunks_of, points_pass}
use Rattle.paper.specs.Rows.{row_size, Next, Ended}
use Rattle.paper.specs.Refusals.{Outcome, first_of, read_asks, record_asks, write_asks, times_asks, tolerances_asks, lengths_asks, fit_asks, first_asks, next_asks, regions_asks, name_asks}
use Rattle.paper.specs.declared.Source.{Source}
use Rattle.paper.specs.declared.Source.TheVariants.{Own}
use Rattle.paper.specs.declared.Table.{Table}
use Rattle.paper.specs.declared.Refusal.{Refusal}
use Rattle.paper.specs.declared.Reading.{Reading}
use Rattle.paper.specs.declared.Response.{Response}
use Rattle.paper.specs.declared.Shown.{Shown}
use Rattle.paper.specs.declared.Shown.TheVariants.{NotShown, Passes}
use Rattle.paper.specs.declared.Step.{Step}
use Rattle.paper.specs.declared.Step.TheVariants.{Row, End}

-- Where a call is turned away it hands back its refusal and nothing else; else a. And what a lent memory holds: a where the call is done, b where it is turned away
module _ {A : Type 0} where
  abbrev pub answered : Outcome → A → Result A Refusal
  answered (Ok done) a = Ok a
  answered (Err r) a = Err r

  abbrev pub when_done : Outcome → A → A → A
  when_done (Ok done) a b = a
  when_done (Err r) a b = b

  -- an answer without what it hands back
  abbrev pub outcome_of : Result A Refusal → Outcome
  outcome_of (Ok a) = Ok tt
  outcome_of (Err r) = Err r

-- Reading: the edition, the table and m; and the m region words at the front of the output
abbrev pub reading_of : List ℕ → Reading
reading_of f = record { edition = edition_in f; table = table_in f; words = words_in f }

abbrev pub read_outcome : List ℕ → ℕ → ℕ → List ℕ → ℕ → Outcome
read_outcome f cabinet line catalogue room = first_of (read_asks f cabinet line catalogue room)

abbrev pub words_for : Outcome → List ℕ → List ℕ → List ℕ
words_for o f out = when_done o (own_words f ++ drop (words_in f) out) out

abbrev pub read_answer : List ℕ → ℕ → ℕ → List ℕ → List ℕ → Result Reading Refusal
read_answer f cabinet line catalogue out = answered (read_outcome f cabinet line catalogue (length out)) (reading_of f)

abbrev pub read_out : List ℕ → ℕ → ℕ → List ℕ → List ℕ → List ℕ
read_out f cabinet line catalogue out = words_for (read_outcome f cabinet line catalogue (length out)) f out

-- Writing, told the edition e: the file's length; and exactly its bytes at the front of the output
abbrev pub write_outcome : ℕ → Table → ℕ → ℕ → List ℕ → List ℕ → ℕ → Outcome
write_outcome e t cabinet line own catalogue room = first_of (write_asks e t cabinet line own catalogue room)

abbrev pub file_for : Outcome → ℕ → Table → ℕ → ℕ → List ℕ → List ℕ → List ℕ
file_for o e t cabinet line own out =
    when_done o (file_of e t cabinet line own ++ drop (file_length e t.n (length own)) out) out

abbrev pub write_answer : ℕ → Table → ℕ → ℕ → List ℕ → List ℕ → List ℕ → Result ℕ Refusal
write_answer e t cabinet line own catalogue out =
    answered (write_outcome e t cabinet line own catalogue (length out)) (file_length e t.n (length own))

abbrev pub write_out : ℕ → Table → ℕ → ℕ → List ℕ → List ℕ → List ℕ → List ℕ
write_out e t cabinet line own catalogue out =
    file_for (write_outcome e t cabinet line own catalogue (length out)) e t cabinet line own out

-- Response times: for each task its R with the job that reached it, or beyond with job 0
abbrev pub no_time : Response
no_time = record { time = Some 0; job = 0 }

abbrev pub time_of : Table → ℕ → Response
time_of t i =
    with_job (tasks_of t.records t.n) (standing (tasks_of t.records t.n) (assigned t.records) i) i

abbrev pub times_answer : Table → Result (List Response) Refusal
times_answer t = answered (first_of (times_asks t)) (per_task t.n (time_of t) no_time)

-- Tolerances, lengths: a signed number for each task
abbrev pub tolerances_answer : Table → Result (List ℤ) Refusal
tolerances_answer t =
    answered (first_of (tolerances_asks t)) (per_task t.n (tolerance (tasks_of t.records t.n) (assigned t.records)) (pos 0))

abbrev pub lengths_answer : Table → Result (List ℤ) Refusal
lengths_answer t =
    answered (first_of (lengths_asks t)) (per_task t.n (length_of (tasks_of t.records t.n) (assigned t.records)) (pos 0))

-- The region check: yes exactly when every region of every task is at most its task's length
abbrev pub fit_answer : Table → List ℕ → List ℕ → Result Bool Refusal
fit_answer t own catalogue =
    answered (first_of (fit_asks t own catalogue))
    (all_fit t.records (tasks_of t.records t.n) (assigned t.records) own catalogue)

-- Fixed preemption points: for each task, whether it passes; the test is sufficient only, so a "no" is "not shown"; past n nothing is shown either. The refusals are the region check's
abbrev pub verdict_for : Bool → Shown
verdict_for passes = cond passes Passes NotShown

abbrev pub points_answer : Table → List ℕ → List ℕ → Result (List Shown) Refusal
points_answer t own catalogue =
    answered (first_of (fit_asks t own catalogue))
    (per_task t.n (λ k. verdict_for (points_pass (tasks_of t.records t.n) (assigned t.records) (chunks_of t.records own catalogue) k)) NotShown)

-- The listing: out and out' are what the buffer holds before and after. A row found is its first 2n numbers; the end and a refusal write nothing.
unfoldable pub Lists : Tasks → List ℕ → List ℕ → List ℕ → Result Step Refusal → Type 0
Lists y given out out' (Ok Row) = Next y given (take (row_size y.n) out') × (drop (row_size y.n) out' ≡ drop (row_size y.n) out)
Lists y given out out' (Ok End) = Ended y given × (out' ≡ out)
Lists y given out out' (Err r) = ⊥

unfoldable pub Says : Outcome → Tasks → List ℕ → List ℕ → List ℕ → Result Step Refusal → Type 0
Says (Ok done) y given out out' answer = Lists y given out out' answer
Says (Err r) y given out out' answer = (answer ≡ Err r) × (out' ≡ out)

-- the first of all: from a row that has not begun
unfoldable pub FirstSays : Table → List ℕ → List ℕ → Result Step Refusal → Type 0
FirstSays t out out' answer = Says (first_of (first_asks t (length out))) (tasks_of t.records t.n) [] out out' answer

-- the first strictly after a given row
unfoldable pub NextSays : Table → List ℕ → List ℕ → List ℕ → Result Step Refusal → Type 0
NextSays t given out out' answer = Says (first_of (next_asks t given (length out))) (tasks_of t.records t.n) given out out' answer

-- Parts handed back: the outcome, and where the part stands in the list it is of; on a refusal it is empty, at the start
abbrev pub part_for : Outcome → Part → Part
part_for o p = when_done o p no_part

abbrev pub record_outcome : List ℕ → ℕ → ℕ → List ℕ → ℕ → Outcome
record_outcome f cabinet line catalogue number = first_of (record_asks f cabinet line catalogue number)

-- the record: of the caller's own file
abbrev pub record_place : List ℕ → ℕ → ℕ → List ℕ → ℕ → Part
record_place f cabinet line catalogue number = part_for (record_outcome f cabinet line catalogue number) (record_part (edition_in f) number)

abbrev pub record_bytes : List ℕ → ℕ → ℕ → List ℕ → ℕ → List ℕ
record_bytes f cabinet line catalogue number = part_of (record_place f cabinet line catalogue number) f

-- the regions: of the own words or of the catalogue, whichever the record names; of the own words on a refusal
abbrev pub regions_outcome : Table → List ℕ → List ℕ → ℕ → Outcome
regions_outcome t own catalogue number = first_of (regions_asks t own catalogue number)

abbrev pub regions_source : Table → List ℕ → List ℕ → ℕ → Source
regions_source t own catalogue number = when_done (regions_outcome t own catalogue number) (rec t.records (number - 1)).source Own

abbrev pub regions_place : Table → List ℕ → List ℕ → ℕ → Part
regions_place t own catalogue number = part_for (regions_outcome t own catalogue number) (regions_part (rec t.records (number - 1)))

abbrev pub regions_words : Table → List ℕ → List ℕ → ℕ → List ℕ
regions_words t own catalogue number =
    part_of (regions_place t own catalogue number) (list_of (regions_source t own catalogue number) own catalogue)

-- the last region: one word of the list that the record names; it asks what the regions ask, 5, 13, then 11 for that record alone, and is empty at the start of the own words on a refusal
abbrev pub last_place : Table → List ℕ → List ℕ → ℕ → Part
last_place t own catalogue number = part_for (regions_outcome t own catalogue number) (last_part (rec t.records (number - 1)))

abbrev pub last_words : Table → List ℕ → List ℕ → ℕ → List ℕ
last_words t own catalogue number =
    part_of (last_place t own catalogue number) (list_of (regions_source t own catalogue number) own catalogue)

-- the name: of the cabinet's list or of the house list, by its number alone
abbrev pub name_outcome : ℕ → List ℕ → List ℕ → Outcome
name_outcome number cabinet house = first_of (name_asks number cabinet house)

abbrev pub name_place : ℕ → List ℕ → List ℕ → Part
name_place number cabinet house = part_for (name_outcome number cabinet house) (name_part number (name_list number cabinet house))

abbrev pub name_bytes : ℕ → List ℕ → List ℕ → List ℕ
name_bytes number cabinet house = part_of (name_place number cabinet house) (name_list number cabinet house)
