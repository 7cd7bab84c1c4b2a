-- The definitions as they stood before document 02, items 8 and 9, word for word but that an answer is a `Result` and a time an `Option` today: those that J and edition 2 have entered, and those that stand on them. What they are made of and these items left alone they take from `paper`.
-- `Record` and `Tasks` have a field J today: `record_from` makes a record with J = 0, and `zero_record` (J = 0 too) and `tasks_of` are today's, as there is one type of a record. Nothing on this page reads J.
-- A file that is read is handed back with its edition today: `reading_of` makes it with 1, the one edition that there was.
use Rattle.std.proofs.Common.{Option, Some, None, Result, Ok, Err}
use Prim.Native.Nat.{ℕ, zero, suc, ◌+◌, ◌-◌, ◌*◌, ◌/◌, max}
use mathlib.Core.Path.{◌≡◌}
use mathlib.Core.Bool.{Bool, true, false, not, ◌&&◌, ◌||◌}
use mathlib.Core.List.{List, [], ◌∷◌, ◌++◌}
use lib.Dec.{leb, ltb, eqb}
use lib.IntN.{ℤ, pos, sub_ℕ, ◌+ℤ◌}
use lib.ListN.{get_or, length, take, drop, replicate}
use lib.Signed.{lt_z}
use Rattle.paper.specs.Vocabulary.{list_to, every, lowest, ceil_div}
use Rattle.paper.specs.Numbers.{most_name, most_cabinet, horizon, rec, zero_record, per_task, ticks_in_range, Assignment, assigned}
use Rattle.paper.specs.Bits.{field, fields_at, put_field, put_fields}
use Rattle.paper.specs.File.{head_widths, head_fields, edition_in, cabinet_in, line_in, tasks_in, words_in, source_bit, source_of, filler_width, shortest, sealed, put_seal}
use Rattle.paper.specs.Regions.{Part, part_of, list_of}
use Rattle.paper.specs.Analysis.{Tasks, tasks_of, Standing, standing, least, load, within}
use Rattle.paper.specs.Lengths.{largest, least_of, regions_fit}
use Rattle.paper.specs.Rows.{row_size, row_assignment, row_holds, Later}
use Rattle.paper.specs.Refusals.{Asks, Outcome, first_of, wrong_tasks, wrong_counts, blank, bad_assignment, bad_regions, no_room, no_such_record, is_unassigned, deadline_above_period, below_zero_at}
use Rattle.paper.specs.Answers.{answered, when_done, no_time, part_for}
use Rattle.paper.specs.declared.Record.{Record}
use Rattle.paper.specs.declared.Table.{Table}
use Rattle.paper.specs.declared.Refusal.{Refusal}
use Rattle.paper.specs.declared.Refusal.TheVariants.{Short, WrongEdition, WrongCabinet, WrongLine, WrongLength, WrongSeal, SpareBitSet, OutOfRange, BadRow, BlankPlate}
use Rattle.paper.specs.declared.Reading.{Reading}
use Rattle.paper.specs.declared.Response.{Response}
use Rattle.paper.specs.declared.Step.{Step}
use Rattle.paper.specs.declared.Step.TheVariants.{Row, End}

-- Of paper/specs/Numbers.antt

abbrev pub record_in_range : Record → Bool
record_in_range r = ticks_in_range r.cost && (ticks_in_range r.period && (ticks_in_range r.deadline && leb r.name most_name))

-- Records past n are not looked at
abbrev pub records_in_range : List Record → ℕ → Bool
records_in_range rs n = every n (λ k. record_in_range (rec rs k))

-- Of paper/specs/File.antt

-- Head, 64 bits: edition 4 (=1), spare 4, cabinet 24, line 16, n 8, m 8
abbrev pub head_values : ℕ → ℕ → ℕ → ℕ → List ℕ
head_values cabinet line n m = 1 ∷ 0 ∷ cabinet ∷ line ∷ n ∷ m ∷ []

-- Each record, 96 bits: C 20, T 20, D 20, priority 4, threshold 4, region source 1, first region 7 (counted from 0), region count 7, name number 7, spare 6
abbrev pub record_bits : ℕ
record_bits = 96

abbrev pub record_widths : List ℕ
record_widths = 20 ∷ 20 ∷ 20 ∷ 4 ∷ 4 ∷ 1 ∷ 7 ∷ 7 ∷ 7 ∷ 6 ∷ []

abbrev pub record_values : Record → List ℕ
record_values r =
    r.cost ∷ r.period ∷ r.deadline ∷ r.priority ∷ r.threshold ∷ source_bit r.source ∷ r.first ∷ r.count ∷ r.name ∷ 0 ∷ []

-- record k + 1 stands after the head and k records
abbrev pub record_at : ℕ → ℕ
record_at k = 64 + record_bits * k

-- what it says: its fields in that order, and the record that they make
abbrev pub record_fields : List ℕ → ℕ → List ℕ
record_fields f k = fields_at f (record_at k) record_widths

abbrev pub record_from : List ℕ → Record
record_from vs = record {
  cost = get_or vs 0 0;
  period = get_or vs 1 0;
  deadline = get_or vs 2 0;
  priority = get_or vs 3 0;
  threshold = get_or vs 4 0;
  source = source_of (get_or vs 5 0);
  first = get_or vs 6 0;
  count = get_or vs 7 0;
  name = get_or vs 8 0;
  jitter = 0;
}

abbrev pub record_in : List ℕ → ℕ → Record
record_in f k = record_from (record_fields f k)

-- Region words, 20 bits each, after n records
abbrev pub word_at : ℕ → ℕ → ℕ
word_at n k = record_at n + 20 * k

-- Length in bytes: 8 + 12n + (20m/8 rounded up) + 2
abbrev pub file_length : ℕ → ℕ → ℕ
file_length n m = 8 + 12 * n + (20 * m + 7) / 8 + 2

-- Spare and filler bits are zero
unfoldable pub spare_clear : List ℕ → ℕ → ℕ → Bool
spare_clear f n m =
    eqb (get_or (head_fields f) 1 0) 0 &&
    (every n (λ k. eqb (get_or (record_fields f k) 9 0) 0) &&
    eqb (field f (word_at n m) (filler_width m)) 0)

-- What a file says: its region words and, for a table, its records; the reader leaves those past n zero
unfoldable pub region_words : List ℕ → ℕ → ℕ → List ℕ
region_words f n m = list_to m (λ k. field f (word_at n k) 20)

abbrev pub records_in : List ℕ → ℕ → List Record
records_in f n = per_task n (record_in f) zero_record

abbrev pub table_in : List ℕ → Table
table_in f = record { n = tasks_in f; records = records_in f (tasks_in f) }

-- What a file is made of: over zero bits the head, n records and the region words; then the seal
unfoldable pub put_records : List ℕ → List Record → ℕ → List ℕ
put_records s rs zero = s
put_records s rs (suc n) = put_fields (put_records s rs n) (record_at n) record_widths (record_values (rec rs n))

unfoldable pub put_words : List ℕ → ℕ → List ℕ → ℕ → List ℕ
put_words s n ws zero = s
put_words s n ws (suc m) = put_field (put_words s n ws m) (word_at n m) 20 (get_or ws m 0)

unfoldable pub put_head : ℕ → ℕ → ℕ → ℕ → List ℕ
put_head cabinet line n m = put_fields (replicate (file_length n m) 0) 0 head_widths (head_values cabinet line n m)

unfoldable pub file_of : Table → ℕ → ℕ → List ℕ → List ℕ
file_of t cabinet line own =
    put_seal
    (put_words (put_records (put_head cabinet line t.n (length own)) t.records t.n) t.n own (length own))
    (file_length t.n (length own) - 2)

-- Of paper/specs/Regions.antt

-- The record asked for comes back as the twelve bytes of the caller's own file: record number k, counted from 1
abbrev pub record_part : ℕ → Part
record_part k = record { from = 8 + 12 * (k - 1); count = 12 }

-- Of paper/specs/Analysis.antt

-- how many jobs of j have been asked for before x, ceil(x/T(j)), and how many by x, 1 + floor(x/T(j))
unfoldable pub before : Tasks → ℕ → ℕ → ℕ
before y x j = ceil_div x (y.t j)

unfoldable pub by : Tasks → ℕ → ℕ → ℕ
by y x j = 1 + x / y.t j

-- L(i) is the smallest positive L with L = b + sum over p(j) ≤ p(i) of ceil(L/T(j))·C(j), where b is B(i) − 1, or 0
unfoldable pub level_sum : Tasks → Standing → ℕ → ℕ
level_sum y s x = s.b + load y s.level (before y x)

-- from 1 to H
unfoldable pub level_of : Tasks → Standing → Option ℕ
level_of y s = least (λ x. eqb x (level_sum y s x)) 1 horizon

-- Start S: the smallest S ≥ 0 with S = b + k·C(i) + sum over p(j) < p(i) of (1 + floor(S/T(j)))·C(j), blocked or not
unfoldable pub start_sum : Tasks → Standing → ℕ → ℕ → ℕ → ℕ
start_sum y s i k x = s.b + k * y.c i + load y s.above (by y x)

-- from 0 to H
unfoldable pub start_of : Tasks → Standing → ℕ → ℕ → Option ℕ
start_of y s i k = least (λ x. eqb x (start_sum y s i k x)) 0 (horizon + 1)

-- Finish F: the smallest F > S with F = S + C(i) + sum over p(j) < h(i) of (ceil(F/T(j)) − started(j))·C(j), where started(j) is 1 + floor(S/T(j)), blocked or not;
-- no such difference is below zero, as F > S
unfoldable pub finish_sum : Tasks → Standing → ℕ → ℕ → ℕ → ℕ
finish_sum y s i start x = start + y.c i + load y s.cuts (λ j. before y x j - by y start j)

-- from S + 1 to H
unfoldable pub finish_of : Tasks → Standing → ℕ → ℕ → Option ℕ
finish_of y s i start = least (λ x. eqb x (finish_sum y s i start x)) (start + 1) (horizon - start)

unfoldable pub finish_from : Tasks → Standing → ℕ → Option ℕ → Option ℕ
finish_from y s i (Some start) = finish_of y s i start
finish_from y s i None = None

-- F of job k
unfoldable pub job : Tasks → Standing → ℕ → ℕ → Option ℕ
job y s i k = finish_from y s i (start_of y s i k)

-- R(i) is the largest F − k·T(i) over jobs k from 0 to ceil(L/T(i)) − 1; if L, any S or any F has no solution at or below H, "beyond".
-- A difference below zero counts as 0 here. L ≥ 1, so job 0 is among them, and its F − 0 is above zero (proofs/Responses.antt has R by the signed differences).
unfoldable pub later : Option ℕ → Option ℕ → ℕ → Option ℕ
later (Some r) (Some f) released = Some (max r (f - released))
later (Some r) None released = None
later None f released = None

unfoldable pub worst : Tasks → Standing → ℕ → ℕ → Option ℕ
worst y s i zero = Some 0
worst y s i (suc k) = later (worst y s i k) (job y s i k) (k * y.t i)

unfoldable pub worst_from : Tasks → Standing → ℕ → Option ℕ → Option ℕ
worst_from y s i (Some l) = worst y s i (before y l i)
worst_from y s i None = None

unfoldable pub response : Tasks → Standing → ℕ → Option ℕ
response y s i = worst_from y s i (level_of y s)

-- Beside R stands the number k of the job that reached it; where several reach the same value, the first. Jobs count from 0, `lowest` from 1, so 1 is taken off.
-- R is above zero, so that a difference below zero, counted as 0, never reaches it.
unfoldable pub reaches : Option ℕ → ℕ → ℕ → Bool
reaches (Some f) released r = eqb (f - released) r
reaches None released r = false

-- Where R is "beyond" k is 0 and means nothing.
unfoldable pub first_reaching : Tasks → Standing → ℕ → ℕ → Option ℕ → ℕ
first_reaching y s i count (Some r) = lowest count (λ k. reaches (job y s i k) (k * y.t i) r) - 1
first_reaching y s i count None = 0

-- over jobs k from 0 to ceil(L/T(i)) − 1
unfoldable pub worst_job : Tasks → Standing → ℕ → Option ℕ → Option ℕ → ℕ
worst_job y s i (Some l) r = first_reaching y s i (before y l i) r
worst_job y s i None r = 0

unfoldable pub with_job : Tasks → Standing → ℕ → Response
with_job y s i = record { time = response y s i; job = worst_job y s i (level_of y s) (response y s i) }

unfoldable pub task_passes : Tasks → Assignment → ℕ → Bool
task_passes y a i = within (with_job y (standing y a i) i).time (y.d i)

unfoldable pub passes : Tasks → Assignment → Bool
passes y a = every y.n (task_passes y a)

-- Of paper/specs/Lengths.antt

-- t − C(i) − sum over p(j) < p(i) of ceil(t/T(j))·C(j): a signed number
unfoldable pub slack : Tasks → Assignment → ℕ → ℕ → ℤ
slack y a i t = sub_ℕ t (y.c i + load y (λ j. ltb (a.p j) (a.p i)) (before y t))

-- Tolerance(i) is the largest of these for t from 1 to D(i), which is at least 1 where a call gets this far (9)
unfoldable pub tolerance : Tasks → Assignment → ℕ → ℤ
tolerance y a i = largest (slack y a i) (y.d i - 1)

-- some tolerance is below zero: the number of the lowest such record, or 0
unfoldable pub lowest_below_zero : Tasks → Assignment → ℕ
lowest_below_zero y a = lowest y.n (λ k. lt_z (tolerance y a k) (pos 0))

-- what task j allows every task below it: its tolerance plus 1
unfoldable pub allowed : Tasks → Assignment → ℕ → ℤ
allowed y a j = tolerance y a j +ℤ pos 1

-- Length(k) is the smaller of C(k) and the least higher tolerance plus 1 (C(k) if none is above)
unfoldable pub length_of : Tasks → Assignment → ℕ → ℤ
length_of y a k = least_of y.n (λ j. ltb (a.p j) (a.p k)) (allowed y a) (pos (y.c k))

unfoldable pub all_fit : List Record → Tasks → Assignment → List ℕ → List ℕ → Bool
all_fit rs y a own catalogue =
    every y.n (λ k. regions_fit (list_of (rec rs k).source own catalogue) (rec rs k) (length_of y a k))

-- Of paper/specs/Rows.antt

-- a well-formed row that passes the response test
pub record Passing (y : Tasks) (row : List ℕ) : Type 0 where
  pub form : row_holds y.n row ≡ true
  pub pass : passes y (row_assignment y.n row) ≡ true

-- the first passing row strictly after a given row: no passing row lies between
pub record Next (y : Tasks) (given row : List ℕ) : Type 0 where
  pub passing : Passing y row
  pub after : Later given row
  pub first : (r : List ℕ) → Passing y r → Later given r → Later r row → ⊥

-- or the end: no passing row lies after it
unfoldable pub Ended : Tasks → List ℕ → Type 0
Ended y given = (r : List ℕ) → Passing y r → Later given r → ⊥

-- Of paper/specs/Refusals.antt

-- C, T, D, name number outside its range
abbrev pub out_of_range : List Record → ℕ → Refusal × Bool
out_of_range rs n = (OutOfRange, not (records_in_range rs n))

abbrev pub tolerance_below_zero : Table → Refusal × Bool
tolerance_below_zero t = below_zero_at (lowest_below_zero (tasks_of t.records t.n) (assigned t.records))

-- Reading asks 1, 2, 18, 3 to 11 of the file; 18 asks the plate too, 3 and 4 compare the two, 11 looks into the lent catalogue too
abbrev pub file_asks : List ℕ → ℕ → ℕ → List ℕ → Asks
file_asks f cabinet line catalogue =
    (Short, ltb (length f) shortest) ∷
    (WrongEdition, not (eqb (edition_in f) 1)) ∷
    (BlankPlate, blank (cabinet_in f) (line_in f) || blank cabinet line) ∷
    (WrongCabinet, not (eqb (cabinet_in f) cabinet)) ∷
    (WrongLine, not (eqb (line_in f) line)) ∷
    wrong_counts (tasks_in f) (words_in f) ∷
    (WrongLength, not (eqb (length f) (file_length (tasks_in f) (words_in f)))) ∷
    (WrongSeal, not (sealed f (length f - 2))) ∷
    (SpareBitSet, not (spare_clear f (tasks_in f) (words_in f))) ∷
    out_of_range (records_in f (tasks_in f)) (tasks_in f) ∷
    bad_assignment (records_in f (tasks_in f)) (tasks_in f) ∷
    bad_regions (records_in f (tasks_in f)) (tasks_in f) (region_words f (tasks_in f) (words_in f)) catalogue ∷ []

-- Handing back a record reads the file first, so asks 1, 2, 18, 3 to 11, then 13
abbrev pub record_asks : List ℕ → ℕ → ℕ → List ℕ → ℕ → Asks
record_asks f cabinet line catalogue number = file_asks f cabinet line catalogue ++ (no_such_record number (tasks_in f) ∷ [])

-- Reading asks 1, 2, 18, 3 to 12
abbrev pub read_asks : List ℕ → ℕ → ℕ → List ℕ → ℕ → Asks
read_asks f cabinet line catalogue room = file_asks f cabinet line catalogue ++ (no_room room (words_in f) ∷ [])

-- Writing asks 5, 18, 9, 10, 11, 12; there is no file yet, so 18 asks the plate alone
abbrev pub write_asks : Table → ℕ → ℕ → List ℕ → List ℕ → ℕ → Asks
write_asks t cabinet line own catalogue room =
    wrong_counts t.n (length own) ∷
    (BlankPlate, blank cabinet line) ∷
    (OutOfRange, not (leb cabinet most_cabinet && records_in_range t.records t.n)) ∷
    bad_assignment t.records t.n ∷
    bad_regions t.records t.n own catalogue ∷
    no_room room (file_length t.n (length own)) ∷ []

-- Response times ask 5, 9, 10, 14
abbrev pub times_asks : Table → Asks
times_asks t = wrong_tasks t ∷ out_of_range t.records t.n ∷ bad_assignment t.records t.n ∷ is_unassigned t ∷ []

-- Tolerances ask 5, 9, 10, 14, 15
abbrev pub tolerances_asks : Table → Asks
tolerances_asks t = times_asks t ++ (deadline_above_period t ∷ [])

-- lengths 16 as well
abbrev pub lengths_asks : Table → Asks
lengths_asks t = tolerances_asks t ++ (tolerance_below_zero t ∷ [])

-- the region check 11 too
abbrev pub fit_asks : Table → List ℕ → List ℕ → Asks
fit_asks t own catalogue =
    wrong_counts t.n (length own) ∷
    out_of_range t.records t.n ∷
    bad_assignment t.records t.n ∷
    bad_regions t.records t.n own catalogue ∷
    is_unassigned t ∷
    deadline_above_period t ∷
    tolerance_below_zero t ∷ []

-- Listing asks 5, 9, 12, 17 and ignores the table's own assignment; the first row has no row asked from
abbrev pub first_asks : Table → ℕ → Asks
first_asks t room = wrong_tasks t ∷ out_of_range t.records t.n ∷ no_room room (row_size t.n) ∷ []

abbrev pub next_asks : Table → List ℕ → ℕ → Asks
next_asks t given room = first_asks t room ++ ((BadRow, not (row_holds t.n given)) ∷ [])

-- Of paper/specs/Answers.antt

abbrev pub read_outcome : List ℕ → ℕ → ℕ → List ℕ → ℕ → Outcome
read_outcome f cabinet line catalogue room = first_of (read_asks f cabinet line catalogue room)

abbrev pub reading_of : List ℕ → Reading
reading_of f = record { edition = 1; table = table_in f; words = words_in f }

abbrev pub words_for : Outcome → List ℕ → List ℕ → List ℕ
words_for o f out = when_done o (region_words f (tasks_in f) (words_in f) ++ drop (words_in f) out) out

abbrev pub read_answer : List ℕ → ℕ → ℕ → List ℕ → List ℕ → Result Reading Refusal
read_answer f cabinet line catalogue out = answered (read_outcome f cabinet line catalogue (length out)) (reading_of f)

abbrev pub read_out : List ℕ → ℕ → ℕ → List ℕ → List ℕ → List ℕ
read_out f cabinet line catalogue out = words_for (read_outcome f cabinet line catalogue (length out)) f out

-- Writing: the file's length; and exactly its bytes at the front of the output
abbrev pub write_outcome : Table → ℕ → ℕ → List ℕ → List ℕ → ℕ → Outcome
write_outcome t cabinet line own catalogue room = first_of (write_asks t cabinet line own catalogue room)

abbrev pub file_for : Outcome → Table → ℕ → ℕ → List ℕ → List ℕ → List ℕ
file_for o t cabinet line own out =
    when_done o (file_of t cabinet line own ++ drop (file_length t.n (length own)) out) out

abbrev pub write_answer : Table → ℕ → ℕ → List ℕ → List ℕ → List ℕ → Result ℕ Refusal
write_answer t cabinet line own catalogue out =
    answered (write_outcome t cabinet line own catalogue (length out)) (file_length t.n (length own))

abbrev pub write_out : Table → ℕ → ℕ → List ℕ → List ℕ → List ℕ → List ℕ
write_out t cabinet line own catalogue out =
    file_for (write_outcome t cabinet line own catalogue (length out)) t cabinet line own out

abbrev pub time_of : Table → ℕ → Response
time_of t i =
    with_job (tasks_of t.records t.n) (standing (tasks_of t.records t.n) (assigned t.records) i) i

abbrev pub times_answer : Table → Result (List Response) Refusal
times_answer t = answered (first_of (times_asks t)) (per_task t.n (time_of t) no_time)

abbrev pub tolerances_answer : Table → Result (List ℤ) Refusal
tolerances_answer t =
    answered (first_of (tolerances_asks t)) (per_task t.n (tolerance (tasks_of t.records t.n) (assigned t.records)) (pos 0))

abbrev pub lengths_answer : Table → Result (List ℤ) Refusal
lengths_answer t =
    answered (first_of (lengths_asks t)) (per_task t.n (length_of (tasks_of t.records t.n) (assigned t.records)) (pos 0))

abbrev pub fit_answer : Table → List ℕ → List ℕ → Result Bool Refusal
fit_answer t own catalogue =
    answered (first_of (fit_asks t own catalogue))
    (all_fit t.records (tasks_of t.records t.n) (assigned t.records) own catalogue)

-- The listing: out and out' are what the buffer holds before and after. A row found is its first 2n numbers; the end and a refusal write nothing.
unfoldable pub Lists : Tasks → List ℕ → List ℕ → List ℕ → Result Step Refusal → Type 0
Lists y given out out' (Ok Row) = Next y given (take (row_size y.n) out') × (drop (row_size y.n) out' ≡ drop (row_size y.n) out)
Lists y given out out' (Ok End) = Ended y given × (out' ≡ out)
Lists y given out out' (Err r) = ⊥

unfoldable pub Says : Outcome → Tasks → List ℕ → List ℕ → List ℕ → Result Step Refusal → Type 0
Says (Ok done) y given out out' answer = Lists y given out out' answer
Says (Err r) y given out out' answer = (answer ≡ Err r) × (out' ≡ out)

-- the first of all: from a row that has not begun
unfoldable pub FirstSays : Table → List ℕ → List ℕ → Result Step Refusal → Type 0
FirstSays t out out' answer = Says (first_of (first_asks t (length out))) (tasks_of t.records t.n) [] out out' answer

-- the first strictly after a given row
unfoldable pub NextSays : Table → List ℕ → List ℕ → List ℕ → Result Step Refusal → Type 0
NextSays t given out out' answer = Says (first_of (next_asks t given (length out))) (tasks_of t.records t.n) given out out' answer

abbrev pub record_outcome : List ℕ → ℕ → ℕ → List ℕ → ℕ → Outcome
record_outcome f cabinet line catalogue number = first_of (record_asks f cabinet line catalogue number)

-- the record: of the caller's own file
abbrev pub record_place : List ℕ → ℕ → ℕ → List ℕ → ℕ → Part
record_place f cabinet line catalogue number = part_for (record_outcome f cabinet line catalogue number) (record_part number)

abbrev pub record_bytes : List ℕ → ℕ → ℕ → List ℕ → ℕ → List ℕ
record_bytes f cabinet line catalogue number = part_of (record_place f cabinet line catalogue number) f
