-- Document 01, "Numbers a turned-away call returns", with what document 02 adds to it, 18 (item 1), 19 and more of 9 and 16 (item 8), 2 and 6 of both editions (item 9): for each call the numbers it asks, in the order asked. The two calls of item 2 ask what others ask.
use Rattle.std.specs.Prelude.{ℕ, ◌+◌, ◌-◌, Bool, not, ◌&&◌, ◌||◌, cond, List, [], ◌∷◌, ◌++◌, leb, ltb, eqb, length, Result, Ok, Err}
use Rattle.paper.specs.Vocabulary.{every}
use Rattle.paper.specs.Numbers.{rec, tasks_in_range, counts_in_range, records_in_range, most_cabinet, most_name, any_jitter, assigned, unassigned, assignment_holds}
use Rattle.paper.specs.File.{is_edition, edition_in, cabinet_in, line_in, tasks_in, words_in, shortest, file_length, sealed, spare_clear, table_in, own_words}
use Rattle.paper.specs.Regions.{record_regions_hold, all_regions_hold, name_width, name_list, name_start}
use Rattle.paper.specs.Analysis.{tasks_of}
use Rattle.paper.specs.Lengths.{lowest_no_instant, lowest_below_zero}
use Rattle.paper.specs.Rows.{row_size, row_holds}
use Rattle.paper.specs.declared.Record.{Record}
use Rattle.paper.specs.declared.Table.{Table}
use Rattle.paper.specs.declared.Refusal.{Refusal}
use Rattle.paper.specs.declared.Refusal.TheVariants.{Short, WrongEdition, WrongCabinet, WrongLine, WrongCounts, WrongLength, WrongSeal, SpareBitSet, OutOfRange, BadAssignment, BadRegions, NoRoom, NoSuchPart, Unassigned, DeadlineAbovePeriod, ToleranceBelowZero, BadRow, BlankPlate, JitterInEditionOne}

-- the paper's number of each refusal, and for 16 the record that it names (0 for the others)
abbrev pub number_of : Refusal → ℕ
number_of Short = 1
number_of WrongEdition = 2
number_of WrongCabinet = 3
number_of WrongLine = 4
number_of WrongCounts = 5
number_of WrongLength = 6
number_of WrongSeal = 7
number_of SpareBitSet = 8
number_of OutOfRange = 9
number_of BadAssignment = 10
number_of BadRegions = 11
number_of NoRoom = 12
number_of NoSuchPart = 13
number_of Unassigned = 14
number_of DeadlineAbovePeriod = 15
number_of (ToleranceBelowZero k) = 16
number_of BadRow = 17
number_of BlankPlate = 18
number_of JitterInEditionOne = 19

abbrev pub record_of : Refusal → ℕ
record_of Short = 0
record_of WrongEdition = 0
record_of WrongCabinet = 0
record_of WrongLine = 0
record_of WrongCounts = 0
record_of WrongLength = 0
record_of WrongSeal = 0
record_of SpareBitSet = 0
record_of OutOfRange = 0
record_of BadAssignment = 0
record_of BadRegions = 0
record_of NoRoom = 0
record_of NoSuchPart = 0
record_of Unassigned = 0
record_of DeadlineAbovePeriod = 0
record_of (ToleranceBelowZero k) = k
record_of BadRow = 0
record_of BlankPlate = 0
record_of JitterInEditionOne = 0

-- A call is done, or turned away with one refusal
abbrev pub Outcome : Type 0
Outcome = Result (Unit {0}) Refusal

abbrev pub Asks : Type 0
Asks = List (Refusal × Bool)

-- Each list stands in the order asked, and its first ask that applies is the refusal. Where the order rises that is the rule of document 01: the lowest applicable number wins.
-- It rises but for the regions of a record and the last of them (5, 13, 11), and but for two exceptions of document 02: 18 (item 1), asked straight after 2 when reading, straight after 5 when writing,
-- and 19 (item 8), asked between 11 and 12 when writing.
abbrev pub first_of : Asks → Outcome
first_of [] = Ok tt
first_of (ask ∷ asks) = cond ask.1 (Err ask.0) (first_of asks)

-- an edition but 1 and 2, of a file or told to the writer
abbrev pub wrong_edition : ℕ → Refusal × Bool
wrong_edition e = (WrongEdition, not (is_edition e))

-- n or m outside its range; a call that is lent no region words asks it of n alone
abbrev pub wrong_tasks : Table → Refusal × Bool
wrong_tasks t = (WrongCounts, not (tasks_in_range t.n))

abbrev pub wrong_counts : ℕ → ℕ → Refusal × Bool
wrong_counts n m = (WrongCounts, not (counts_in_range n m))

-- cabinet 0 or line 0 (document 02, item 1)
abbrev pub blank : ℕ → ℕ → Bool
blank cabinet line = eqb cabinet 0 || eqb line 0

-- C, T, D, name number or J outside its range; writing asks the cabinet's range with it
abbrev pub out_of_range : List Record → ℕ → Refusal × Bool
out_of_range rs n = (OutOfRange, not (records_in_range rs n))

-- priorities and thresholds neither all zero nor well formed
abbrev pub bad_assignment : List Record → ℕ → Refusal × Bool
bad_assignment rs n = (BadAssignment, not (assignment_holds rs n))

-- a region word or a task's regions break the rules
abbrev pub bad_regions : List Record → ℕ → List ℕ → List ℕ → Refusal × Bool
bad_regions rs n own catalogue = (BadRegions, not (all_regions_hold rs n own catalogue))

-- the output is shorter than what would be written
abbrev pub no_room : ℕ → ℕ → Refusal × Bool
no_room room size = (NoRoom, ltb room size)

-- no such record
abbrev pub no_such_record : ℕ → ℕ → Refusal × Bool
no_such_record number n = (NoSuchPart, not (leb 1 number && leb number n))

-- table is unassigned
abbrev pub is_unassigned : Table → Refusal × Bool
is_unassigned t = (Unassigned, unassigned t.records t.n)

-- a deadline above its period
abbrev pub deadline_above_period : Table → Refusal × Bool
deadline_above_period t = (DeadlineAbovePeriod, not (every t.n (λ k. leb (rec t.records k).deadline (rec t.records k).period)))

-- 16 names the lowest record of which it is so; none has the number 0
abbrev pub below_zero_at : ℕ → Refusal × Bool
below_zero_at record' = (ToleranceBelowZero record', ltb 0 record')

-- there is no t that its tolerance could be taken over
abbrev pub tolerance_over_none : Table → Refusal × Bool
tolerance_over_none t = below_zero_at (lowest_no_instant (tasks_of t.records t.n))

-- that, or its tolerance is below zero
abbrev pub tolerance_below_zero : Table → Refusal × Bool
tolerance_below_zero t = below_zero_at (lowest_below_zero (tasks_of t.records t.n) (assigned t.records))

-- Of a file reading and handing back a record ask 1, 2, 18, 3 to 11; 18 asks the plate too, 3 and 4 compare the two, 11 looks into the lent catalogue too
abbrev pub file_asks : List ℕ → ℕ → ℕ → List ℕ → Asks
file_asks f cabinet line catalogue =
    (Short, ltb (length f) shortest) ∷
    wrong_edition (edition_in f) ∷
    (BlankPlate, blank (cabinet_in f) (line_in f) || blank cabinet line) ∷
    (WrongCabinet, not (eqb (cabinet_in f) cabinet)) ∷
    (WrongLine, not (eqb (line_in f) line)) ∷
    wrong_counts (tasks_in f) (words_in f) ∷
    (WrongLength, not (eqb (length f) (file_length (edition_in f) (tasks_in f) (words_in f)))) ∷
    (WrongSeal, not (sealed f (length f - 2))) ∷
    (SpareBitSet, not (spare_clear f (edition_in f) (tasks_in f) (words_in f))) ∷
    out_of_range (table_in f).records (tasks_in f) ∷
    bad_assignment (table_in f).records (tasks_in f) ∷
    bad_regions (table_in f).records (tasks_in f) (own_words f) catalogue ∷ []

-- Handing back a record reads the file first, so asks 1, 2, 18, 3 to 11, then 13
abbrev pub record_asks : List ℕ → ℕ → ℕ → List ℕ → ℕ → Asks
record_asks f cabinet line catalogue number = file_asks f cabinet line catalogue ++ (no_such_record number (tasks_in f) ∷ [])

-- Reading asks 1, 2, 18, 3 to 12
abbrev pub read_asks : List ℕ → ℕ → ℕ → List ℕ → ℕ → Asks
read_asks f cabinet line catalogue room = file_asks f cabinet line catalogue ++ (no_room room (words_in f) ∷ [])

-- Writing asks 2 of the edition that it is told, then 5, 18, 9, 10, 11, 19, 12; there is no file yet, so 18 asks the plate alone. 19 is asked of edition 1 alone, which has no place for a J
abbrev pub write_asks : ℕ → Table → ℕ → ℕ → List ℕ → List ℕ → ℕ → Asks
write_asks e t cabinet line own catalogue room =
    wrong_edition e ∷
    wrong_counts t.n (length own) ∷
    (BlankPlate, blank cabinet line) ∷
    (OutOfRange, not (leb cabinet most_cabinet && records_in_range t.records t.n)) ∷
    bad_assignment t.records t.n ∷
    bad_regions t.records t.n own catalogue ∷
    (JitterInEditionOne, eqb e 1 && any_jitter t.records t.n) ∷
    no_room room (file_length e t.n (length own)) ∷ []

-- Response times ask 5, 9, 10, 14
abbrev pub times_asks : Table → Asks
times_asks t = wrong_tasks t ∷ out_of_range t.records t.n ∷ bad_assignment t.records t.n ∷ is_unassigned t ∷ []

-- Tolerances ask 5, 9, 10, 14, 15, and 16 where there is no t: a tolerance below zero is a number
abbrev pub tolerances_asks : Table → Asks
tolerances_asks t = times_asks t ++ (deadline_above_period t ∷ tolerance_over_none t ∷ [])

-- lengths 16 of both
abbrev pub lengths_asks : Table → Asks
lengths_asks t = times_asks t ++ (deadline_above_period t ∷ tolerance_below_zero t ∷ [])

-- the region check 11 too, and the test of fixed preemption points what it asks
abbrev pub fit_asks : Table → List ℕ → List ℕ → Asks
fit_asks t own catalogue =
    wrong_counts t.n (length own) ∷
    out_of_range t.records t.n ∷
    bad_assignment t.records t.n ∷
    bad_regions t.records t.n own catalogue ∷
    is_unassigned t ∷
    deadline_above_period t ∷
    tolerance_below_zero t ∷ []

-- Listing asks 5, 9, 12, 17 and ignores the table's own assignment; the first row has no row asked from
abbrev pub first_asks : Table → ℕ → Asks
first_asks t room = wrong_tasks t ∷ out_of_range t.records t.n ∷ no_room room (row_size t.n) ∷ []

abbrev pub next_asks : Table → List ℕ → ℕ → Asks
next_asks t given room = first_asks t room ++ ((BadRow, not (row_holds t.n given)) ∷ [])

-- regions, and the last of them, ask 5, 13, then 11 for that record alone
abbrev pub regions_asks : Table → List ℕ → List ℕ → ℕ → Asks
regions_asks t own catalogue number =
    wrong_counts t.n (length own) ∷
    no_such_record number t.n ∷
    (BadRegions, not (record_regions_hold own catalogue (rec t.records (number - 1)))) ∷ []

-- a name, asked by its number, 9 (above 127), then 13 (the name list ends before the entry does)
abbrev pub name_asks : ℕ → List ℕ → List ℕ → Asks
name_asks number cabinet house =
    (OutOfRange, ltb most_name number) ∷
    (NoSuchPart, ltb (length (name_list number cabinet house)) (name_start number + name_width)) ∷ []
