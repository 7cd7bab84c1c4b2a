-- Document 01, "Bench figures": those marked P, as document 02, item 5, changes them, as one table of what is asked and what comes out.
-- The papers' figures would let some wrong rules of items 4, 5 and 8 pass, and have none of item 2. Those marked "ours" stand beside them for that, worked out by hand.
use Rattle.std.specs.Prelude.{ℕ, zero, suc, ◌+◌, ◌-◌, Bool, true, false, ◌&&◌, cond, List, [], ◌∷◌, ◌++◌, map, ℤ, pos, get_or, length, replicate, Option, Some, None, Result, Ok, Err}
use Rattle.paper.specs.Vocabulary.{list_to}
use Rattle.paper.specs.Numbers.{most_tasks, zero_record, assigned}
use Rattle.paper.specs.Analysis.{tasks_of, standing, job, passes}
use Rattle.paper.specs.Rows.{row_size, row_assignment, row_holds}
use Rattle.paper.specs.Refusals.{number_of, record_of}
use Rattle.paper.specs.Answers.{times_answer, tolerances_answer, lengths_answer, fit_answer, points_answer, regions_outcome, last_words, no_time}
use Rattle.paper.specs.declared.Source.TheVariants.{Own, Catalogue}
use Rattle.paper.specs.declared.Record.{Record}
use Rattle.paper.specs.declared.Table.{Table}
use Rattle.paper.specs.declared.Refusal.{Refusal}
use Rattle.paper.specs.declared.Shown.{Shown}
use Rattle.paper.specs.declared.Shown.TheVariants.{NotShown, Passes}

-- what a figure asks; records are numbered from 1
pub data Asked : Type 0 where
  response_of : Table → ℕ → Asked
  worst_of : Table → ℕ → Asked
  passing : Table → Asked
  rows_of : Table → Asked
  tolerance_of : Table → ℕ → Asked
  longest : Table → ℕ → Asked
  fitting : Table → List ℕ → Asked
  points_of : Table → List ℕ → List ℕ → ℕ → Asked
  last_of : Table → List ℕ → List ℕ → ℕ → Asked
  first_finish : Table → ℕ → Asked

-- what comes out; a refusal by its number and, for 16, its record
pub data Came : Type 0 where
  number : ℤ → Came
  beyond : Came
  says : Bool → Came
  rows : List (List ℕ) → Came
  words : List ℕ → Came
  refused : ℕ → ℕ → Came

abbrev pub time_came : Option ℕ → Came
time_came (Some r) = number (pos r)
time_came None = beyond

module _ {A : Type 0} where
  abbrev pub came : Result A Refusal → (A → Came) → Came
  came (Ok a) c = c a
  came (Err r) c = refused (number_of r) (record_of r)

abbrev pub shown_came : Shown → Came
shown_came Passes = says true
shown_came NotShown = says false

unfoldable pub join : List (List (List ℕ)) → List (List ℕ)
join [] = []
join (x ∷ xs) = x ++ join xs

-- every list of `size` numbers from 1 to n, in the order of rows
unfoldable pub numbered : ℕ → ℕ → List (List ℕ)
numbered n zero = [] ∷ []
numbered n (suc size) = join (list_to n (λ d. map (λ (r : List ℕ). suc d ∷ r) (numbered n size)))

-- those that pass a test, in their order
unfoldable pub those : (List ℕ → Bool) → List (List ℕ) → List (List ℕ)
those test [] = []
those test (x ∷ xs) = cond (test x) (x ∷ those test xs) (those test xs)

unfoldable pub passing_rows : Table → List (List ℕ)
passing_rows t =
    those (λ r. row_holds t.n r && passes (tasks_of t.records t.n) (row_assignment t.n r))
    (numbered t.n (row_size t.n))

abbrev pub comes_out : Asked → Came
comes_out (response_of t k) = came (times_answer t) (λ times. time_came (get_or times (k - 1) no_time).time)
comes_out (worst_of t k) = came (times_answer t) (λ times. number (pos (get_or times (k - 1) no_time).job))
comes_out (passing t) = says (passes (tasks_of t.records t.n) (assigned t.records))
comes_out (rows_of t) = rows (passing_rows t)
comes_out (tolerance_of t k) = came (tolerances_answer t) (λ ticks. number (get_or ticks (k - 1) (pos 0)))
comes_out (longest t k) = came (lengths_answer t) (λ ticks. number (get_or ticks (k - 1) (pos 0)))
comes_out (fitting t own) = came (fit_answer t own []) (λ fits. says fits)
comes_out (points_of t own catalogue k) =
    came (points_answer t own catalogue) (λ verdicts. shown_came (get_or verdicts (k - 1) NotShown))
comes_out (last_of t own catalogue k) = came (regions_outcome t own catalogue k) (λ done. words (last_words t own catalogue k))
comes_out (first_finish t k) =
    time_came (job (tasks_of t.records t.n) (standing (tasks_of t.records t.n) (assigned t.records) (k - 1)) (k - 1) 0)

-- cost, period, deadline; priority, threshold; first region, region count
abbrev pub task : ℕ → ℕ → ℕ → ℕ → ℕ → ℕ → ℕ → Record
task c t d p h first count =
    record { cost = c; period = t; deadline = d; priority = p; threshold = h; source = Own; first = first; count = count; name = 0; jitter = 0 }

-- the same with a jitter
abbrev pub late : ℕ → Record → Record
late j r =
    record {
      cost = r.cost;
      period = r.period;
      deadline = r.deadline;
      priority = r.priority;
      threshold = r.threshold;
      source = r.source;
      first = r.first;
      count = r.count;
      name = r.name;
      jitter = j;
    }

-- the same with its regions in the catalogue
abbrev pub listed : Record → Record
listed r =
    record {
      cost = r.cost;
      period = r.period;
      deadline = r.deadline;
      priority = r.priority;
      threshold = r.threshold;
      source = Catalogue;
      first = r.first;
      count = r.count;
      name = r.name;
      jitter = r.jitter;
    }

-- a table of these tasks, the records past them zero
abbrev pub table : List Record → Table
table rs = record { n = length rs; records = rs ++ replicate (most_tasks - length rs) zero_record }

-- A (2,5,d) is record 1, B is (4,10,10), in the order A B. A has threshold 1 and word 0 for its region; B has threshold h and `count` regions from word 1 on.
abbrev pub ab : ℕ → ℕ → ℕ → Table
ab d h count = table (task 2 5 d 1 1 0 1 ∷ task 4 10 10 2 h 1 count ∷ [])

-- (1,10,10), (9,35,35), (52,105,105) from source document 001, that order
abbrev pub three : Table
three = table (task 1 10 10 1 1 0 1 ∷ task 9 35 35 2 2 0 1 ∷ task 52 105 105 3 3 0 1 ∷ [])

-- Table 1 of 002, costs 1 8 10 3, T = D = 7 23 25 33, priorities 1 2 4 3, thresholds 1 2 2 2
abbrev pub table1 : Table
table1 = table (task 1 7 7 1 1 0 1 ∷ task 8 23 23 2 2 0 1 ∷ task 10 25 25 4 2 0 1 ∷ task 3 33 33 3 2 0 1 ∷ [])

-- ours: A (1,4,4), B (1,10,10), C (4,20,20), that order, thresholds 1 1 2: C blocks B
abbrev pub blocked : Table
blocked = table (task 1 4 4 1 1 0 1 ∷ task 1 10 10 2 1 0 1 ∷ task 4 20 20 3 2 0 1 ∷ [])

-- ours: A (1,2,2), B (1,2,2), C (1,10,10), that order, thresholds 1 2 2: A and B leave no tick free, and C blocks B
abbrev pub full : Table
full = table (task 1 2 2 1 1 0 1 ∷ task 1 2 2 2 2 0 1 ∷ task 1 10 10 3 2 0 1 ∷ [])

-- ours: A (3,6,6), B (2,4,6), that order, thresholds 1 2. L(B) = 12; B's jobs finish at 5, 10, 12
abbrev pub later_worst : Table
later_worst = table (task 3 6 6 1 1 0 1 ∷ task 2 4 6 2 2 0 1 ∷ [])

-- ours: A (1,6,6), B (2,4,4), C (2,6,6), that order, thresholds 1 1 1. L(C) = 12; C's jobs finish at 5, 12
abbrev pub last_worst : Table
last_worst = table (task 1 6 6 1 1 0 1 ∷ task 2 4 4 2 1 0 1 ∷ task 2 6 6 3 1 0 1 ∷ [])

-- ours: A (1,3,3), B (1,8,8), C (1,2,3), that order, thresholds 1 1 3. L(C) = 6; C's jobs finish at 3, 5, 6
abbrev pub tied_first : Table
tied_first = table (task 1 3 3 1 1 0 1 ∷ task 1 8 8 2 1 0 1 ∷ task 1 2 3 3 3 0 1 ∷ [])

-- ours: A (1,6,6), B (2,4,4), C (1,3,5), that order, thresholds 1 1 2. L(C) = 12; C's jobs finish at 4, 8, 11, 12
abbrev pub tied_later : Table
tied_later = table (task 1 6 6 1 1 0 1 ∷ task 2 4 4 2 1 0 1 ∷ task 1 3 5 3 2 0 1 ∷ [])

-- ours: A (1,3,3) with jitter j, B (3,8,7) with jitter 1, that order, thresholds 1 2
abbrev pub late_both : ℕ → Table
late_both j = table (late j (task 1 3 3 1 1 0 1) ∷ late 1 (task 3 8 7 2 2 1 1) ∷ [])

-- ours: A (2,6,6) with jitter 3, B (1,2,5) with jitter 1, that order, thresholds 1 1. L(B) = 9; B's jobs finish at 3, 6, 7, 8, 9
abbrev pub late_worst : Table
late_worst = table (late 3 (task 2 6 6 1 1 0 1) ∷ late 1 (task 1 2 5 2 1 0 1) ∷ [])

-- ours: A (8,32,21) below B (14,59,41), B with jitter 50
abbrev pub too_late : Table
too_late = table (task 8 32 21 2 2 0 1 ∷ late 50 (task 14 59 41 1 1 1 1) ∷ [])

-- ours: A (1,2,2) with jitter 1, B (2,5,5), that order, thresholds 1 2
abbrev pub late_above : Table
late_above = table (late 1 (task 1 2 2 1 1 0 1) ∷ task 2 5 5 2 2 1 1 ∷ [])

-- ours: A (1,3,3) with jitter 2, B (1,2,2), that order, thresholds 1 2
abbrev pub late_started : Table
late_started = table (late 2 (task 1 3 3 1 1 0 1) ∷ task 1 2 2 2 2 1 1 ∷ [])

-- ours: A (1,2,1), B (1,3,3) with jitter 1, that order
abbrev pub late_below : Table
late_below = table (task 1 2 1 1 1 0 1 ∷ late 1 (task 1 3 3 2 2 1 1) ∷ [])

-- ours: A (1,2,1) with jitter 1, alone
abbrev pub late_alone : Table
late_alone = table (late 1 (task 1 2 1 1 1 0 1) ∷ [])

-- ours: A (3,10,10) with one region, B (9,40,17) with regions 2+7, C (c,100,100) with one, that order; A has jitter ja, B jitter jb
abbrev pub points : ℕ → ℕ → ℕ → Table
points c ja jb = table (late ja (task 3 10 10 1 1 0 1) ∷ late jb (task 9 40 17 2 2 1 2) ∷ task c 100 100 3 3 3 1 ∷ [])

abbrev pub point_words : ℕ → List ℕ
point_words c = 3 ∷ 2 ∷ 7 ∷ c ∷ []

-- ours: C (7,100,100) is record 1 with regions 1+4+2, A (5,20,20) record 2 with one, B (9,40,d) record 3 with regions 1+6+2, in the order A B C, every threshold 1; those of B and C stand in the catalogue, behind a word that nobody names
abbrev pub mixed : ℕ → Table
mixed d = table (listed (task 7 100 100 3 1 4 3) ∷ task 5 20 20 1 1 0 1 ∷ listed (task 9 40 d 2 1 1 3) ∷ [])

abbrev pub mixed_words : List ℕ
mixed_words = 9 ∷ 1 ∷ 6 ∷ 2 ∷ 1 ∷ 4 ∷ 2 ∷ []

-- ours: A (2,5,2) alone, with one region
abbrev pub no_point : Table
no_point = table (task 2 5 2 1 1 0 1 ∷ [])

pub record Figure : Type 0 where
  pub asked : Asked
  pub comes : Came

abbrev pub ◌gives◌ : Asked → Came → Figure
◌gives◌ q a = record { asked = q; comes = a }

infixl 25 ◌gives◌
abbrev pub figures : List Figure
figures =
    -- A (2,5,5), order A B, thresholds 1 2: R = 2 and 8
    (response_of (ab 5 2 1) 1 gives number (pos 2)) ∷
    (response_of (ab 5 2 1) 2 gives number (pos 8)) ∷
    -- the same, thresholds 1 1: R(A) = 5, R(B) = 6; passes
    (response_of (ab 5 1 1) 1 gives number (pos 5)) ∷
    (response_of (ab 5 1 1) 2 gives number (pos 6)) ∷
    (passing (ab 5 1 1) gives says true) ∷
    -- A (2,5,5): its list has two rows, 1 2 1 1 and 1 2 1 2
    (rows_of (ab 5 2 1) gives rows ((1 ∷ 2 ∷ 1 ∷ 1 ∷ []) ∷ (1 ∷ 2 ∷ 1 ∷ 2 ∷ []) ∷ [])) ∷
    -- A (2,5,1): no row passes
    (rows_of (ab 1 2 1) gives rows []) ∷
    -- A (2,5,5), order A B: tolerances 3 and 2, lengths 2 and 4
    (tolerance_of (ab 5 2 1) 1 gives number (pos 3)) ∷
    (tolerance_of (ab 5 2 1) 2 gives number (pos 2)) ∷
    (longest (ab 5 2 1) 1 gives number (pos 2)) ∷
    (longest (ab 5 2 1) 2 gives number (pos 4)) ∷
    -- Regions 3+1 for B fit, and so does 4
    (fitting (ab 5 2 2) (2 ∷ 3 ∷ 1 ∷ []) gives says true) ∷
    (fitting (ab 5 2 1) (2 ∷ 4 ∷ []) gives says true) ∷
    -- A (2,5,2): length of B is 1. A (2,5,1): refusal 16, record 1
    (longest (ab 2 2 1) 2 gives number (pos 1)) ∷
    (longest (ab 1 2 1) 2 gives refused 16 1) ∷
    -- ours: with A (2,5,2) regions 1+1+1+1 for B fit; 1+2+1 don't
    (fitting (ab 2 2 4) (2 ∷ 1 ∷ 1 ∷ 1 ∷ 1 ∷ []) gives says true) ∷
    (fitting (ab 2 2 3) (2 ∷ 1 ∷ 2 ∷ 1 ∷ []) gives says false) ∷
    -- source document 001: first two tolerances 9 and 22; third length 10
    (tolerance_of three 1 gives number (pos 9)) ∷
    (tolerance_of three 2 gives number (pos 22)) ∷
    (longest three 3 gives number (pos 10)) ∷
    -- Table 1 of 002: first jobs finish at 1, 20, 25, 24
    (first_finish table1 1 gives number (pos 1)) ∷
    (first_finish table1 2 gives number (pos 20)) ∷
    (first_finish table1 3 gives number (pos 25)) ∷
    (first_finish table1 4 gives number (pos 24)) ∷
    -- ours, the 1 + floor form where something blocks: behind 3 ticks of C and one of A, B would start at 4, but A arrives there. B starts at 5, and R(B) = 6
    (response_of blocked 2 gives number (pos 6)) ∷
    -- ours, a blocker of cost 1: it blocks for no tick. B starts at 1, between two jobs of A, and R(B) = 2; a tick more in L, and B is beyond
    (response_of full 2 gives number (pos 2)) ∷
    -- ours, a later job is the worst: B's differences are 5, 6, 4, so R(B) = 6, by job 1
    (response_of later_worst 2 gives number (pos 6)) ∷
    (worst_of later_worst 2 gives number (pos 1)) ∷
    -- ours, the last of all is: C's differences are 5, 6, so R(C) = 6, by job 1
    (response_of last_worst 3 gives number (pos 6)) ∷
    (worst_of last_worst 3 gives number (pos 1)) ∷
    -- ours, two reach the same value: C's differences are 3, 3, 2, so R(C) = 3, by job 0; and 4, 5, 5, 3, so R(C) = 5, by job 1
    (response_of tied_first 3 gives number (pos 3)) ∷
    (worst_of tied_first 3 gives number (pos 0)) ∷
    (response_of tied_later 3 gives number (pos 5)) ∷
    (worst_of tied_later 3 gives number (pos 1)) ∷
    -- ours, jitter of A 2: A finishes at 1, so R(A) = 3. B would start at 1, but A comes again there: it starts at 2. A comes once more at 4, so B finishes at 6, and R(B) = 7
    (response_of (late_both 2) 1 gives number (pos 3)) ∷
    (response_of (late_both 2) 2 gives number (pos 7)) ∷
    -- for A t is 1 alone, and its tolerance 0. For B t goes up to 6, by when A has come three times: 6 − 3 − 3 = 0. Lengths 1 and 1
    (tolerance_of (late_both 2) 1 gives number (pos 0)) ∷
    (tolerance_of (late_both 2) 2 gives number (pos 0)) ∷
    (longest (late_both 2) 1 gives number (pos 1)) ∷
    (longest (late_both 2) 2 gives number (pos 1)) ∷
    -- a jitter of A's whole period is refusal 9
    (response_of (late_both 3) 1 gives refused 9 0) ∷
    (passing (late_both 2) gives says true) ∷
    -- ours, a later job is the worst: B's differences are 4, 5, 4, 3, 2, so R(B) = 5, by job 1
    (response_of late_worst 2 gives number (pos 5)) ∷
    (worst_of late_worst 2 gives number (pos 1)) ∷
    -- ours, no t for B, and A's tolerance below zero: tolerances name B, lengths and the region check A
    (tolerance_of too_late 1 gives refused 16 2) ∷
    (longest too_late 1 gives refused 16 1) ∷
    (fitting too_late (8 ∷ 14 ∷ []) gives refused 16 1) ∷
    -- ours, B starts at 2, behind two jobs of A, and the third comes at 3: F = R = 5
    (response_of late_above 2 gives number (pos 5)) ∷
    -- ours, B starts at 2, behind two jobs of A, and no third comes by 3: F = R = 3
    (response_of late_started 2 gives number (pos 3)) ∷
    -- ours, for B t goes up to 2, by when A, which is in time, has come once: 2 − 1 − 1 = 0
    (tolerance_of late_below 2 gives number (pos 0)) ∷
    -- ours, a jitter of the whole deadline leaves no t
    (tolerance_of late_alone 1 gives refused 16 1) ∷
    -- ours, fixed preemption points. For A t goes up to 7, and alpha is 7, of B. For B t goes up to 10, and before 10 A has come once: 2 + 3 + 5 = 10, so alpha 5, of C, passes. C is the lowest. By the region check C's region doesn't fit: its length is 3
    (points_of (points 5 0 0) (point_words 5) [] 1 gives says true) ∷
    (points_of (points 5 0 0) (point_words 5) [] 2 gives says true) ∷
    (points_of (points 5 0 0) (point_words 5) [] 3 gives says true) ∷
    (fitting (points 5 0 0) (point_words 5) gives says false) ∷
    (longest (points 5 0 0) 3 gives number (pos 3)) ∷
    -- ours, the last region of B is its second word
    (last_of (points 5 0 0) (point_words 5) [] 2 gives words (7 ∷ [])) ∷
    -- ours, a tick more, and B isn't shown: all before its last region is done by 14, from where that would end past the deadline
    (points_of (points 6 0 0) (point_words 6) [] 2 gives says false) ∷
    -- ours, alpha is of all lower tasks: with C's region 8 that of A is 8, more than 7; with jitter of A 1 t goes up to 6, and alpha is 7, of B
    (points_of (points 8 0 0) (point_words 8) [] 1 gives says false) ∷
    (points_of (points 5 1 0) (point_words 5) [] 1 gives says false) ∷
    -- ours, jitter of A 2: it comes again at 8. For B 2 + 3 + 3 = 8 passes, and with 4 nothing does
    (points_of (points 3 2 0) (point_words 3) [] 2 gives says true) ∷
    (points_of (points 4 2 0) (point_words 4) [] 2 gives says false) ∷
    -- ours, jitter of B 1: t goes up to 9. 2 + 3 + 4 = 9 passes, and with 5 nothing does
    (points_of (points 4 0 1) (point_words 4) [] 2 gives says true) ∷
    (points_of (points 5 0 1) (point_words 5) [] 2 gives says false) ∷
    -- ours, for B alpha is 4, the second region of C, and t goes up to d − 2: 7 + 5 + 4 = 16 passes where d is 18, and not where it is 17
    (points_of (mixed 18) (5 ∷ []) mixed_words 3 gives says true) ∷
    (points_of (mixed 17) (5 ∷ []) mixed_words 3 gives says false) ∷
    (last_of (mixed 17) (5 ∷ []) mixed_words 3 gives words (2 ∷ [])) ∷
    -- ours, a task that is alone passes with no t at all
    (points_of no_point (2 ∷ []) [] 1 gives says true) ∷
    -- ours, the region check's refusals, and the regions': of B's region, too short for its cost, the last region of A doesn't ask
    (points_of (ab 1 2 1) (2 ∷ 4 ∷ []) [] 1 gives refused 16 1) ∷
    (points_of (ab 1 2 1) (2 ∷ 3 ∷ []) [] 1 gives refused 11 0) ∷
    (last_of (ab 1 2 1) (2 ∷ 3 ∷ []) [] 1 gives words (2 ∷ [])) ∷
    (last_of (ab 1 2 1) (2 ∷ 3 ∷ []) [] 2 gives refused 11 0) ∷
    (last_of (ab 1 2 1) (2 ∷ 3 ∷ []) [] 3 gives refused 13 0) ∷ []
