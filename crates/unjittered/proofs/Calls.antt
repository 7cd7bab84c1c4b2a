-- With every J at 0 all earlier answers stand (document 02, item 8), and what was signed off for edition 1 stands (item 9): a theorem for each call that J or edition 2 has entered. Each answers what it answered by the definitions as they stood before (`Before`), refusals and lent memory included.
-- A record's regions and a name are not here: of what they ask and answer items 8 and 9 left every word alone.
use Rattle.std.proofs.Common.{Result, Ok, Err}
use Prim.Native.Nat.{ℕ, ◌≤◌, ◌<◌}
use mathlib.Core.Path.{◌≡◌, refl, ap, ap₂, sym, ◌∙◌}
use mathlib.Core.Bool.{Bool, true, false, not, ◌&&◌, cond}
use mathlib.Core.List.{List, [], ◌∷◌, ◌++◌}
use mathlib.Core.Logic.{◌↔◌}
use borrow.Author.Tests.{lt-ltb, eqb-true, ne_eqb, not-false}
use lib.Dec.{leb, ltb, eqb}
use lib.ListN.{length, drop}
use lib.IntN.{pos}
use Rattle.paper.specs.Numbers.{most_name, most_cabinet, rec, zero_record, ticks_in_range, record_in_range, records_in_range, any_jitter, Assignment, assigned}
use Rattle.paper.specs.File.{edition_in, tasks_in, words_in}
use Rattle.paper.specs.Regions.{part_of}
use Rattle.paper.specs.Analysis.{Tasks, tasks_of, standing}
use Rattle.paper.specs.Rows.{row_assignment, Passing, Ended}
use Rattle.paper.specs.Refusals.{Asks, Outcome, first_of, blank, tolerance_over_none, wrong_tasks, wrong_counts, bad_assignment, bad_regions, no_room, no_such_record, is_unassigned, deadline_above_period, below_zero_at, file_asks, times_asks, tolerances_asks, lengths_asks, fit_asks}
use Rattle.paper.specs.Answers.{answered, when_done, no_time, part_for, reading_of, read_outcome, read_answer, read_out, write_outcome, write_answer, write_out, times_answer, tolerances_answer, lengths_answer, fit_answer, Lists, Says, FirstSays, NextSays, record_outcome, record_place, record_bytes}
use Rattle.paper.specs.declared.Record.{Record}
use Rattle.paper.specs.declared.Table.{Table}
use Rattle.paper.specs.declared.Refusal.{Refusal}
use Rattle.paper.specs.declared.Refusal.TheVariants.{OutOfRange, BlankPlate, JitterInEditionOne}
use Rattle.paper.specs.declared.Step.{Step}
use Rattle.paper.specs.declared.Step.TheVariants.{Row, End}
use Rattle.paper.proofs.Tests.{every_says, within}
use Rattle.paper.proofs.Asks.{done_none}
use Rattle.paper.proofs.Jitters.{all_still}
use Rattle.laws.proofs.Every.{every_same}
use Rattle.laws.proofs.Lists.{per_task_same, per_task_at}
use Rattle.columns.proofs.Tables.{record_says}
use Rattle.unjittered.proofs.Before as Was
use Rattle.unjittered.proofs.Editions.{edition_stands, file_length_stands, record_part_stands, records_in_stand, region_words_stand, spare_clear_stands, file_stands}
use Rattle.unjittered.proofs.Stands.{with_job_stands, passes_stand, tolerance_stands, length_stands, fit_stands, none_stands, lowest_stands}

-- the range of J asks nothing where J is 0: a period in range is above 0
range_stands : (r : Record) → r.jitter ≡ 0 → record_in_range r ≡ Was.record_in_range r
range_stands r e = go (ticks_in_range r.period) refl
  where
    last : (n : Bool) → ticks_in_range r.period ≡ true → (n && ltb r.jitter r.period) ≡ n
    last n p = let l = (within 1 _ r.period p).0 in rw (e, lt-ltb 0 r.period l) (kept n)
      where
        kept : (n : Bool) → (n && true) ≡ n
        kept true = refl
        kept false = refl

    go : (p : Bool) → ticks_in_range r.period ≡ p
        → (ticks_in_range r.cost && (p && (ticks_in_range r.deadline && (leb r.name most_name && ltb r.jitter r.period))))
        ≡ (ticks_in_range r.cost && (p && (ticks_in_range r.deadline && leb r.name most_name)))
    go true p = ap (λ n. ticks_in_range r.cost && (ticks_in_range r.deadline && n)) (last (leb r.name most_name) p)
    go false p = refl

ranges_stand : (rs : List Record) (n : ℕ) → ((k : ℕ) → k < n → (rec rs k).jitter ≡ 0) → records_in_range rs n ≡ Was.records_in_range rs n
ranges_stand rs n still = every_same n _ _ (λ k l. range_stands (rec rs k) (still k l))

-- what is asked behind the ranges is asked of records in range alone
behind : (w b : Bool) (r s : Refusal) (x z : Outcome) → (b ≡ true → x ≡ z)
    → cond w (Err r) (cond (not b) (Err s) x) ≡ cond w (Err r) (cond (not b) (Err s) z)
behind true b r s x z h = refl
behind false true r s x z h = h refl
behind false false r s x z h = refl

-- Reading, and handing back a record: whatever the file, if it doesn't say edition 2
module _ (f : List ℕ) (other : edition_in f ≡ 2 → ⊥) (cabinet line : ℕ) (catalogue : List ℕ) where
  abbrev e : ℕ
  e = edition_in f

  abbrev n : ℕ
  n = tasks_in f

  abbrev m : ℕ
  m = words_in f

  not_2 : eqb e 2 ≡ false
  not_2 = ne_eqb e 2 other

  -- such a file reads as J = 0
  file_range : records_in_range (Was.records_in f n) n ≡ Was.records_in_range (Was.records_in f n) n
  file_range = ranges_stand (Was.records_in f n) n (λ k l. ap (λ (r : Record). r.jitter) (per_task_at n (Was.record_in f) zero_record zero_record k l))

  asks_stand : file_asks f cabinet line catalogue ≡ Was.file_asks f cabinet line catalogue
  asks_stand = rw (
    edition_stands e not_2,
    file_length_stands e not_2 n m,
    spare_clear_stands e not_2 f n m,
    records_in_stand e not_2 f n,
    region_words_stand e not_2 f n m,
    file_range,
  )

  -- a file that is read is of edition 1
  reading_stands : (o : Outcome) → (o ≡ Ok tt → e ≡ 1) → answered o (reading_of f) ≡ answered o (Was.reading_of f)
  reading_stands (Ok done) one = ap₂ (λ v rs. Ok (record { edition = v; table = record { n = n; records = rs }; words = m })) (one refl) (records_in_stand e not_2 f n)
  reading_stands (Err r) one = refl

  pub read_stands : (out : List ℕ) → (read_answer f cabinet line catalogue out ≡ Was.read_answer f cabinet line catalogue out)
      × (read_out f cabinet line catalogue out ≡ Was.read_out f cabinet line catalogue out)
  read_stands out = (
    ap (λ o. answered o (reading_of f)) same ∙ reading_stands (Was.read_outcome f cabinet line catalogue (length out)) one,
    ap₂ (λ o ws. when_done o (ws ++ drop m out) out) same (region_words_stand e not_2 f n m),
  )
    where
      same : read_outcome f cabinet line catalogue (length out) ≡ Was.read_outcome f cabinet line catalogue (length out)
      same = ap (λ asks. first_of (asks ++ (no_room (length out) m ∷ []))) asks_stand

      one : Was.read_outcome f cabinet line catalogue (length out) ≡ Ok tt → e ≡ 1
      one done = eqb-true e 1 (not-false _ (done_none (Was.read_asks f cabinet line catalogue (length out)) done).1.0)

  pub record_stands : (number : ℕ) → (record_outcome f cabinet line catalogue number ≡ Was.record_outcome f cabinet line catalogue number)
      × (record_place f cabinet line catalogue number ≡ Was.record_place f cabinet line catalogue number)
      × (record_bytes f cabinet line catalogue number ≡ Was.record_bytes f cabinet line catalogue number)
  record_stands number = (same, place, ap (λ p. part_of p f) place)
    where
      same : record_outcome f cabinet line catalogue number ≡ Was.record_outcome f cabinet line catalogue number
      same = ap (λ asks. first_of (asks ++ (no_such_record number n ∷ []))) asks_stand

      place : record_place f cabinet line catalogue number ≡ Was.record_place f cabinet line catalogue number
      place = ap₂ part_for same (record_part_stands e not_2 number)

-- Writing told edition 1, whatever the table: asked is what item 8 asked, 19 between 11 and 12 (this list stands in `write_asks` behind 2), and the file is as it was
abbrev pub jitter_asks : Table → ℕ → ℕ → List ℕ → List ℕ → ℕ → Asks
jitter_asks t cabinet line own catalogue room =
    wrong_counts t.n (length own) ∷
    (BlankPlate, blank cabinet line) ∷
    (OutOfRange, not (leb cabinet most_cabinet && records_in_range t.records t.n)) ∷
    bad_assignment t.records t.n ∷
    bad_regions t.records t.n own catalogue ∷
    (JitterInEditionOne, any_jitter t.records t.n) ∷
    no_room room (Was.file_length t.n (length own)) ∷ []

pub told_one_stands : (t : Table) (cabinet line : ℕ) (own catalogue out : List ℕ) → let o = first_of (jitter_asks t cabinet line own catalogue (length out)) in
    (write_answer 1 t cabinet line own catalogue out ≡ answered o (Was.file_length t.n (length own)))
    × (write_out 1 t cabinet line own catalogue out ≡ Was.file_for o t cabinet line own out)
told_one_stands t cabinet line own catalogue out =
    let o = first_of (jitter_asks t cabinet line own catalogue (length out)) in
    (refl, ap (λ (file : List ℕ). when_done o (file ++ drop (Was.file_length t.n (length own)) out) out) (file_stands t cabinet line own))

-- The calls on a table of which each J is 0
module _ (t : Table) (still : (k : ℕ) → k < t.n → (rec t.records k).jitter ≡ 0) where
  abbrev y : Tasks
  y = tasks_of t.records t.n

  abbrev a : Assignment
  a = assigned t.records

  range : records_in_range t.records t.n ≡ Was.records_in_range t.records t.n
  range = ranges_stand t.records t.n still

  due : records_in_range t.records t.n ≡ true → (k : ℕ) → k < t.n → 1 ≤ y.d k
  due e k l = (record_says (rec t.records k) (every_says t.n _ e k l)).deadlines.0

  -- the first two asks of a call on a table, and what it asks behind them
  ranged : (first : Refusal × Bool) (x z : Outcome) → (((k : ℕ) → k < t.n → 1 ≤ y.d k) → x ≡ z)
      → cond first.1 (Err first.0) (cond (not (records_in_range t.records t.n)) (Err OutOfRange) x)
      ≡ cond first.1 (Err first.0) (cond (not (Was.records_in_range t.records t.n)) (Err OutOfRange) z)
  ranged first x z h =
      behind first.1 (records_in_range t.records t.n) first.0 OutOfRange x z (λ e. h (due e))
      ∙ ap (λ b. cond first.1 (Err first.0) (cond (not b) (Err OutOfRange) z)) range

  none : any_jitter t.records t.n ≡ false
  none = all_still t.records t.n still

  -- writing told edition 1, the one that was written without being told
  pub write_stands : (cabinet line : ℕ) (own catalogue out : List ℕ) → (write_answer 1 t cabinet line own catalogue out ≡ Was.write_answer t cabinet line own catalogue out)
      × (write_out 1 t cabinet line own catalogue out ≡ Was.write_out t cabinet line own catalogue out)
  write_stands cabinet line own catalogue out = (
    ap (λ o. answered o (Was.file_length t.n (length own))) same,
    ap₂ (λ o file. when_done o (file ++ drop (Was.file_length t.n (length own)) out) out) same (file_stands t cabinet line own),
  )
    where
      same : write_outcome 1 t cabinet line own catalogue (length out) ≡ Was.write_outcome t cabinet line own catalogue (length out)
      same = rw (range, none)

  -- response times, with their jobs
  pub times_stand : times_answer t ≡ Was.times_answer t
  times_stand = ap₂ answered outcome (per_task_same t.n _ _ no_time (λ i l. with_job_stands y still (standing y a i) i l))
    where
      outcome : first_of (times_asks t) ≡ first_of (Was.times_asks t)
      outcome = rw range

  pub tolerances_stand : tolerances_answer t ≡ Was.tolerances_answer t
  tolerances_stand = ap₂ answered outcome (per_task_same t.n _ _ (pos 0) (tolerance_stands y still a))
    where
      outcome : first_of (tolerances_asks t) ≡ first_of (Was.tolerances_asks t)
      outcome = ranged (wrong_tasks t) (tail (tolerance_over_none t ∷ [])) (tail []) (λ d. rw (none_stands y still a d))
        where
          tail : Asks → Outcome
          tail asks = first_of (bad_assignment t.records t.n ∷ is_unassigned t ∷ deadline_above_period t ∷ asks)

  pub lengths_stand : lengths_answer t ≡ Was.lengths_answer t
  lengths_stand = ap₂ answered outcome (per_task_same t.n _ _ (pos 0) (λ k _. length_stands y still a k))
    where
      outcome : first_of (lengths_asks t) ≡ first_of (Was.lengths_asks t)
      outcome = ranged (wrong_tasks t) _ _ (λ d. ap tail (lowest_stands y still a d))
        where
          tail : ℕ → Outcome
          tail low = first_of (bad_assignment t.records t.n ∷ is_unassigned t ∷ deadline_above_period t ∷ below_zero_at low ∷ [])

  pub region_check_stands : (own catalogue : List ℕ) → fit_answer t own catalogue ≡ Was.fit_answer t own catalogue
  region_check_stands own catalogue = ap₂ answered outcome (fit_stands y still a t.records own catalogue)
    where
      outcome : first_of (fit_asks t own catalogue) ≡ first_of (Was.fit_asks t own catalogue)
      outcome = ranged (wrong_counts t.n (length own)) _ _ (λ d. ap tail (lowest_stands y still a d))
        where
          tail : ℕ → Outcome
          tail low = first_of (bad_assignment t.records t.n ∷ bad_regions t.records t.n own catalogue ∷ is_unassigned t ∷ deadline_above_period t ∷ below_zero_at low ∷ [])

  -- the listing
  was_passing : (row : List ℕ) → Passing y row → Was.Passing y row
  was_passing row p = record { form = p.form; pass = sym (passes_stand y still (row_assignment t.n row)) ∙ p.pass }

  is_passing : (row : List ℕ) → Was.Passing y row → Passing y row
  is_passing row p = record { form = p.form; pass = passes_stand y still (row_assignment t.n row) ∙ p.pass }

  lists_stand : (given out out' : List ℕ) (answer : Result Step Refusal) → Lists y given out out' answer ↔ Was.Lists y given out out' answer
  unfolding Lists Ended Was.Lists Was.Ended
  lists_stand given out out' (Ok Row) = (
    λ v. (record { passing = was_passing _ v.0.passing; after = v.0.after; first = λ r p. v.0.first r (is_passing r p) }, v.1),
    λ v. (record { passing = is_passing _ v.0.passing; after = v.0.after; first = λ r p. v.0.first r (was_passing r p) }, v.1),
  )
  lists_stand given out out' (Ok End) = (λ v. (λ r p. v.0 r (is_passing r p), v.1), λ v. (λ r p. v.0 r (was_passing r p), v.1))
  lists_stand given out out' (Err r) = (λ v. v, λ v. v)

  says_stand : (o : Outcome) (given out out' : List ℕ) (answer : Result Step Refusal) → Says o y given out out' answer ↔ Was.Says o y given out out' answer
  unfolding Says Was.Says
  says_stand (Ok done) given out out' answer = lists_stand given out out' answer
  says_stand (Err r) given out out' answer = (λ v. v, λ v. v)

  pub first_stands : (out out' : List ℕ) (answer : Result Step Refusal) → FirstSays t out out' answer ↔ Was.FirstSays t out out' answer
  unfolding FirstSays Was.FirstSays
  first_stands out out' answer = rw (← range) (says_stand _ [] out out' answer)

  pub next_stands : (given out out' : List ℕ) (answer : Result Step Refusal) → NextSays t given out out' answer ↔ Was.NextSays t given out out' answer
  unfolding NextSays Was.NextSays
  next_stands given out out' answer = rw (← range) (says_stand _ given out out' answer)
