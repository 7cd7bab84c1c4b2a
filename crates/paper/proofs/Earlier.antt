-- The answers of response times, the pass test and the listing as they were defined before document 02, item 4, when no answer carried a job: what is answered today says the same.
-- What they are made of (R, where a task stands, rows, refusals) item 4 left alone: both sides take it from specs/.
use Rattle.std.specs.Prelude.{Err, Ok, Option, Some, Result}
use Prim.Native.Nat.{ℕ, zero, suc, ◌-◌}
use mathlib.Core.Path.{◌≡◌, refl, ap, ap₂, sym, ◌∙◌}
use mathlib.Core.Bool.{Bool, true}
use mathlib.Core.List.{List, [], ◌∷◌, ◌++◌, map, map-append}
use mathlib.Core.Logic.{◌↔◌}
use lib.ListN.{length, take, drop, replicate}
use Rattle.paper.specs.Vocabulary.{every, list_to}
use Rattle.paper.specs.Numbers.{most_tasks, per_task, Assignment, assigned}
use Rattle.paper.specs.Analysis.{Tasks, tasks_of, standing, response, with_job, within, task_passes, passes}
use Rattle.paper.specs.Rows.{row_size, row_assignment, row_holds, Later, Passing, Ended}
use Rattle.paper.specs.Refusals.{first_of, times_asks, first_asks, next_asks, Outcome}
use Rattle.paper.specs.Answers.{answered, no_time, time_of, times_answer, Lists, Says, FirstSays, NextSays}
use Rattle.paper.specs.declared.Response.{Response}
use Rattle.paper.specs.declared.Table.{Table}
use Rattle.paper.specs.declared.Refusal.{Refusal}
use Rattle.paper.specs.declared.Step.{Step}
use Rattle.paper.specs.declared.Step.TheVariants.{Row, End}

-- for each task its R, or beyond
abbrev pub earlier_times : Table → Result (List (Option ℕ)) Refusal
earlier_times t =
    answered (first_of (times_asks t))
    (per_task t.n (λ i. response (tasks_of t.records t.n) (standing (tasks_of t.records t.n) (assigned t.records) i) i) (Some 0))

abbrev time_only : Response → Option ℕ
time_only r = r.time

replicate_times : (n : ℕ) (r : Response) → map time_only (replicate n r) ≡ replicate n r.time
replicate_times zero r = refl
replicate_times (suc n) r = ap (λ ts. r.time ∷ ts) (replicate_times n r)

list_times : (n : ℕ) (f : ℕ → Response) → map time_only (list_to n f) ≡ list_to n (λ i. (f i).time)
unfolding list_to
list_times zero f = refl
list_times (suc n) f = map-append time_only (list_to n f) (f n ∷ []) ∙ ap (λ ts. ts ++ ((f n).time ∷ [])) (list_times n f)

per_task_times : (n : ℕ) (f : ℕ → Response) (r : Response) → map time_only (per_task n f r) ≡ per_task n (λ i. (f i).time) r.time
unfolding per_task
per_task_times n f r =
    map-append time_only (list_to n f) (replicate (most_tasks - n) r) ∙ ap₂ (λ ts us. ts ++ us) (list_times n f) (replicate_times (most_tasks - n) r)

-- the times alone of an answer
abbrev pub times_only : Result (List Response) Refusal → Result (List (Option ℕ)) Refusal
times_only (Ok rs) = Ok (map time_only rs)
times_only (Err r) = Err r

-- the refusal, or every time, as they were
pub times_stand : (t : Table) → times_only (times_answer t) ≡ earlier_times t
unfolding with_job
times_stand t = go (first_of (times_asks t))
  where
    go : (o : Outcome) → times_only (answered o (per_task t.n (time_of t) no_time)) ≡ answered o (per_task t.n (λ i. (time_of t i).time) (Some 0))
    go (Ok done) = ap Ok (per_task_times t.n (time_of t) no_time)
    go (Err r) = refl

-- An assignment passes when every R(i) exists and R(i) ≤ D(i)
abbrev pub task_passed : Tasks → Assignment → ℕ → Bool
task_passed y a i = within (response y (standing y a i) i) (y.d i)

abbrev pub passed : Tasks → Assignment → Bool
passed y a = every y.n (task_passed y a)

pub passes_stand : (y : Tasks) (a : Assignment) → passes y a ≡ passed y a
unfolding passes task_passes with_job
passes_stand y a = refl

-- a well-formed row that passes the response test
pub record PassedRow (y : Tasks) (row : List ℕ) : Type 0 where
  pub form : row_holds y.n row ≡ true
  pub pass : passed y (row_assignment y.n row) ≡ true

-- the first passing row strictly after a given row: no passing row lies between
pub record NextPassed (y : Tasks) (given row : List ℕ) : Type 0 where
  pub passing : PassedRow y row
  pub after : Later given row
  pub first : (r : List ℕ) → PassedRow y r → Later given r → Later r row → ⊥

-- or the end: no passing row lies after it
abbrev pub EndedPassed : Tasks → List ℕ → Type 0
EndedPassed y given = (r : List ℕ) → PassedRow y r → Later given r → ⊥

abbrev pub ListsPassed : Tasks → List ℕ → List ℕ → List ℕ → Result Step Refusal → Type 0
ListsPassed y given out out' (Ok Row) = NextPassed y given (take (row_size y.n) out') × (drop (row_size y.n) out' ≡ drop (row_size y.n) out)
ListsPassed y given out out' (Ok End) = EndedPassed y given × (out' ≡ out)
ListsPassed y given out out' (Err r) = ⊥

abbrev pub SaysPassed : Outcome → Tasks → List ℕ → List ℕ → List ℕ → Result Step Refusal → Type 0
SaysPassed (Ok done) y given out out' answer = ListsPassed y given out out' answer
SaysPassed (Err r) y given out out' answer = (answer ≡ Err r) × (out' ≡ out)

module _ (y : Tasks) where
  was_passing : (row : List ℕ) → Passing y row → PassedRow y row
  was_passing row p = record { form = p.form; pass = sym (passes_stand y (row_assignment y.n row)) ∙ p.pass }

  is_passing : (row : List ℕ) → PassedRow y row → Passing y row
  is_passing row p = record { form = p.form; pass = passes_stand y (row_assignment y.n row) ∙ p.pass }

  lists_stand : (given out out' : List ℕ) (answer : Result Step Refusal) → Lists y given out out' answer ↔ ListsPassed y given out out' answer
  unfolding Lists Ended
  lists_stand given out out' (Ok Row) = (
    λ v. (record { passing = was_passing _ v.0.passing; after = v.0.after; first = λ r p. v.0.first r (is_passing r p) }, v.1),
    λ v. (record { passing = is_passing _ v.0.passing; after = v.0.after; first = λ r p. v.0.first r (was_passing r p) }, v.1),
  )
  lists_stand given out out' (Ok End) = (λ v. (λ r p. v.0 r (is_passing r p), v.1), λ v. (λ r p. v.0 r (was_passing r p), v.1))
  lists_stand given out out' (Err r) = (λ v. v, λ v. v)

  says_stand : (o : Outcome) (given out out' : List ℕ) (answer : Result Step Refusal) → Says o y given out out' answer ↔ SaysPassed o y given out out' answer
  unfolding Says
  says_stand (Ok done) given out out' answer = lists_stand given out out' answer
  says_stand (Err r) given out out' answer = (λ v. v, λ v. v)

-- what the listing answers, and what its buffer holds, from the start and from a given row
pub first_stands : (t : Table) (out out' : List ℕ) (answer : Result Step Refusal)
    → FirstSays t out out' answer ↔ SaysPassed (first_of (first_asks t (length out))) (tasks_of t.records t.n) [] out out' answer
unfolding FirstSays
first_stands t out out' answer = says_stand _ _ [] out out' answer

pub next_stands : (t : Table) (given out out' : List ℕ) (answer : Result Step Refusal)
    → NextSays t given out out' answer ↔ SaysPassed (first_of (next_asks t given (length out))) (tasks_of t.records t.n) given out out' answer
unfolding NextSays
next_stands t given out out' answer = says_stand _ _ given out out' answer
