-- What the sheet's words mean by document 01: the deadlines are kept exactly where the table's own assignment passes, and the regions fit
-- exactly where the region check says yes; then no job's cell says otherwise.
use Prim.Native.Nat.{ℕ, ◌≤◌, ◌<◌}
use mathlib.Core.Path.{◌≡◌, refl, sym, ap, ◌∙◌}
use mathlib.Core.Bool.{Bool, true, false, not}
use mathlib.Core.List.{List}
use mathlib.Core.Logic.{◌↔◌, ⊎_elim}
use native.Mathlib.Omega.{arith}
use borrow.Author.Tests.{not-false}
use lib.Dec.{leb}
use lib.IntN.{ℤ, pos}
use lib.ListN.{length, get_or}
use Rattle.std.proofs.Common.{Result, Ok, Err, Some, None}
use Rattle.paper.specs.Vocabulary.{every, lowest, list_to}
use Rattle.paper.specs.Numbers.{most_tasks, most_words, per_task, Assignment, rec, assigned, tasks_in_range}
use Rattle.paper.specs.Analysis.{Tasks, tasks_of, within, task_passes, passes}
use Rattle.paper.specs.Lengths.{length_of, regions_fit, all_fit}
use Rattle.paper.specs.Regions.{list_of}
use Rattle.paper.specs.Refusals.{Outcome, first_of, times_asks, lengths_asks, fit_asks}
use Rattle.paper.specs.Answers.{answered as given, no_time, time_of, times_answer, fit_answer}
use Rattle.paper.specs.declared.Table.{Table}
use Rattle.paper.specs.declared.Refusal.{Refusal}
use Rattle.paper.specs.declared.Response.{Response}
use Rattle.paper.proofs.Tests.{both, within as bounds, every_says, every_all}
use Rattle.paper.proofs.Asks.{done_none, none_done}
use Rattle.paper.proofs.Extremes.{lowest_none, lowest_found, lowest_either}
use Rattle.laws.proofs.Every.{lowest_same}
use Rattle.laws.proofs.Lists.{list_at, per_task_at}
use Rattle.response.proofs.Answered.{answered}
use Rattle.show_facts.specs.Facts.{fits_at, fits_of, facts_of}
use Rattle.show_facts.specs.declared.Facts.{Facts}
use Rattle.first_jobs.specs.Firsts.{jobs, numbered, by_answer, keeps_at, first_late, first_unfit}
use Rattle.first_jobs.proofs.Firsts.{numbered_none, numbered_some}
use Rattle.verdicts.specs.Verdicts.{unfit_of, verdict_by, verdict_of}
use Rattle.verdicts.specs.declared.Verdict.{Verdict}

-- no first job fails a test exactly where every job passes it
pub none_fails : (n : ℕ) (test : ℕ → Bool) → (lowest n (λ k. not (test k)) ≡ 0) ↔ (every n test ≡ true)
none_fails n test = (
  λ e.
      ⊎_elim
      (λ none. every_all n test (λ k h. not-false (test k) (none k h)))
      (λ r. absurd (omega (arith, lowest_found (λ k. not (test k)) n r.0 r.1 r.2 r.3)))
      (lowest_either (λ k. not (test k)) n),
  λ e. lowest_none (λ k. not (test k)) n (λ k h. ap not (every_says n test e k h)),
)

-- a call that answers is done, and answers what the definition says
module _ {A : Type 0} where
  pub done_is : (o : Outcome) {a b : A} → given o a ≡ Ok b → (o ≡ Ok tt) × (a ≡ b)
  done_is (Ok done) e = (refl, cc)
  done_is (Err r) e = let z : ◌≡◌ {A = ℕ} 0 1 = cc in absurd (omega arith)

-- a verdict that says something is that one, of response times that are answered
said : (times : Result (List Response) Refusal) (f : Facts) (v : Verdict) → verdict_by times f ≡ Ok v
    → ((ts : List Response) × (times ≡ Ok ts)) × (v ≡ record { late = numbered (first_late f); unfit = unfit_of f.check (first_unfit f) })
said (Ok ts) f v e = ((ts, refl), cc)
said (Err r) f v e = let z : ◌≡◌ {A = ℕ} 0 1 = cc in absurd (omega arith)

few : (n : ℕ) → tasks_in_range n ≡ true → n ≤ most_tasks
few n e = (bounds 1 most_tasks n e).1

-- the verdict's second half says that all fit where the check says yes, since a check that says no finds a job to name
half_fits : (o : Outcome) (b : Bool) (unfit : ℕ) → (o ≡ Ok tt → unfit ≡ 0 → given o b ≡ Ok true) → (unfit_of (given o b) unfit ≡ Ok None) ↔ (given o b ≡ Ok true)
half_fits (Ok done) true unfit h = (λ e. refl, λ e. refl)
half_fits (Ok done) false unfit h =
    (λ e. let z : ◌≡◌ {A = ℕ} 0 1 = cc in absurd (omega arith), λ e. let z : ◌≡◌ {A = ℕ} 0 1 = cc in absurd (omega arith))
half_fits (Err r) b unfit h = (λ e. let z : ◌≡◌ {A = ℕ} 0 1 = cc in absurd (omega arith), λ e. let z : ◌≡◌ {A = ℕ} 0 1 = cc in absurd (omega arith))

half_names : (o : Outcome) (b : Bool) (unfit j : ℕ) → unfit_of (given o b) unfit ≡ Ok (Some j) → (o ≡ Ok tt) × (unfit ≡ j)
half_names (Ok done) true unfit j e = let z : ◌≡◌ {A = ℕ} 0 1 = cc in absurd (omega arith)
half_names (Ok done) false unfit j e = (refl, cc)
half_names (Err r) b unfit j e = let z : ◌≡◌ {A = ℕ} 0 1 = cc in absurd (omega arith)

module _ (t : Table) (own catalogue : List ℕ) where
  abbrev y : Tasks
  y = tasks_of t.records t.n

  abbrev a : Assignment
  a = assigned t.records

  abbrev f : Facts
  f = facts_of t own catalogue

  -- every region of the job is at most its length
  abbrev fits : ℕ → Bool
  fits k = regions_fit (list_of (rec t.records k).source own catalogue) (rec t.records k) (length_of y a k)

  abbrev times : List Response
  times = per_task t.n (time_of t) no_time

  abbrev ticks : List ℤ
  ticks = per_task t.n (length_of y a) (pos 0)

  abbrev cells : List Bool
  cells = list_to most_tasks (fits_at t.records ticks own catalogue)

  -- the jobs looked at are the table's
  pub all_jobs : tasks_in_range t.n ≡ true → jobs f ≡ t.n
  all_jobs e = let h = few t.n e in omega arith

  -- where the times are answered, a job keeps its deadline by them exactly when its task passes
  pub keeps_passes : first_of (times_asks t) ≡ Ok tt → (k : ℕ) → k < t.n → (f.times ≡ Ok times) × (keeps_at f times k ≡ task_passes y a k)
  unfolding task_passes
  keeps_passes e k h =
      let answers : times_answer t ≡ Ok times = ap (λ o. given o times) e in
      (answers, ap (λ (r : Response). within r.time (rec t.records k).deadline) (answered t answers k no_time h))

  -- the first late job is the first that doesn't pass
  late_is : first_of (times_asks t) ≡ Ok tt → first_late f ≡ lowest t.n (λ k. not (task_passes y a k))
  unfolding task_passes
  late_is e =
      let answers : times_answer t ≡ Ok times = ap (λ o. given o times) e in
      let n = all_jobs (not-false (tasks_in_range t.n) (done_none (times_asks t) e).0) in
      ap (λ o. by_answer o (λ ts. lowest (jobs f) (λ k. not (keeps_at f ts k)))) answers
      ∙ ap (λ j. lowest j (λ k. not (keeps_at f times k))) n
      ∙ lowest_same t.n (λ k. not (keeps_at f times k)) (λ k. not (task_passes y a k))
      (λ k h. ap not (keeps_passes e k h).1)

  -- where the times are answered, no job is late exactly when the table's own assignment passes
  pub none_late_passes : first_of (times_asks t) ≡ Ok tt → (first_late f ≡ 0) ↔ (passes y a ≡ true)
  unfolding passes
  none_late_passes e =
      let z = none_fails t.n (task_passes y a) in
      (λ h. z.0 (sym (late_is e) ∙ h), λ h. late_is e ∙ z.1 h)

  -- a verdict is of times that are answered
  times_done : (v : Verdict) → verdict_of f ≡ Ok v → first_of (times_asks t) ≡ Ok tt
  times_done v e = (done_is (first_of (times_asks t)) (said (times_answer t) f v e).0.1).0

  -- where the verdict says anything, it says that the deadlines are kept exactly when the table's own assignment passes
  pub kept_passes : (v : Verdict) → verdict_of f ≡ Ok v → (v.late ≡ None) ↔ (passes y a ≡ true)
  kept_passes v e =
      let is = ap (λ (w : Verdict). w.late) (said (times_answer t) f v e).1 in
      let n = numbered_none (first_late f) in
      let p = none_late_passes (times_done v e) in
      (λ h. p.0 (n.0 (sym is ∙ h)), λ h. is ∙ n.1 (p.1 h))

  -- where it says that they are missed, it names the first job that doesn't pass
  pub missed_first : (v : Verdict) (j : ℕ) → verdict_of f ≡ Ok v → v.late ≡ Some j → j ≡ lowest t.n (λ k. not (task_passes y a k))
  missed_first v j e h =
      let is = ap (λ (w : Verdict). w.late) (said (times_answer t) f v e).1 in
      sym (numbered_some (first_late f) j (sym is ∙ h)) ∙ late_is (times_done v e)

  -- a table that the region check doesn't turn away has lengths
  pub in-range : first_of (fit_asks t own catalogue) ≡ Ok tt → tasks_in_range t.n ≡ true
  in-range e = (both (tasks_in_range t.n) (leb (length own) most_words) (not-false _ (done_none (fit_asks t own catalogue) e).0)).0

  lengths_done : first_of (fit_asks t own catalogue) ≡ Ok tt → first_of (lengths_asks t) ≡ Ok tt
  lengths_done e =
      let p = done_none (fit_asks t own catalogue) e in
      none_done (lengths_asks t) (ap not (in-range e), (p.1.0, (p.1.1.0, (p.1.1.1.1.0, (p.1.1.1.1.1.0, (p.1.1.1.1.1.1.0, tt))))))

  -- a job's cell says that it fits where each of its regions is at most its length; so the first that doesn't is the first with one above
  unfit_is : first_of (fit_asks t own catalogue) ≡ Ok tt → first_unfit f ≡ lowest t.n (λ k. not (fits k))
  unfit_is e =
      let n = few t.n (in-range e) in
      let answers : f.fits ≡ Ok cells = ap (λ o. fits_of t.records (given o ticks) own catalogue) (lengths_done e) in
      ap (λ o. by_answer o (λ cells. lowest (jobs f) (λ k. not (get_or cells k false)))) answers
      ∙ ap (λ j. lowest j (λ k. not (get_or cells k false))) (all_jobs (in-range e))
      ∙ lowest_same t.n (λ k. not (get_or cells k false)) (λ k. not (fits k))
      (λ k h. ap not
      (list_at most_tasks (fits_at t.records ticks own catalogue) false k (omega arith)
      ∙ ap (regions_fit (list_of (rec t.records k).source own catalogue) (rec t.records k)) (per_task_at t.n (length_of y a) (pos 0) (pos 0) k h)))

  -- where the region check isn't turned away, no job's cell says no exactly when it says yes
  pub none_unfit_fits : first_of (fit_asks t own catalogue) ≡ Ok tt → (first_unfit f ≡ 0) ↔ (fit_answer t own catalogue ≡ Ok true)
  unfolding all_fit
  none_unfit_fits e =
      let z = none_fails t.n fits in
      let q : fit_answer t own catalogue ≡ Ok (all_fit t.records y a own catalogue) = ap (λ o. given o (all_fit t.records y a own catalogue)) e in
      (λ h. q ∙ ap (λ b. Ok b) (z.0 (sym (unfit_is e) ∙ h)), λ h. unfit_is e ∙ z.1 (done_is (first_of (fit_asks t own catalogue)) h).1)

  -- where the verdict says anything, it says that the regions fit exactly when the region check says yes
  pub fitting_says : (v : Verdict) → verdict_of f ≡ Ok v → (v.unfit ≡ Ok None) ↔ (fit_answer t own catalogue ≡ Ok true)
  fitting_says v e =
      let is = ap (λ (w : Verdict). w.unfit) (said (times_answer t) f v e).1 in
      let k = half_fits (first_of (fit_asks t own catalogue)) (all_fit t.records y a own catalogue) (first_unfit f) (λ o. (none_unfit_fits o).0) in
      (λ h. k.0 (sym is ∙ h), λ h. is ∙ k.1 h)

  -- where it says that regions are too long, it names the first job with a region above its length
  pub too_long_first : (v : Verdict) (j : ℕ) → verdict_of f ≡ Ok v → v.unfit ≡ Ok (Some j) → j ≡ lowest t.n (λ k. not (fits k))
  too_long_first v j e h =
      let is = ap (λ (w : Verdict). w.unfit) (said (times_answer t) f v e).1 in
      let u = half_names (first_of (fit_asks t own catalogue)) (all_fit t.records y a own catalogue) (first_unfit f) j (sym is ∙ h) in
      sym u.1 ∙ unfit_is u.0
