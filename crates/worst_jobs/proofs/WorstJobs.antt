-- What a line on an active period means by document 01, by the jobs' own finishes, and exactly which task has which line.
use Prim.Native.Nat.{ℕ, ◌+◌, ◌-◌, ◌≤◌, ◌<◌}
use mathlib.Core.Path.{◌≡◌, refl, sym, ap, subst, ◌∙◌}
use mathlib.Core.Bool.{Bool, true, false, cond}
use mathlib.Core.List.{List}
use mathlib.Core.Logic.{◌↔◌, ◌⊎◌, inl, inr, ⊎_elim}
use native.Mathlib.Omega.{arith}
use borrow.Author.Tests.{leb-true, leb-false, le-leb, lt-leb, eqb-true, eqb-false, eq-eqb, ne_eqb}
use lib.Dec.{leb, eqb}
use lib.ListN.{get_or}
use Rattle.std.proofs.Common.{Option, Some, None, Ok}
use Rattle.paper.specs.Numbers.{per_task, assigned}
use Rattle.paper.specs.Analysis.{Tasks, Standing, tasks_of, standing, response, with_job, within, task_passes}
use Rattle.paper.specs.Refusals.{first_of, times_asks}
use Rattle.paper.specs.Answers.{answered as given, no_time, time_of, times_answer}
use Rattle.paper.specs.declared.Response.{Response}
use Rattle.paper.specs.declared.Table.{Table}
use Rattle.paper.proofs.Responses.{Largest}
use Rattle.response.proofs.Answered.{answered, answered_largest, answered_beyond}
use Rattle.show_facts.specs.Facts.{facts_of}
use Rattle.worst_jobs.specs.WorstJobs.{worst_by, worst_in, worst_at}
use Rattle.worst_jobs.specs.declared.Worst.{Worst}
use Rattle.worst_jobs.specs.declared.Worst.TheVariants.{Later, Late, Unknown}

pub worst_late : (x k d : ℕ) → d < x → worst_by (Some x) k d ≡ Some (Late k (x - d))
worst_late x k d h = rw (lt-leb x d h)

pub worst_first : (x k d : ℕ) → x ≤ d → k ≡ 0 → worst_by (Some x) k d ≡ None
worst_first x k d h z = rw (le-leb x d h, eq-eqb k 0 z)

pub worst_later : (x k d : ℕ) → x ≤ d → (k ≡ 0 → ⊥) → worst_by (Some x) k d ≡ Some (Later k)
worst_later x k d h z = rw (le-leb x d h, ne_eqb k 0 z)

-- what a line says of a response time x that job k reached
module _ (x k d : ℕ) where
  record Said (p : Option Worst) : Type 0 where
    pub first : p ≡ None → (x ≤ d) × (k ≡ 0)
    pub later : (j : ℕ) → p ≡ Some (Later j) → (x ≤ d) × (1 ≤ k) × (k ≡ j)
    pub late : (j by : ℕ) → p ≡ Some (Late j by) → (1 ≤ by) × (x ≡ d + by) × (k ≡ j)
    pub known : p ≡ Some Unknown → ⊥

  said : Said (worst_by (Some x) k d)
  said = go (leb x d) refl (eqb k 0) refl
    where
      go : (a : Bool) → leb x d ≡ a → (b : Bool) → eqb k 0 ≡ b → Said (cond a (cond b None (Some (Later k))) (Some (Late k (x - d))))
      go true e true f =
          record {
            first = λ h. (leb-true x d e, eqb-true k 0 f);
            later = λ j h. let z : ◌≡◌ {A = ℕ} 0 1 = cc in absurd (omega arith);
            late = λ j by h. let z : ◌≡◌ {A = ℕ} 0 1 = cc in absurd (omega arith);
            known = λ h. let z : ◌≡◌ {A = ℕ} 0 1 = cc in omega arith;
          }
      go true e false f =
          record {
            first = λ h. let z : ◌≡◌ {A = ℕ} 0 1 = cc in absurd (omega arith);
            later = λ j h. let z : k ≡ j = cc in (leb-true x d e, omega (arith, eqb-false k 0 f), z);
            late = λ j by h. let z : ◌≡◌ {A = ℕ} 0 1 = cc in absurd (omega arith);
            known = λ h. let z : ◌≡◌ {A = ℕ} 0 1 = cc in omega arith;
          }
      go false e b f =
          record {
            first = λ h. let z : ◌≡◌ {A = ℕ} 0 1 = cc in absurd (omega arith);
            later = λ j h. let z : ◌≡◌ {A = ℕ} 0 1 = cc in absurd (omega arith);
            late = λ j by h. let z : k ≡ j = cc in let w : x - d ≡ by = cc in let l = leb-false x d e in (omega arith, omega arith, z);
            known = λ h. let z : ◌≡◌ {A = ℕ} 0 1 = cc in omega arith;
          }

-- of a table whose response times are answered, and task i of it
module _ (t : Table) (own catalogue : List ℕ) (done : first_of (times_asks t) ≡ Ok tt) (i : ℕ) (among : i < t.n) where
  abbrev y : Tasks
  y = tasks_of t.records t.n

  abbrev s : Standing
  s = standing y (assigned t.records) i

  abbrev line : Option Worst
  line = worst_at (facts_of t own catalogue) i

  abbrev times : List Response
  times = per_task t.n (time_of t) no_time

  answers : times_answer t ≡ Ok times
  answers = ap (λ o. given o times) done

  -- the line by what is answered
  line_is : (r : Response) → get_or times i no_time ≡ r → line ≡ worst_by r.time r.job (y.d i)
  line_is r e = ap (λ a. worst_in a i (y.d i)) answers ∙ ap (λ (v : Response). worst_by v.time v.job (y.d i)) e

  line_there : (x k : ℕ) → Largest y s i x k → line ≡ worst_by (Some x) k (y.d i)
  line_there x k g = line_is _ ((answered_largest t answers i no_time among x k).1 g)

  line_beyond : response y s i ≡ None → line ≡ Some Unknown
  line_beyond e = line_is _ ((answered_beyond t answers i no_time among).1 e)

  -- there is a response time, or it is beyond
  either : ((x : ℕ) × (k : ℕ) × Largest y s i x k) ⊎ (response y s i ≡ None)
  unfolding with_job
  either = go (response y s i) refl
    where
      go : (v : Option ℕ) → response y s i ≡ v → ((x : ℕ) × (k : ℕ) × Largest y s i x k) ⊎ (response y s i ≡ None)
      go (Some x) e =
          let k = (with_job y s i).job in
          inl (x, k, (answered_largest t answers i no_time among x k).0 (answered t answers i no_time among ∙ ap (λ v. record { time = v; job = k }) e))
      go None e = inr e

  -- job k is the worst, and late: its F + J(i) − k·T(i) is D(i) + by
  pub late_line : (k by : ℕ) → (line ≡ Some (Late k by)) ↔ ((1 ≤ by) × Largest y s i (y.d i + by) k)
  late_line k by = (λ e. ⊎_elim (there e) (λ b. let z : ◌≡◌ {A = ℕ} 0 1 = cc (line_beyond b, e) in absurd (omega arith)) either, gives)
    where
      there : line ≡ Some (Late k by) → (x : ℕ) × (j : ℕ) × Largest y s i x j → (1 ≤ by) × Largest y s i (y.d i + by) k
      there e g =
          let v = (said g.0 g.1 (y.d i)).late k by (sym (line_there g.0 g.1 g.2) ∙ e) in
          (v.0, rw (← v.1, ← v.2) g.2)

      gives : (1 ≤ by) × Largest y s i (y.d i + by) k → line ≡ Some (Late k by)
      gives g =
          let z : y.d i + by - y.d i ≡ by = omega arith in
          line_there _ k g.1 ∙ worst_late (y.d i + by) k (y.d i) (omega (arith, g.0)) ∙ ap (λ n. Some (Late k n)) z

  -- a later job is the worst, and in time
  pub later_line : (k : ℕ) → (line ≡ Some (Later k)) ↔ ((1 ≤ k) × ((r : ℕ) × (r ≤ y.d i) × Largest y s i r k))
  later_line k = (
    λ e. ⊎_elim (there e) (λ b. let z : ◌≡◌ {A = ℕ} 0 1 = cc (line_beyond b, e) in absurd (omega arith)) either,
    λ g. line_there _ k g.1.2 ∙ worst_later g.1.0 k (y.d i) g.1.1 (λ q. omega (arith, g.0)),
  )
    where
      there : line ≡ Some (Later k) → (x : ℕ) × (j : ℕ) × Largest y s i x j → (1 ≤ k) × ((r : ℕ) × (r ≤ y.d i) × Largest y s i r k)
      there e g =
          let v = (said g.0 g.1 (y.d i)).later k (sym (line_there g.0 g.1 g.2) ∙ e) in
          (rw (← v.2) v.1, (g.0, v.0, rw (← v.2) g.2))

  -- job 0 is, and in time: there is no line
  pub no_line : (line ≡ None) ↔ ((r : ℕ) × (r ≤ y.d i) × Largest y s i r 0)
  no_line = (
    λ e. ⊎_elim (there e) (λ b. let z : ◌≡◌ {A = ℕ} 0 1 = cc (line_beyond b, e) in absurd (omega arith)) either,
    λ g. line_there _ 0 g.2 ∙ worst_first g.0 0 (y.d i) g.1 refl,
  )
    where
      there : line ≡ None → (x : ℕ) × (j : ℕ) × Largest y s i x j → (r : ℕ) × (r ≤ y.d i) × Largest y s i r 0
      there e g =
          let v = (said g.0 g.1 (y.d i)).first (sym (line_there g.0 g.1 g.2) ∙ e) in
          (g.0, v.0, subst (Largest y s i g.0) v.1 g.2)

  -- there is no response time
  pub unknown_line : (line ≡ Some Unknown) ↔ (response y s i ≡ None)
  unknown_line = (
    λ e. ⊎_elim (λ g. absurd ((said g.0 g.1 (y.d i)).known (sym (line_there g.0 g.1 g.2) ∙ e))) (λ b. b) either,
    line_beyond,
  )

  time-at : (x k : ℕ) → Largest y s i x k → response y s i ≡ Some x
  unfolding with_job
  time-at x k g = ap (λ (r : Response). r.time) (sym (answered t answers i no_time among) ∙ (answered_largest t answers i no_time among x k).1 g)

  -- so a task doesn't pass exactly where its line says that a job is late, or that none can be named
  pub missed_line : (task_passes y (assigned t.records) i ≡ false) ↔ ((line ≡ Some Unknown) ⊎ ((k : ℕ) × (by : ℕ) × (line ≡ Some (Late k by))))
  unfolding task_passes with_job within
  missed_line = (λ e. ⊎_elim (late e) (λ b. inl (line_beyond b)) either, missed)
    where
      late : within (response y s i) (y.d i) ≡ false → (x : ℕ) × (k : ℕ) × Largest y s i x k → (line ≡ Some Unknown) ⊎ ((k : ℕ) × (by : ℕ) × (line ≡ Some (Late k by)))
      late e g =
          let h = leb-false g.0 (y.d i) (ap (λ r. within r (y.d i)) (sym (time-at g.0 g.1 g.2)) ∙ e) in
          inr (g.1, g.0 - y.d i, line_there g.0 g.1 g.2 ∙ worst_late g.0 g.1 (y.d i) h)

      missed : (line ≡ Some Unknown) ⊎ ((k : ℕ) × (by : ℕ) × (line ≡ Some (Late k by))) → within (response y s i) (y.d i) ≡ false
      missed (inl e) = ap (λ r. within r (y.d i)) (unknown_line.0 e)
      missed (inr v) =
          let g = (late_line v.0 v.1).0 v.2 in
          ap (λ r. within r (y.d i)) (time-at _ v.0 g.1) ∙ lt-leb _ (y.d i) (omega (arith, g.0))
