-- What the line on fixed preemption points means by document 02, item 2: it stands exactly where the test answers and some job doesn't pass it, and names the first.
use Prim.Native.Nat.{ℕ, suc, ◌<◌}
use mathlib.Core.Path.{◌≡◌, refl, sym, ap, ◌∙◌}
use mathlib.Core.Bool.{Bool, true, false, not}
use mathlib.Core.List.{List}
use mathlib.Core.Logic.{◌↔◌}
use native.Mathlib.Omega.{arith}
use borrow.Author.Tests.{not-true, not-false}
use Rattle.std.proofs.Common.{Ok, Err}
use Rattle.paper.specs.Vocabulary.{every, lowest}
use Rattle.paper.specs.Numbers.{per_task, assigned}
use Rattle.paper.specs.Analysis.{tasks_of}
use Rattle.paper.specs.Points.{chunks_of, points_pass}
use Rattle.paper.specs.Refusals.{Outcome, first_of, fit_asks}
use Rattle.paper.specs.Answers.{answered, verdict_for, points_answer}
use Rattle.paper.specs.declared.Table.{Table}
use Rattle.paper.specs.declared.Shown.{Shown}
use Rattle.show_facts.specs.declared.Facts.{Facts}
use Rattle.paper.specs.declared.Shown.TheVariants.{NotShown}
use Rattle.paper.proofs.Extremes.{first_passes}
use Rattle.laws.proofs.Every.{lowest_same}
use Rattle.laws.proofs.Lists.{per_task_at}
use Rattle.show_facts.specs.Facts.{facts_of}
use Rattle.first_jobs.specs.Firsts.{by_answer, jobs, is_shown, passes_at}
use Rattle.verdicts.specs.Verdicts.{not_shown}
use Rattle.verdicts.proofs.Verdicts.{none_fails, all_jobs, in-range}

shown_is : (b : Bool) → is_shown (verdict_for b) ≡ b
shown_is true = refl
shown_is false = refl

-- a number that isn't 0 is said of a call that is done
said : (o : Outcome) (points : List Shown) (first : List Shown → ℕ) (k : ℕ) → by_answer (answered o points) first ≡ suc k → o ≡ Ok tt
said (Ok done) points first k e = refl
said (Err r) points first k e = absurd (omega arith)

module _ (t : Table) (own catalogue : List ℕ) where
  abbrev f : Facts
  f = facts_of t own catalogue

  abbrev passes : ℕ → Bool
  passes = points_pass (tasks_of t.records t.n) (assigned t.records) (chunks_of t.records own catalogue)

  abbrev points : List Shown
  points = per_task t.n (λ k. verdict_for (passes k)) NotShown

  -- what is said of a job in the answer is whether it passes, so the first that isn't shown is the first that doesn't
  unshown_is : first_of (fit_asks t own catalogue) ≡ Ok tt → not_shown f ≡ lowest t.n (λ k. not (passes k))
  unshown_is e =
      let answers : points_answer t own catalogue ≡ Ok points = ap (λ o. answered o points) e in
      ap (λ o. by_answer o (λ ps. lowest (jobs f) (λ k. not (passes_at ps k)))) answers
      ∙ ap (λ j. lowest j (λ k. not (passes_at points k))) (all_jobs t own catalogue (in-range t own catalogue e))
      ∙ lowest_same t.n (λ k. not (passes_at points k)) (λ k. not (passes k))
      (λ k l. ap not (ap is_shown (per_task_at t.n (λ j. verdict_for (passes j)) NotShown NotShown k l) ∙ shown_is (passes k)))

  -- where the test answers, no line stands exactly when every job passes
  pub none_unshown : first_of (fit_asks t own catalogue) ≡ Ok tt → (not_shown f ≡ 0) ↔ (every t.n passes ≡ true)
  none_unshown e =
      let z = none_fails t.n passes in
      (λ h. z.0 (sym (unshown_is e) ∙ h), λ h. unshown_is e ∙ z.1 h)

  -- where one does, the test answers, the job that it names doesn't pass, and all before it do
  pub first_unshown : (k : ℕ) → not_shown f ≡ suc k
      → (first_of (fit_asks t own catalogue) ≡ Ok tt) × (k < t.n) × (passes k ≡ false) × ((j : ℕ) → j < k → passes j ≡ true)
  first_unshown k h =
      let e = said (first_of (fit_asks t own catalogue)) points (λ ps. lowest (jobs f) (λ k. not (passes_at ps k))) k h in
      let r = first_passes (λ j. not (passes j)) t.n k (sym (unshown_is e) ∙ h) in
      (e, r.0, not-true _ r.1, λ j l. not-false _ (r.2 j l))
