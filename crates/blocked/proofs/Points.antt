-- What ties fixed preemption points (document 02, item 2) to the floating regions that tolerances are for (source document 000, section VII): of a table that the test answers, alpha is 0 exactly for the lowest task, no difference that the test takes falls below zero, and a task whose tolerance is at least alpha passes.
use Rattle.std.proofs.Common.{Ok}
use Prim.Native.Nat.{ℕ, ◌+◌, ◌-◌, ◌≤◌, ◌<◌}
use mathlib.Core.Path.{◌≡◌, refl, sym, ap, ◌∙◌}
use mathlib.Core.Bool.{Bool, true, false, cond}
use mathlib.Core.List.{List}
use mathlib.Core.Logic.{◌↔◌, ◌⊎◌, inl, inr, by_cases}
use native.Mathlib.Decide.{dec_le}
use native.Mathlib.Omega.{arith}
use native.Mathlib.Nat.{le_trans}
use borrow.Author.Tests.{lt-ltb, le-ltb, ltb-false}
use lib.Dec.{leb, ltb}
use lib.IntN.{pos}
use lib.ListN.{length, get_or}
use lib.Signed.{◌≤ℤ◌}
use Rattle.paper.specs.Vocabulary.{every}
use Rattle.paper.specs.Numbers.{rec, per_task, counts_in_range, records_in_range, assigned, unassigned, assignment_holds, Assignment}
use Rattle.paper.specs.Regions.{list_of, all_regions_hold}
use Rattle.paper.specs.Analysis.{Tasks, tasks_of, before, load}
use Rattle.paper.specs.Lengths.{tolerance, lowest_below_zero}
use Rattle.paper.specs.Points.{Chunks, chunks_of, alpha, points_pass}
use Rattle.paper.specs.Refusals.{first_of, fit_asks}
use Rattle.paper.specs.Answers.{answered as answered_by, verdict_for, points_answer}
use Rattle.paper.specs.declared.Table.{Table}
use Rattle.paper.specs.declared.Shown.{Shown}
use Rattle.paper.specs.declared.Shown.TheVariants.{NotShown, Passes}
use Rattle.paper.proofs.Asks.{met, clear}
use Rattle.paper.proofs.Lengths.{Tolerable, lowest_zero}
use Rattle.paper.proofs.Points.{Held, all_regions_say, Point, passes_means}
use Rattle.laws.proofs.Sums.{sum_part, max_part, max_bound}
use Rattle.laws.proofs.Lists.{per_task_at}
use Rattle.laws.proofs.Tolerated.{tolerated_at}
use Rattle.laws.proofs.Arrivals.{before_le, load_le}

-- task i may be tested: its last region is a part of its cost, and its tolerance isn't below zero
pub record Divided (y : Tasks) (a : Assignment) (g : Chunks) (i : ℕ) : Type 0 where
  pub last : g.last i ≤ y.c i
  pub tolerable : Tolerable y a i

module _ (y : Tasks) (a : Assignment) (g : Chunks) (i : ℕ) (w : Divided y a g i) where
  -- no difference in the test falls below zero
  pub exact : (g.last i ≤ y.c i) × (y.j i + g.last i ≤ y.d i)
  exact = let r = tolerated_at y a i w.tolerable.instant 0 w.tolerable.least in (w.last, omega (arith, w.last, r.1.high, r.2))

  -- A task whose tolerance is at least alpha passes: what lets it end in time lets its last region start in time.
  pub tolerated_passes : pos (alpha y a g i) ≤ℤ tolerance y a i → points_pass y a g i ≡ true
  unfolding load before
  tolerated_passes h = (passes_means y a g i).1 (by_cases (dec_le (alpha y a g i) 0) (λ (z : alpha y a g i ≤ 0). inl (omega arith)) (λ z. inr (early (omega arith))))
    where
      early : 1 ≤ alpha y a g i → (t : ℕ) × Point y a i (g.last i) (alpha y a g i) t
      early some =
          let r = tolerated_at y a i w.tolerable.instant (alpha y a g i) h in
          let u = r.0 - g.last i in
          let rises = load_le y (λ j. ltb (a.p j) (a.p i)) (before y u) (before y r.0) (λ j _. before_le y j u r.0 (omega arith)) in (
            u,
            record { low = omega (arith, w.last, r.2); high = omega (arith, r.1.high); fits = omega (arith, w.last, r.2, rises) },
          )

-- The same of a table that the test answers.
module _ (t : Table) (own catalogue : List ℕ) (e : first_of (fit_asks t own catalogue) ≡ Ok tt) where
  abbrev y : Tasks
  y = tasks_of t.records t.n

  abbrev a : Assignment
  a = assigned t.records

  abbrev g : Chunks
  g = chunks_of t.records own catalogue

  -- its regions hold, and it has none that falls under 16
  record Answered : Type 0 where
    held : (k : ℕ) → k < t.n → let r = rec t.records k in Held (list_of r.source own catalogue) r.first r.count r.cost
    tolerable : (k : ℕ) → k < t.n → Tolerable y a k

  answered : Answered
  answered =
      let c = met (counts_in_range t.n (length own)) _ _ e in
      let r = met (records_in_range t.records t.n) _ _ c.1 in
      let s = met (assignment_holds t.records t.n) _ _ r.1 in
      let h = met (all_regions_hold t.records t.n own catalogue) _ _ s.1 in
      let u = clear (unassigned t.records t.n) _ _ h.1 in
      let d = met (every t.n (λ k. leb (rec t.records k).deadline (rec t.records k).period)) _ _ u.1 in
      let z = clear (ltb 0 (lowest_below_zero y a)) _ _ d.1 in
      record {
        held = all_regions_say t.records t.n own catalogue h.0;
        tolerable = (lowest_zero y a).0 (omega (arith, ltb-false 0 (lowest_below_zero y a) z.0));
      }

  pub divided : (i : ℕ) → i < t.n → Divided y a g i
  divided i l =
      let r = rec t.records i in
      let h = answered.held i l in
      let place : r.first + (r.count - 1) ≡ r.first + r.count - 1 = omega (arith, h.there) in
      let list = list_of r.source own catalogue in
      record {
        last = rw (← place) (le_trans (sum_part r.count (λ k. get_or list (r.first + k) 0) (r.count - 1) (omega (arith, h.there))) (omega (arith, h.cost)));
        tolerable = answered.tolerable i l;
      }

  -- alpha is 0 exactly for the lowest task
  pub alpha_zero : (i : ℕ) → (alpha y a g i ≡ 0) ↔ ((k : ℕ) → k < t.n → a.p k ≤ a.p i)
  unfolding alpha
  alpha_zero i = (
    λ z k l. by_cases (dec_le (a.p k) (a.p i)) (λ (h : a.p k ≤ a.p i). h) (λ h. absurd (lower z k l (omega arith))),
    λ h. let m = max_bound t.n 0 (λ k. cond (ltb (a.p i) (a.p k)) (g.longest k) 0) (λ k l. rw (le-ltb (a.p i) (a.p k) (h k l)) (omega arith)) in omega arith,
  )
    where
      lower : alpha y a g i ≡ 0 → (k : ℕ) → k < t.n → a.p i < a.p k → ⊥
      lower z k l h =
          let r = rec t.records k in
          let w = answered.held k l in
          let part = rw (lt-ltb (a.p i) (a.p k) h) at (max_part t.n (λ k. cond (ltb (a.p i) (a.p k)) (g.longest k) 0) k l) in
          let word = max_part r.count (λ i. get_or (list_of r.source own catalogue) (r.first + i) 0) 0 w.there in
          omega (arith, part, word, (w.words 0 w.there).0)

  -- What the answer means: it says "passes" of a task exactly where alpha is 0 or there is a t.
  pub answered_means : {tasks : List Shown} → points_answer t own catalogue ≡ Ok tasks → (i : ℕ) → i < t.n
      → (get_or tasks i NotShown ≡ Passes) ↔ ((alpha y a g i ≡ 0) ⊎ ((u : ℕ) × Point y a i (g.last i) (alpha y a g i) u))
  answered_means {tasks} o i l = (λ h. (passes_means y a g i).0 (shown (points_pass y a g i) (sym said ∙ h)), λ w. said ∙ rw ((passes_means y a g i).1 w))
    where
      whole : tasks ≡ per_task t.n (λ k. verdict_for (points_pass y a g k)) NotShown
      whole = let q = sym o ∙ ap (λ v. answered_by v (per_task t.n (λ k. verdict_for (points_pass y a g k)) NotShown)) e in cc

      said : get_or tasks i NotShown ≡ cond (points_pass y a g i) Passes NotShown
      said = ap (λ vs. get_or vs i NotShown) whole ∙ per_task_at t.n (λ k. verdict_for (points_pass y a g k)) NotShown NotShown i l

      shown : (b : Bool) → cond b Passes NotShown ≡ Passes → b ≡ true
      shown true h = refl
      shown false h = let z : ◌≡◌ {A = ℕ} 0 1 = cc in absurd (omega arith)
