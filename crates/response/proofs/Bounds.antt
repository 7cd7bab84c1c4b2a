-- The worst of several jobs with the first that reaches it, step by step and up to a bound; R up to the latest that there can be is R, and up to the deadline says whether a task passes.
use Rattle.std.proofs.Common.{Option, Some, None}
use Rattle.std.specs.Option.{is_some, unwrap_or}
use Prim.Native.Nat.{ℕ, zero, suc, ◌+◌, ◌-◌, ◌*◌, ◌≤◌, ◌<◌, max}
use mathlib.Core.Path.{◌≡◌, refl, ap, sym, ◌∙◌}
use mathlib.Core.Bool.{Bool, true, false, true≢false, cond}
use native.Mathlib.Omega.{arith}
use native.Mathlib.Numerals.{add-one}
use lib.Dec.{ltb}
use borrow.Author.Tests.{le-leb}
use Rattle.paper.specs.Vocabulary.{lowest}
use Rattle.paper.specs.Numbers.{most_ticks, horizon, Assignment}
use Rattle.paper.specs.Analysis.{Tasks, Standing, before, level_of, start_of, finish_of, finish_from, job, later, worst, worst_from, response, first_reaching, worst_job, with_job, within, task_passes}
use Rattle.paper.specs.declared.Response.{Response}
use Rattle.paper.proofs.Responses.{first_more, beyond_job, worst-jobs}
use Rattle.paper.proofs.Searched.{searched}
use Rattle.jobs.specs.Stands.{stand_by, stand_of, count_from, job_count}
use Rattle.jobs.specs.declared.Stand.{Stand}
use Rattle.jobs.proofs.Blocks.{stand_is}
use Rattle.jobs.proofs.Spans.{response_beyond}
use Rattle.response.specs.Bounds.{too_late, bounded, worst_with, response_of}

-- no R lies above
abbrev pub latest : ℕ
latest = horizon + most_ticks

-- a time that is not within the bound
above : (most : ℕ) (r : Response) → (within r.time most ≡ true → ⊥) → None ≡ bounded most r
unfolding bounded
above most r h = go (within r.time most) h
  where
    go : (v : Bool) → (v ≡ true → ⊥) → None ≡ cond v (Some r) None
    go true h = absurd (h refl)
    go false h = refl

module _ (y : Tasks) (s : Standing) (i : ℕ) where
  module _ (most m k : ℕ) where
    pub one_late : (f : ℕ) {t j r : ℕ} → k < m → job y s i k ≡ Some f → t ≡ y.t i → j ≡ y.j i → r ≡ f + j - k * t → most < r
        → None ≡ bounded most (worst_with y s i m)
    one_late f l e et ej er h =
        let er = rw (et, ej) at er in
        above most _ (λ w. let t = (worst-jobs y s i most m).0 w k l in let q : t.f ≡ f = cc t.finish in omega (arith, t.ok))

    pub one_beyond : k < m → job y s i k ≡ None → None ≡ bounded most (worst_with y s i m)
    one_beyond l e =
        above most _ (λ w. let t = (worst-jobs y s i most m).0 w k l in let q : ◌≡◌ {A = ℕ} 0 1 = cc t.finish in omega arith)

    pub all_within : (r j : ℕ) → Some r ≡ worst y s i k → j ≡ first_reaching y s i k (Some r) → r ≤ most → k ≡ m
        → Some (record { time = Some r; job = j }) ≡ bounded most (worst_with y s i m)
    unfolding bounded within
    all_within r j e f h q = rw (← q, ← e, ← f, le-leb r most h)

  pub worst_none : Some 0 ≡ worst y s i 0
  unfolding worst
  worst_none = refl

  pub worst_more : (k q f : ℕ) {t j r m : ℕ} → Some q ≡ worst y s i k → job y s i k ≡ Some f → t ≡ y.t i → j ≡ y.j i → r ≡ f + j - k * t → m ≡ max q r
      → Some m ≡ worst y s i (k + 1)
  unfolding worst later
  worst_more k q f e g et ej er em = rw (add-one, ← e, g, em, er, et, ej)

  pub first_none : 0 ≡ first_reaching y s i 0 (Some 0)
  unfolding first_reaching lowest
  first_none = refl

  pub first_next : (k q first f : ℕ) {t j r v m : ℕ} → Some q ≡ worst y s i k → first ≡ first_reaching y s i k (Some q) → job y s i k ≡ Some f
      → t ≡ y.t i → j ≡ y.j i → r ≡ f + j - k * t → v ≡ cond (ltb q r) k first → m ≡ max q r → v ≡ first_reaching y s i (k + 1) (Some m)
  first_next k q first f e ef g et ej er ev em = rw (add-one, ev, em, er, et, ej, ef) (first_more y s i k q f (sym e) g)

  -- no F lies above the horizon
  pub finish_range : (k f : ℕ) → job y s i k ≡ Some f → f ≤ horizon
  unfolding job finish_from finish_of
  finish_range k f e = go (start_of y s i k) e
    where
      go : (start : Option ℕ) → finish_from y s i start ≡ Some f → f ≤ horizon
      go (Some start) h = let w = searched _ (start + 1) _ f h in omega (arith, w.low, w.high)
      go None h = let z : ◌≡◌ {A = ℕ} 0 1 = cc in absurd (omega arith)

  -- and so no R above the latest
  worst_range : (m r : ℕ) → worst y s i m ≡ Some r → r ≤ horizon + y.j i
  unfolding worst later
  worst_range zero r e = let z : 0 ≡ r = cc in omega arith
  worst_range (suc m) r e = go (worst y s i m) (job y s i m) (worst_range m) (finish_range m) e
    where
      go : (w v : Option ℕ) → ((q : ℕ) → w ≡ Some q → q ≤ horizon + y.j i) → ((f : ℕ) → v ≡ Some f → f ≤ horizon) → later w v (y.j i) (m * y.t i) ≡ Some r → r ≤ horizon + y.j i
      go (Some q) (Some f) o g h = let z : max q (f + y.j i - m * y.t i) ≡ r = cc in omega (arith, o q refl, g f refl)
      go (Some q) None o g h = let z : ◌≡◌ {A = ℕ} 0 1 = cc in absurd (omega arith)
      go None v o g h = let z : ◌≡◌ {A = ℕ} 0 1 = cc in absurd (omega arith)

  response_range : (r : ℕ) → response y s i ≡ Some r → r ≤ horizon + y.j i
  unfolding response worst_from
  response_range r e = level (level_of y s) e
    where
      level : (l : Option ℕ) → worst_from y s i l ≡ Some r → r ≤ horizon + y.j i
      level (Some l) h = worst_range _ r h
      level None h = let z : ◌≡◌ {A = ℕ} 0 1 = cc in absurd (omega arith)

  -- what isn't within the latest is beyond
  module _ (late : y.j i ≤ most_ticks) where
    not_within : (r : Option ℕ) → response y s i ≡ r → within r latest ≡ false → response y s i ≡ None
    unfolding within
    not_within (Some q) e f = absurd (true≢false (sym (le-leb q latest (omega (arith, response_range q e))) ∙ f))
    not_within None e f = e

    pub latest_bounds : {r : Option Response} → r ≡ bounded latest (with_job y s i) → unwrap_or r too_late ≡ with_job y s i
    unfolding bounded with_job
    latest_bounds e = ap (λ r. unwrap_or r too_late) e ∙ go (within (response y s i) latest) refl
      where
        go : (v : Bool) → within (response y s i) latest ≡ v → unwrap_or (cond v (Some (with_job y s i)) None) too_late ≡ with_job y s i
        go true e = refl
        go false e = sym (beyond_job y s i (not_within (response y s i) refl e))

  -- R with its job is the worst of the jobs that L counts
  with_at : (jobs : ℕ) → job_count y s i ≡ Some jobs → worst_with y s i jobs ≡ with_job y s i
  unfolding job_count count_from with_job worst_job response worst_from
  with_at jobs h = go (level_of y s) h
    where
      go : (v : Option ℕ) → count_from y i v ≡ Some jobs → worst_with y s i jobs ≡ record { time = worst_from y s i v; job = worst_job y s i v (worst_from y s i v) }
      go (Some l) e =
          let z : jobs ≡ before y l i = cc in
          ap (worst_with y s i) z
      go None e = let z : ◌≡◌ {A = ℕ} 0 1 = cc in absurd (omega arith)

-- R by the number of jobs, where task i stands at s
module _ (y : Tasks) (a : Assignment) (i : ℕ) (h : ℕ → ℕ) (s : Stand) (e : s ≡ stand_of y a i) (most : ℕ) where
  stood : response_of y a i ≡ with_job y (stand_by (record { p = a.p; h = h }) s) s.i
  stood = ap (λ v. with_job y v i) (stand_is y a i h s e) ∙ ap (λ (v : Stand). with_job y (stand_by (record { p = a.p; h = h }) s) v.i) (sym e)

  pub worst_is : (jobs : ℕ) → job_count y (stand_by (record { p = a.p; h = h }) s) s.i ≡ Some jobs
      → bounded most (worst_with y (stand_by (record { p = a.p; h = h }) s) s.i jobs) ≡ bounded most (response_of y a i)
  worst_is jobs c = ap (bounded most) (with_at _ _ _ jobs c ∙ sym stood)

  pub beyond_is : job_count y (stand_by (record { p = a.p; h = h }) s) s.i ≡ None → None ≡ bounded most (response_of y a i)
  unfolding bounded within
  beyond_is c = rw (stood, beyond_job _ _ _ (response_beyond _ _ _ c))

-- the verdict on a task, by its R up to the deadline
pub task-passes : (y : Tasks) (a : Assignment) (i : ℕ) {d : ℕ} → d ≡ y.d i → is_some (bounded d (response_of y a i)) ≡ task_passes y a i
unfolding bounded task_passes
task-passes y a i ed = rw (← ed) (go (within (response_of y a i).time _))
  where
    go : (v : Bool) → is_some (cond v (Some (response_of y a i)) None) ≡ v
    go true = refl
    go false = refl

pub task_fails : (y : Tasks) (a : Assignment) (i : ℕ) {d : ℕ} → d ≡ y.d i → bounded d (response_of y a i) ≡ None → false ≡ task_passes y a i
task_fails y a i ed e = sym (ap is_some e) ∙ task-passes y a i ed
