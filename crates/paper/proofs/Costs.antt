-- C may lie above D; such a task never passes: no job finishes before it has had its own cost. Nor does one that its jitter leaves less time for.
use Rattle.std.specs.Prelude.{None, Option, Some}
use Prim.Native.Nat.{ℕ, ◌+◌, ◌≤◌, ◌<◌}
use mathlib.Core.Path.{◌≡◌, refl}
use mathlib.Core.Bool.{Bool, true, false}
use native.Mathlib.Omega.{arith}
use native.Mathlib.Nat.{zero-mul}
use borrow.Author.Tests.{leb-true, eqb-true}
use Rattle.paper.specs.Numbers.{Assignment}
use Rattle.paper.specs.Analysis.{Tasks, Standing, standing, start_of, finish_sum, finish_of, finish_from, job, with_job, task_passes, passes}
use Rattle.paper.specs.Lengths.{no_instant}
use Rattle.paper.proofs.Tests.{every_fails}
use Rattle.paper.proofs.Searched.{searched}
use Rattle.paper.proofs.Responses.{AllInTime, level_positive, first_job, within_jobs}

-- F is at least C(i)
finish_least : (y : Tasks) (s : Standing) (i k f : ℕ) → job y s i k ≡ Some f → y.c i ≤ f
unfolding job finish_from finish_of finish_sum
finish_least y s i k f e = go (start_of y s i k) e
  where
    go : (start : Option ℕ) → finish_from y s i start ≡ Some f → y.c i ≤ f
    go (Some start) h = let z = eqb-true f _ (searched _ _ _ f h).hit in omega arith
    go None h = let z : ◌≡◌ {A = ℕ} 0 1 = cc in absurd (omega arith)

pub no_time_left : (y : Tasks) (a : Assignment) (i : ℕ) → i < y.n → 1 ≤ y.t i → y.d i < y.c i + y.j i → passes y a ≡ false
unfolding passes
no_time_left y a i l ht h = every_fails y.n (task_passes y a) i l (fails (task_passes y a i) refl)
  where
    late : AllInTime y (standing y a i) i (y.d i) → ⊥
    late w =
        let j = w.jobs 0 (first_job y i w.l ht (level_positive y (standing y a i) w.l w.level)) in
        omega (arith, j.ok, zero-mul (y.t i), finish_least y (standing y a i) i 0 j.f j.finish)

    fails : (b : Bool) → task_passes y a i ≡ b → b ≡ false
    fails true e = absurd (late ((within_jobs y (standing y a i) i (y.d i)).0 (unfold task_passes with_job in e)))
    fails false e = refl

pub cost_above_deadline : (y : Tasks) (a : Assignment) (i : ℕ) → i < y.n → 1 ≤ y.t i → y.d i < y.c i → passes y a ≡ false
cost_above_deadline y a i l ht h = no_time_left y a i l ht (omega arith)

-- so where the tolerances refuse a task with 16, as it has no t, no assignment passes
pub no_instant_fails : (y : Tasks) (a : Assignment) (i : ℕ) → i < y.n → 1 ≤ y.t i → 1 ≤ y.c i → no_instant y i ≡ true → passes y a ≡ false
unfolding no_instant
no_instant_fails y a i l ht hc e = no_time_left y a i l ht (let h = leb-true (y.d i) (y.j i) e in omega arith)
