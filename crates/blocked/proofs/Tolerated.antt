-- What a tolerance is for: where D(i) ≤ T(i) and its jitter leaves a t, a task that every higher one may cut passes exactly when it is blocked for no longer than its tolerance.
use Rattle.std.proofs.Common.{Option, Some, None}
use Prim.Native.Nat.{ℕ, ◌+◌, ◌-◌, ◌*◌, ◌/◌, ◌≤◌, ◌<◌, zero-le}
use mathlib.Core.Path.{◌≡◌, refl, sym, ap, subst}
use mathlib.Core.Bool.{Bool, true, false, cond}
use mathlib.Core.Logic.{◌↔◌}
use native.Mathlib.Omega.{arith}
use native.Mathlib.Nat.{le_refl, zero-mul, one-mul, mul-pos, mul-le-mul_right, div-lt_iff_lt-mul}
use borrow.Author.Tests.{eq-eqb, eqb-true, ltb-false, leb-true, le-leb}
use lib.Dec.{T, leb, ltb, eqb, leb→le, le→leb}
use lib.IntN.{ℤ, pos, negsuc}
use lib.Signed.{◌≤ℤ◌}
use Rattle.paper.specs.Numbers.{horizon, Assignment}
use Rattle.paper.specs.Analysis.{Tasks, before, by, load, blocks, blocking, standing, level_sum, level_of, start_sum, start_of, finish_sum, finish_of, finish_from, job, with_job, task_passes}
use Rattle.paper.specs.Lengths.{slack, tolerance, no_instant, allowed, length_of}
use Rattle.paper.proofs.Signed.{≤ℤ-trans, pos_le, le_pos}
use Rattle.paper.proofs.Tests.{both}
use Rattle.paper.proofs.Searched.{searched}
use Rattle.paper.proofs.Extremes.{least_each}
use Rattle.paper.proofs.Responses.{AllInTime, InTime, level_positive, first_job, within_jobs}
use Rattle.paper.proofs.Lengths.{tolerance_bounds, tolerance_reached}
use Rattle.laws.proofs.Sums.{sum_le, sum_add, sum_one, part_bound, max_bound}
use Rattle.laws.proofs.Signed.{pos_sub}
use Rattle.laws.proofs.Arrivals.{before_le, by_is, load_same, load_part, load_less}
use Rattle.laws.proofs.Least.{fixed, Found, found}
use Rattle.laws.proofs.Rising.{level_le, start_le, finish_le}

-- task i of y is cut by every task above it, no other has its priority, its deadline lies within its period and the horizon, and its jitter leaves a t before it
pub record Cut (y : Tasks) (a : Assignment) (i : ℕ) : Type 0 where
  pub among : i < y.n
  pub periods : (j : ℕ) → j < y.n → 1 ≤ y.t j
  pub cost : 1 ≤ y.c i
  pub instant : no_instant y i ≡ false
  pub due : y.d i ≤ y.t i
  pub near : y.d i ≤ horizon
  pub alone : (j : ℕ) → j < y.n → a.p j ≡ a.p i → j ≡ i
  pub cut : a.h i ≡ a.p i

module _ (y : Tasks) (a : Assignment) (i : ℕ) (w : Cut y a i) where
  abbrev above : ℕ → Bool
  above j = ltb (a.p j) (a.p i)

  -- the blocking in L and S
  abbrev b : ℕ
  b = blocking y a i - 1

  -- up to its period less its jitter a task is asked for once
  once : (x : ℕ) → x + y.j i ≤ y.t i → before y x i ≤ 1
  unfolding before
  once x h =
      let one = w.periods i w.among in
      let l : (x + y.j i + (y.t i - 1)) / y.t i < 2 = (div-lt_iff_lt-mul one).1 (omega arith) in
      omega arith

  -- in L count those that count in S, and the task itself
  module _ (count : ℕ → ℕ) where
    level_part : (j : ℕ) → j < y.n
        → cond (leb (a.p j) (a.p i)) (count j * y.c j) 0 ≤ cond (above j) (count j * y.c j) 0 + cond (eqb j i) (count i * y.c i) 0
    level_part j l = go (above j) refl
      where
        equal : (t : Bool) → leb (a.p j) (a.p i) ≡ t → a.p i ≤ a.p j → cond t (count j * y.c j) 0 ≤ cond (eqb j i) (count i * y.c i) 0
        equal true e h =
            let q : j ≡ i = w.alone j l (omega (arith, leb-true (a.p j) (a.p i) e)) in
            rw (q, eq-eqb i i refl) (le_refl (count i * y.c i))
        equal false e h = zero-le

        go : (t : Bool) → above j ≡ t → cond (leb (a.p j) (a.p i)) (count j * y.c j) 0 ≤ cond t (count j * y.c j) 0 + cond (eqb j i) (count i * y.c i) 0
        go true e = omega (arith, part_bound (leb (a.p j) (a.p i)) (le_refl (count j * y.c j)))
        go false e = omega (arith, equal (leb (a.p j) (a.p i)) refl (ltb-false (a.p j) (a.p i) e))

    level_load : load y (λ j. leb (a.p j) (a.p i)) count ≤ load y above count + count i * y.c i
    unfolding load
    level_load =
        omega (
          arith,
          sum_le y.n _ _ level_part,
          sum_add y.n (λ j. cond (above j) (count j * y.c j) 0) (λ j. cond (eqb j i) (count i * y.c i) 0) _ (λ j l. refl),
          sum_one i (count i * y.c i) y.n,
        )

  -- what task i needs by x: its blocking, its cost, and all that the tasks above ask for before x
  abbrev need : ℕ → ℕ
  need x = b + y.c i + load y above (before y x)

  need_slack : (x : ℕ) → (pos b ≤ℤ slack y a i x) ↔ (need x ≤ x)
  unfolding slack
  need_slack x =
      let m : ℕ = y.c i + load y above (before y x) in
      let e = pos_sub b x m in
      let sum : b + m ≡ need x = omega arith in (
        λ h. omega (arith, leb→le (b + m) x (subst T e h.le)),
        λ h. record { le = subst T (sym e) (le→leb (b + m) x (omega arith)) },
      )

  -- S of job 0, by x, and F of a job that starts at S
  start_need : (x : ℕ) → start_sum y (standing y a i) i 0 x + y.c i ≡ need (x + 1)
  unfolding start_sum standing
  start_need x =
      omega (arith, zero-mul (y.c i), load_same y above (by y x) (before y (x + 1)) (λ j l. by_is y j (w.periods j l) x))

  module _ (v : ℕ) (e : v ≡ start_sum y (standing y a i) i 0 v) where
    finish_need : (x : ℕ) → v < x → finish_sum y (standing y a i) i v x ≡ need x
    unfolding finish_sum standing
    finish_need x l =
        let q = ap (λ h. load y (λ j. ltb (a.p j) h) (λ j. before y x j - by y v j)) w.cut in
        omega (
          arith,
          start_need v,
          load_same y above (by y v) (before y (v + 1)) (λ j m. by_is y j (w.periods j m) v),
          load_less y above (before y x) (by y v) (λ j m. rw (by_is y j (w.periods j m) v) (before_le y j (v + 1) x (omega arith))),
        )

  -- a job that is in time has all that it needs by its finish
  in-time : InTime y (standing y a i) i (y.d i) 0 → pos b ≤ℤ tolerance y a i
  unfolding job finish_from start_of finish_of
  in-time o = go (start_of y (standing y a i) i 0) refl o.finish
    where
      go : (start : Option ℕ) → start_of y (standing y a i) i 0 ≡ start → finish_from y (standing y a i) i start ≡ Some o.f → pos b ≤ℤ tolerance y a i
      go (Some v) ev ef =
          let sum = start_sum y (standing y a i) i 0 in
          let at : v ≡ sum v = eqb-true v (sum v) (searched (fixed sum) 0 (horizon + 1) v ev).hit in
          let end = finish_sum y (standing y a i) i v in
          let f = searched (fixed end) (v + 1) (horizon - v) o.f ef in
          let hit : o.f ≡ end o.f = eqb-true o.f (end o.f) f.hit in
          let n = finish_need v at o.f (omega (arith, f.low)) in
          ≤ℤ-trans
          ((need_slack o.f).1 (omega arith))
          (tolerance_bounds y a i o.f (record { low = omega (arith, f.low); high = omega (arith, o.ok, zero-mul (y.t i)) }))
      go None ev ef = let z : ◌≡◌ {A = ℕ} 0 1 = cc in absurd (omega arith)

  -- and where it has all that it needs by u + 1, L and the S and F of its one job are there by then
  module _ (u : ℕ) (fits : need (u + 1) ≤ u + 1) (early : u + 1 + y.j i ≤ y.d i) where
    begins : Found (start_sum y (standing y a i) i 0) 0 (horizon + 1) u
    begins =
        found (start_sum y (standing y a i) i 0) 0 (horizon + 1) u (start_le y (standing y a i) i 0) zero-le zero-le
        (omega (arith, w.near))
        (omega (arith, start_need u, w.cost))

    ends : Found (finish_sum y (standing y a i) i begins.z) (begins.z + 1) (horizon - begins.z) (u + 1)
    ends =
        let v = begins.z in
        let needs = finish_need v begins.fix in
        found (finish_sum y (standing y a i) i v) (v + 1) (horizon - v) (u + 1) (finish_le y (standing y a i) i v)
        (omega (arith, needs (v + 1) (omega arith), start_need v, begins.fix, w.cost))
        (omega (arith, begins.high))
        (omega (arith, begins.high, w.near))
        (omega (arith, needs (u + 1) (omega (arith, begins.high))))

    first_ends : job y (standing y a i) i 0 ≡ Some ends.z
    unfolding job finish_from start_of finish_of
    first_ends = rw begins.is ends.is

    levels : Found (level_sum y (standing y a i)) 1 horizon (u + 1)
    unfolding level_sum standing
    levels =
        found (level_sum y (standing y a i)) 1 horizon (u + 1) (level_le y (standing y a i))
        (omega (
          arith,
          load_part y (λ j. leb (a.p j) (a.p i)) (before y 1) i w.among (le-leb (a.p i) (a.p i) (le_refl (a.p i))),
          mul-pos {m = before y 1 i} (first_job y i 1 (w.periods i w.among) (le_refl 1)) w.cost,
        ))
        (omega arith)
        (omega (arith, w.near))
        (omega (arith, level_load (before y (u + 1)), mul-le-mul_right (y.c i) (once (u + 1) (omega (arith, w.due))), one-mul (y.c i)))

    all_in_time : AllInTime y (standing y a i) i (y.d i)
    unfolding level_of
    all_in_time =
        record {
          l = levels.z;
          level = levels.is;
          jobs =
              λ k m.
              let q : k ≡ 0 = omega (arith, once levels.z (omega (arith, levels.high, w.due))) in
              rw q (record { f = ends.z; finish = first_ends; ok = omega (arith, ends.high) });
        }

  -- R(i) ≤ D(i) exactly where the blocking in L and S is at most the tolerance
  pub tolerated : (task_passes y a i ≡ true) ↔ (pos (blocking y a i - 1) ≤ℤ tolerance y a i)
  unfolding task_passes with_job
  tolerated = (
    λ e.
        let o = (within_jobs y (standing y a i) i (y.d i)).0 e in
        in-time (o.jobs 0 (first_job y i o.l (w.periods i w.among) (level_positive y (standing y a i) o.l o.level))),
    λ h.
        let r = tolerance_reached y a i w.instant in
        let n : r.0 ≡ r.0 - 1 + 1 = omega (arith, r.1.low) in
        let fits = (need_slack r.0).0 (rw r.2 at h) in
        (within_jobs y (standing y a i) i (y.d i)).1 (all_in_time (r.0 - 1) (rw n at fits) (omega (arith, r.1.low, r.1.high))),
  )

  -- What a length is for: where i's tolerance isn't below zero, and no task that blocks i costs more than its own length, i passes.
  pub uncut : pos 0 ≤ℤ tolerance y a i → ((k : ℕ) → k < y.n → blocks a i k ≡ true → pos (y.c k) ≤ℤ length_of y a k) → task_passes y a i ≡ true
  unfolding blocking blocks length_of allowed
  uncut positive within = tolerated.1 (go (tolerance y a i) refl positive)
    where
      costs : (most k : ℕ) → tolerance y a i ≡ pos most → k < y.n → (t : Bool) → blocks a i k ≡ t → cond t (y.c k) 0 ≤ most + 1
      costs most k e m true t =
          let lower = (both (leb (a.h k) (a.p i)) (ltb (a.p i) (a.p k)) t).1 in
          let held = ≤ℤ-trans (within k m t) (least_each (λ j. ltb (a.p j) (a.p k)) (allowed y a) (pos (y.c k)) y.n i w.among lower) in
          le_pos (rw e at held)
      costs most k e m false t = zero-le

      go : (z : ℤ) → tolerance y a i ≡ z → pos 0 ≤ℤ z → pos (blocking y a i - 1) ≤ℤ tolerance y a i
      go (pos most) e h =
          let l : blocking y a i ≤ most + 1 = max_bound y.n (most + 1) _ (λ k m. costs most k e m (blocks a i k) refl) in
          rw e (pos_le (omega arith))
      go (negsuc n) e h = absurd h.le
