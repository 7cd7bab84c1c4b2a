-- Laws of the work that tasks bring: it rises with x, and is bounded.
use Prim.Native.Nat.{ℕ, ◌+◌, ◌*◌, ◌≤◌, ◌<◌}
use mathlib.Core.Path.{◌≡◌, refl}
use mathlib.Core.Bool.{cond}
use native.Mathlib.Omega.{arith}
use native.Mathlib.Nat.{le_trans, mul-le-mul, mul-le-mul_right}
use lib.Dec.{ltb}
use Rattle.paper.specs.Vocabulary.{sum_to, ceil_div}
use Rattle.paper.specs.Numbers.{most_tasks, most_ticks, horizon, Assignment}
use Rattle.paper.specs.Analysis.{Tasks, before, load}
use Rattle.laws.proofs.Least.{Mono}
use Rattle.laws.proofs.Sums.{sum_bound, part_bound}
use Rattle.laws.proofs.Arrivals.{ceil_bound, before_le, load_le}
use Rattle.columns.specs.Columns.{Ranged}
use Rattle.climb.specs.Work.{work, side, Rises}
use Rattle.climb.specs.declared.Equation.{Equation}

-- the most that one task adds
abbrev pub most_part : ℕ
most_part = (horizon + 1 + most_ticks) * most_ticks

-- what task j adds
abbrev pub part_of : Tasks → Assignment → ℕ → ℕ → ℕ → ℕ
part_of y a limit x j = cond (ltb (a.p j) limit) (ceil_div (x + y.j j) (y.t j) * y.c j) 0

-- by its own numbers
pub part_is : (y : Tasks) (a : Assignment) (limit x k : ℕ) {c t j r : ℕ} → c ≡ y.c k → t ≡ y.t k → j ≡ y.j k
    → r ≡ cond (ltb (a.p k) limit) (ceil_div (x + j) t * c) 0 → r ≡ part_of y a limit x k
part_is y a limit x k ec et ej e = rw (← ec, ← et, ← ej) e

pub jobs_bound : (x t j c : ℕ) → x ≤ horizon + 1 → t ≤ most_ticks → j < t → c ≤ most_ticks → ceil_div (x + j) t * c ≤ most_part
jobs_bound x t j c hx ht hj hc = mul-le-mul {n₂ = horizon + 1 + most_ticks} {m₂ = most_ticks} (le_trans (ceil_bound t (x + j) (omega arith)) (omega arith)) hc

module _ (y : Tasks) (a : Assignment) where
  module _ (limit : ℕ) where
    pub work_is : (x : ℕ) → work y a limit x ≡ sum_to y.n (part_of y a limit x)
    unfolding work load before
    work_is x = refl

    pub work_le : Mono (work y a limit)
    unfolding work
    work_le x z h = load_le y _ _ _ (λ j l. before_le y j x z h)

    module _ (r : Ranged y) (x : ℕ) (h : x ≤ horizon + 1) where
      pub part_of_bound : (j : ℕ) → j < y.n → part_of y a limit x j ≤ most_part
      part_of_bound j l = part_bound (ltb (a.p j) limit) (jobs_bound x _ _ _ h (r.periods j l).1 (r.jitters j l) (r.costs j l).1)

      pub sum_of_bound : (j : ℕ) → j ≤ y.n → sum_to j (part_of y a limit x) ≤ j * most_part
      sum_of_bound j l = sum_bound j most_part _ (λ k m. part_of_bound k (le_trans m l))

      pub work_bound : work y a limit x ≤ most_tasks * most_part
      work_bound = rw (work_is x) (le_trans (sum_of_bound y.n (omega arith)) (mul-le-mul_right most_part r.few))

  module _ (e : Equation) where
    pub side_le : Mono (side y a e)
    unfolding side
    side_le x z h = omega (arith, work_le e.limit (x + e.edge) (z + e.edge) (omega arith))

    -- what holds where the climb starts holds further up
    pub rises_on : (x z : ℕ) → x ≤ z → z ≤ side y a e z → Rises y a e x → Rises y a e z
    rises_on x z h up r =
        record {
          base = r.base;
          edge = r.edge;
          off = omega (arith, r.off, work_le e.limit (x + e.edge) (z + e.edge) (omega arith));
          rise = up;
        }
