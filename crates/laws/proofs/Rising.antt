-- The sums that L, S and F solve never fall.
use Prim.Native.Nat.{ℕ, ◌+◌, ◌-◌, ◌≤◌}
use native.Mathlib.Omega.{arith}
use Rattle.paper.specs.Analysis.{Tasks, Standing, before, by, level_sum, start_sum, finish_sum}
use Rattle.laws.proofs.Arrivals.{div_mono, before_le, load_le}
use Rattle.laws.proofs.Least.{Mono}

pub by_le : (y : Tasks) (j x z : ℕ) → x ≤ z → by y x j ≤ by y z j
unfolding by
by_le y j x z h = omega (arith, div_mono (y.t j) (x + y.j j) (z + y.j j) (omega arith))

module _ (y : Tasks) (s : Standing) where
  pub level_le : Mono (level_sum y s)
  unfolding level_sum
  level_le x z h = omega (arith, load_le y s.level (before y x) (before y z) (λ j _. before_le y j x z h))

  pub start_le : (i k : ℕ) → Mono (start_sum y s i k)
  unfolding start_sum
  start_le i k x z h = omega (arith, load_le y s.above (by y x) (by y z) (λ j _. by_le y j x z h))

  pub finish_le : (i start : ℕ) → Mono (finish_sum y s i start)
  unfolding finish_sum
  finish_le i start x z h =
      omega (
        arith,
        load_le y s.cuts (λ j. before y x j - by y start j) (λ j. before y z j - by y start j) (λ j _. omega (arith, before_le y j x z h)),
      )
