-- An arrival at a start is not lost, blocked or not: no job starts on a tick on which a task above arrives.
use Rattle.std.proofs.Common.{Some}
use Prim.Native.Nat.{ℕ, zero, suc, ◌+◌, ◌-◌, ◌≤◌, ◌<◌, zero-le}
use mathlib.Core.Path.{◌≡◌, ap}
use mathlib.Core.Bool.{true}
use mathlib.Core.Logic.{⊎_elim}
use native.Mathlib.Omega.{arith}
use native.Mathlib.Nat.{eq-or-lt_of_le, mul-pos}
use borrow.Author.Tests.{eqb-true}
use Rattle.paper.specs.Numbers.{horizon}
use Rattle.paper.specs.Analysis.{Tasks, Standing, before, by, start_sum, start_of}
use Rattle.paper.proofs.Searched.{searched}
use Rattle.laws.proofs.Arrivals.{by_is, load_part, load_less}
use Rattle.laws.proofs.Least.{fixed, least_under}
use Rattle.laws.proofs.Rising.{by_le, start_le}

-- job k of task i, which stands at s, and a task j that counts in its start
module _ (y : Tasks) (s : Standing) (i k : ℕ) (j : ℕ) (l : j < y.n) (cost : 1 ≤ y.c j) (period : 1 ≤ y.t j) (above : s.above j ≡ true) where
  -- the jobs of j that arrive after x and by x + 1 are in the sum at x + 1 and not in that at x
  arrives : (x : ℕ) → by y x j < by y (x + 1) j → start_sum y s i k x < start_sum y s i k (x + 1)
  unfolding start_sum
  arrives x h =
      omega (
        arith,
        load_less y s.above (by y (x + 1)) (by y x) (λ j _. by_le y j x (x + 1) (omega arith)),
        load_part y s.above (λ j. by y (x + 1) j - by y x j) j l above,
        mul-pos {m = by y (x + 1) j - by y x j} (omega arith) cost,
      )

  -- the first job of j, asked for at 0, is in every sum
  first_in : 1 ≤ start_sum y s i k 0
  unfolding start_sum by
  first_in =
      omega (
        arith,
        load_part y s.above (by y 0) j l above,
        mul-pos {m = by y 0 j} (omega arith) cost,
      )

  -- as many jobs of j have been asked for before S as by S
  pub nothing_lost : (v : ℕ) → start_of y s i k ≡ Some v → before y v j ≡ by y v j
  unfolding start_of
  nothing_lost v e =
      let f = start_sum y s i k in
      go v (eqb-true v (f v) (searched (fixed f) 0 (horizon + 1) v e).hit) (least_under f 0 (horizon + 1) v (start_le y s i k) zero-le e)
    where
      go : (v : ℕ) → v ≡ start_sum y s i k v → ((x : ℕ) → 0 ≤ x → start_sum y s i k x ≤ x → v ≤ x) → before y v j ≡ by y v j
      go zero e under = absurd (omega (arith, first_in))
      go (suc u) e under =
          let n : suc u ≡ u + 1 = omega arith in
          let same = ap (start_sum y s i k) n in
          rw (n, ← by_is y j period u)
          (⊎_elim
          (λ q. q)
          (λ h. absurd (omega (arith, under u zero-le (omega (arith, arrives u h)))))
          (eq-or-lt_of_le (by_le y j u (u + 1) (omega arith))))
