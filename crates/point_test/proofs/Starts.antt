-- Whether some t lets the last region start is whether the least solution of an equation lies early enough.
use Prim.Native.Nat.{ℕ, ◌+◌, ◌-◌, ◌*◌, ◌≤◌, zero-le}
use mathlib.Core.Path.{◌≡◌, ap, sym, ◌∙◌}
use native.Mathlib.Omega.{arith}
use lib.Dec.{ltb, eqb}
use Rattle.paper.specs.Numbers.{most_ticks, horizon, Assignment}
use Rattle.paper.specs.Analysis.{Tasks, before, within}
use Rattle.paper.specs.Points.{before_last, has_time}
use Rattle.laws.proofs.Arrivals.{before_le, load_le}
use Rattle.laws.proofs.Least.{Mono, least_same, some_least}
use Rattle.climb.specs.Work.{work, side, solution, Rises}
use Rattle.climb.specs.declared.Equation.{Equation}

abbrev pub start_by : ℕ → ℕ → Equation
start_by rank base = record { limit = rank; base = base; off = 0; edge = 0 }

module _ (y : Tasks) (a : Assignment) (i q longest : ℕ) where
  -- all that is done before the last region starts at t
  abbrev need : ℕ → ℕ
  need t = before_last y a i q t + longest

  need_le : Mono need
  unfolding before_last
  need_le x z h = omega (arith, load_le y (λ j. ltb (a.p j) (a.p i)) (before y x) (before y z) (λ j _. before_le y j x z h))

  module _ (base : ℕ) (e : base ≡ y.c i - q + longest) where
    side_is : (x : ℕ) → side y a (start_by (a.p i) base) x ≡ need x
    unfolding side work before_last
    side_is x = let z : x + 0 ≡ x = omega arith in rw z (omega arith)

    need_some : 1 ≤ base → 1 ≤ need 1
    unfolding before_last
    need_some some = omega arith

    pub start_rises : 1 ≤ base → base ≤ 2 * most_ticks → Rises y a (start_by (a.p i) base) 1
    start_rises some few = record { base = omega arith; edge = zero-le; off = zero-le; rise = omega (arith, side_is 1, need_some some) }

    pub start_is : 1 ≤ base → (latest : ℕ) → latest ≡ y.d i - y.j i - q → latest ≤ horizon
        → has_time y a i q longest ≡ within (solution y a (start_by (a.p i) base) 1) latest
    unfolding has_time solution
    start_is some latest l near =
        rw (← l)
        (some_least need latest need_le (need_some some) near
        ∙ ap (λ x. within x latest) (least_same _ _ 1 horizon (λ x _. ap (eqb x) (sym (side_is x)))))
