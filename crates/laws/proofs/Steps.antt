-- Between two steps of the ceilings a difference t − C(i) − sum only rises, so of the ticks between them only the last one matters for a tolerance.
use Prim.Native.Nat.{ℕ, ◌+◌, ◌-◌, ◌*◌, ◌/◌, ◌≤◌, ◌<◌}
use mathlib.Core.Path.{◌≡◌, refl, ap, ◌∙◌}
use mathlib.Core.Bool.{Bool, true, false, cond}
use native.Mathlib.Omega.{arith}
use native.Mathlib.Decide.{dec_le}
use mathlib.Core.Logic.{by_cases}
use native.Mathlib.Nat.{div-eq_of_lt-le, div-mul-le_self, lt-div-mul-add, add-mul, one-mul}
use borrow.Author.Tests.{le-leb, ltb-true}
use lib.Dec.{ltb}
use lib.IntN.{ℤ, sub_ℕ}
use lib.Signed.{◌≤ℤ◌}
use Rattle.paper.specs.Vocabulary.{ceil_div}
use Rattle.paper.specs.Numbers.{Assignment}
use Rattle.paper.specs.Analysis.{Tasks, before, by, load}
use Rattle.paper.specs.Lengths.{larger, largest, slack}
use Rattle.paper.proofs.Signed.{le_z-says, sub_order, ≤ℤ-trans, ≤ℤ-antisym}
use Rattle.paper.proofs.Extremes.{larger_either, larger_bounds, largest_bounds, largest_below}
use Rattle.laws.proofs.Every.{sum_same}

-- x lies before the multiple (1 + floor(x/T))·T, at which its stretch ends
pub step_after : (t x : ℕ) → 1 ≤ t → x < (1 + x / t) * t
step_after t x h = rw (add-mul 1 (x / t) t, one-mul t) (omega (arith, lt-div-mul-add {a = x} {b = t} h))

pub step_near : (t x : ℕ) → (1 + x / t) * t ≤ x + t
step_near t x = rw (add-mul 1 (x / t) t, one-mul t) (omega (arith, div-mul-le_self x t))

-- after x, up to that multiple, u / T rounds up to 1 + floor(x/T)
pub ceil_stays : (t x u : ℕ) → 1 ≤ t → x < u → u ≤ (1 + x / t) * t → ceil_div u t ≡ 1 + x / t
ceil_stays t x u h l k =
    div-eq_of_lt-le {k = 1 + x / t} t
    (omega (arith, step_near t x))
    (rw (add-mul (1 + x / t) 1 t, one-mul t) (omega arith))

-- the jobs asked for before u are those asked for by x
pub before_stays : (y : Tasks) (x u j : ℕ) → 1 ≤ y.t j → x < u → u + y.j j ≤ by y x j * y.t j → before y u j ≡ by y x j
unfolding before by
before_stays y x u j h l k = ceil_stays (y.t j) (x + y.j j) (u + y.j j) h (omega arith) k

-- a load counts the tasks of its set alone
cond_same : (s : Bool) (m n c : ℕ) → (s ≡ true → m ≡ n) → cond s (m * c) 0 ≡ cond s (n * c) 0
cond_same true m n c h = ap (λ (v : ℕ). v * c) (h refl)
cond_same false m n c h = refl

pub load_stays : (y : Tasks) (set : ℕ → Bool) (f g : ℕ → ℕ) → ((j : ℕ) → j < y.n → set j ≡ true → f j ≡ g j) → load y set f ≡ load y set g
unfolding load
load_stays y set f g h =
    sum_same y.n (λ j. cond (set j) (f j * y.c j) 0) (λ j. cond (set j) (g j * y.c j) 0)
    (λ j l. cond_same (set j) (f j) (g j) (y.c j) (h j l))

later : (m u v : ℕ) → u ≤ v → sub_ℕ u m ≤ℤ sub_ℕ v m
later m u v h = le_z-says (sub_order u m v m ∙ le-leb (u + m) (v + m) (omega arith))

-- where every ceiling of a task above i is at u what it is at v, the difference at u is at most that at v
pub slack_rises : (y : Tasks) (a : Assignment) (i u v : ℕ) → u ≤ v
    → ((j : ℕ) → j < y.n → a.p j < a.p i → before y u j ≡ before y v j)
    → slack y a i u ≤ℤ slack y a i v
unfolding slack
slack_rises y a i u v h k =
    let e = load_stays y (λ j. ltb (a.p j) (a.p i)) (before y u) (before y v) (λ j l t. k j l (ltb-true (a.p j) (a.p i) t)) in
    rw e (later (y.c i + load y (λ j. ltb (a.p j) (a.p i)) (before y v)) u v h)

-- the largest up to b is the larger of the largest up to a and what stands at b, if nothing between them is more than that
module _ (f : ℕ → ℤ) where
  pub largest_first : (b : ℕ) → 1 ≤ b → ((u : ℕ) → 1 ≤ u → u ≤ b → f u ≤ℤ f b) → largest f (b - 1) ≡ f b
  largest_first b low h =
      ≤ℤ-antisym
      (largest_below f (b - 1) (f b) (λ u l m. h u l (omega arith)))
      (largest_bounds f (b - 1) b low (omega arith))

  pub largest_step : (a b : ℕ) → 1 ≤ a → a < b → ((u : ℕ) → a < u → u ≤ b → f u ≤ℤ f b)
      → largest f (b - 1) ≡ larger (largest f (a - 1)) (f b)
  largest_step a b low less h =
      let both = larger_bounds (largest f (a - 1)) (f b) in
      ≤ℤ-antisym
      (largest_below f (b - 1) (larger (largest f (a - 1)) (f b))
      (λ u l m.
      by_cases (dec_le u a)
      (λ (k : u ≤ a). ≤ℤ-trans (largest_bounds f (a - 1) u l (omega arith)) both.0)
      (λ k. ≤ℤ-trans (h u (omega arith) (omega arith)) both.1)))
      (larger_either (λ x. x ≤ℤ largest f (b - 1)) (largest f (a - 1)) (f b)
      (largest_below f (a - 1) (largest f (b - 1)) (λ u l m. largest_bounds f (b - 1) u l (omega arith)))
      (largest_bounds f (b - 1) b (omega arith) (omega arith)))
