-- How many jobs have arrived, and the load of those that count: what rises, and how far. Nothing above these laws looks into the division.
use Prim.Native.Nat.{ℕ, zero, suc, ◌+◌, ◌-◌, ◌*◌, ◌/◌, ◌≤◌, ◌<◌, zero-le}
use mathlib.Core.Path.{◌≡◌, refl, ap, sym, ◌∙◌}
use mathlib.Core.Bool.{Bool, true, false, cond}
use native.Mathlib.Omega.{arith}
use native.Mathlib.Nat.{le_trans, le-div_iff_mul-le, div-lt_iff_lt-mul, div-mul-le_self, div-zero, mul-le-mul_left, mul-le-mul_right, add-mul, mul-one, one-mul, add-div_right}
use Rattle.paper.specs.Vocabulary.{ceil_div}
use Rattle.paper.specs.Analysis.{Tasks, before, by, load}
use Rattle.laws.proofs.Every.{sum_same}
use Rattle.laws.proofs.Sums.{sum_le, sum_add, sum_part, part_le}

pub div_mono : (t a b : ℕ) → a ≤ b → a / t ≤ b / t
div_mono zero a b h = rw (div-zero a) zero-le
div_mono (suc t) a b h = (le-div_iff_mul-le {k = suc t} (omega arith)).1 (le_trans (div-mul-le_self a (suc t)) h)

pub ceil_bound : (t x : ℕ) → 1 ≤ t → ceil_div x t ≤ x
ceil_bound t x ht =
    let h : x * 1 ≤ x * t = mul-le-mul_left x ht in
    let l : ceil_div x t < x + 1 = (div-lt_iff_lt-mul ht).1 (rw (add-mul x 1 t) (omega (arith, h, mul-one x, one-mul t))) in
    omega arith

-- and with a jitter below the period at most one more
pub late_bound : (t x j : ℕ) → j < t → ceil_div (x + j) t ≤ x + 1
late_bound t x j h =
    let e : x + j + (t - 1) ≤ x + (t - 1) + t = omega arith in
    let low : 1 ≤ t = omega arith in
    let late = add-div_right (x + (t - 1)) low in
    omega (arith, div_mono t (x + j + (t - 1)) (x + (t - 1) + t) e, late, ceil_bound t x (omega arith))

module _ (y : Tasks) (j : ℕ) where
  -- with later x no fewer
  pub before_le : (x z : ℕ) → x ≤ z → before y x j ≤ before y z j
  unfolding before
  before_le x z h = div_mono (y.t j) (x + y.j j + (y.t j - 1)) (z + y.j j + (y.t j - 1)) (omega arith)

  module _ (h : 1 ≤ y.t j) where
    -- by x are those before x + 1
    pub by_is : (x : ℕ) → by y x j ≡ before y (x + 1) j
    unfolding by before
    by_is x =
        let e : x + 1 + y.j j + (y.t j - 1) ≡ x + y.j j + y.t j = omega arith in
        let f : 1 + (x + y.j j) / y.t j ≡ (x + y.j j) / y.t j + 1 = omega arith in
        rw (e, f) (sym (add-div_right (x + y.j j) h))

module _ (y : Tasks) (set : ℕ → Bool) where
  pub load_same : (f g : ℕ → ℕ) → ((j : ℕ) → j < y.n → f j ≡ g j) → load y set f ≡ load y set g
  unfolding load
  load_same f g h = sum_same y.n _ _ (λ j l. ap (λ k. cond (set j) (k * y.c j) 0) (h j l))

  pub load_le : (f g : ℕ → ℕ) → ((j : ℕ) → j < y.n → f j ≤ g j) → load y set f ≤ load y set g
  unfolding load
  load_le f g h = sum_le y.n _ _ (λ j l. part_le (set j) (mul-le-mul_right (y.c j) (h j l)))

  -- one task that counts
  pub load_part : (f : ℕ → ℕ) (i : ℕ) → i < y.n → set i ≡ true → f i * y.c i ≤ load y set f
  unfolding load
  load_part f i l e =
      let q : cond (set i) (f i * y.c i) 0 ≡ f i * y.c i = ap (λ b. cond b (f i * y.c i) 0) e in
      rw q at (sum_part y.n (λ j. cond (set j) (f j * y.c j) 0) i l)

  -- a difference of counts is a difference of loads
  pub load_less : (f g : ℕ → ℕ) → ((j : ℕ) → j < y.n → g j ≤ f j) → load y set (λ j. f j - g j) + load y set g ≡ load y set f
  unfolding load
  load_less f g h = sum_add y.n _ _ _ (λ j l. go (set j) (f j) (g j) (y.c j) (h j l))
    where
      go : (b : Bool) (u v c : ℕ) → v ≤ u → cond b ((u - v) * c) 0 + cond b (v * c) 0 ≡ cond b (u * c) 0
      go true u v c l = let e : u - v + v ≡ u = omega arith in sym (add-mul (u - v) v c) ∙ ap (λ w. w * c) e
      go false u v c l = refl
