-- Sums and largest values over the numbers below n: they rise with each part, and are bounded by its bound.
use Prim.Native.Nat.{ℕ, zero, suc, ◌+◌, ◌*◌, ◌≤◌, ◌<◌, zero-le, max}
use mathlib.Core.Path.{◌≡◌, refl, ap₂}
use mathlib.Core.Bool.{Bool, true, false, cond}
use mathlib.Core.Logic.{⊎_elim}
use native.Mathlib.Omega.{arith}
use native.Mathlib.Numerals.{add-one}
use native.Mathlib.Nat.{add-le-add, eq-or-lt_of_le, suc-mul}
use lib.Dec.{eqb}
use borrow.Author.Tests.{eqb-true}
use Rattle.paper.specs.Vocabulary.{sum_to, max_to}

pub sum_none : (f : ℕ → ℕ) → sum_to 0 f ≡ 0
unfolding sum_to
sum_none f = refl

pub sum_le : (n : ℕ) (f g : ℕ → ℕ) → ((j : ℕ) → j < n → f j ≤ g j) → sum_to n f ≤ sum_to n g
unfolding sum_to
sum_le zero f g h = zero-le
sum_le (suc n) f g h = add-le-add (sum_le n f g (λ j l. h j (omega arith))) (h n (omega arith))

pub sum_add : (n : ℕ) (f g h : ℕ → ℕ) → ((j : ℕ) → j < n → f j + g j ≡ h j) → sum_to n f + sum_to n g ≡ sum_to n h
unfolding sum_to
sum_add zero f g h w = refl
sum_add (suc n) f g h w = omega (arith, sum_add n f g h (λ j l. w j (omega arith)), w n (omega arith))

pub sum_bound : (n most : ℕ) (f : ℕ → ℕ) → ((j : ℕ) → j < n → f j ≤ most) → sum_to n f ≤ n * most
unfolding sum_to
sum_bound zero most f h = zero-le
sum_bound (suc n) most f h = rw suc-mul (add-le-add (sum_bound n most f (λ j l. h j (omega arith))) (h n (omega arith)))

-- each part is at most the whole
pub sum_part : (n : ℕ) (f : ℕ → ℕ) (i : ℕ) → i < n → f i ≤ sum_to n f
unfolding sum_to
sum_part zero f i l = absurd (omega arith)
sum_part (suc n) f i l =
    let h : i ≤ n = omega arith in
    ⊎_elim (λ e. rw e (omega arith)) (λ m. omega (arith, sum_part n f i m)) (eq-or-lt_of_le h)

-- a sum of which one part counts is at most that part
pub sum_one : (i v n : ℕ) → sum_to n (λ j. cond (eqb j i) v 0) ≤ v
unfolding sum_to
sum_one i v n = (upto n).1
  where
    upto : (n : ℕ) → (n ≤ i → sum_to n (λ j. cond (eqb j i) v 0) ≡ 0) × (sum_to n (λ j. cond (eqb j i) v 0) ≤ v)
    upto zero = (λ h. refl, zero-le)
    upto (suc n) = go (eqb n i) refl (upto n)
      where
        rest : ℕ
        rest = sum_to n (λ j. cond (eqb j i) v 0)

        go : (t : Bool) → eqb n i ≡ t → (n ≤ i → rest ≡ 0) × (rest ≤ v) → (suc n ≤ i → rest + cond t v 0 ≡ 0) × (rest + cond t v 0 ≤ v)
        go true e w = let q = eqb-true n i e in (λ h. absurd (omega arith), omega (arith, w.0 (omega arith)))
        go false e w = (λ h. omega (arith, w.0 (omega arith)), omega (arith, w.1))

pub max_none : (f : ℕ → ℕ) → max_to 0 f ≡ 0
unfolding max_to
max_none f = refl

pub max_more : (n : ℕ) (f : ℕ → ℕ) → max_to (n + 1) f ≡ max (max_to n f) (f n)
unfolding max_to
max_more n f = rw add-one

-- the turn of a loop that has x so far, and its end
pub max_turn : (k : ℕ) (f : ℕ → ℕ) {x t : ℕ} → x ≡ max_to k f → t ≡ f k → max x t ≡ max_to (k + 1) f
max_turn k f e g = rw (max_more k f, e, g)

pub max_same : (n : ℕ) (f g : ℕ → ℕ) → ((j : ℕ) → j < n → f j ≡ g j) → max_to n f ≡ max_to n g
unfolding max_to
max_same zero f g h = refl
max_same (suc n) f g h = ap₂ max (max_same n f g (λ j l. h j (omega arith))) (h n (omega arith))

pub max_bound : (n most : ℕ) (f : ℕ → ℕ) → ((j : ℕ) → j < n → f j ≤ most) → max_to n f ≤ most
unfolding max_to
max_bound zero most f h = zero-le
max_bound (suc n) most f h = omega (arith, max_bound n most f (λ j l. h j (omega arith)), h n (omega arith))

-- each of them is at most the largest
pub max_part : (n : ℕ) (f : ℕ → ℕ) (i : ℕ) → i < n → f i ≤ max_to n f
unfolding max_to
max_part zero f i l = absurd (omega arith)
max_part (suc n) f i l =
    let h : i ≤ n = omega arith in
    ⊎_elim (λ e. rw e (omega arith)) (λ m. omega (arith, max_part n f i m)) (eq-or-lt_of_le h)

-- a part that counts or not
pub part_le : (t : Bool) {a b : ℕ} → a ≤ b → cond t a 0 ≤ cond t b 0
part_le true h = h
part_le false h = zero-le

pub part_bound : (t : Bool) {a most : ℕ} → a ≤ most → cond t a 0 ≤ most
part_bound true h = h
part_bound false h = zero-le
