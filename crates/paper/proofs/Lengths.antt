-- Tolerances are what documents 01 and 02 (item 8) say they are, and lengths what document 02, item 5, does. Records are counted from 0 here: k is record k + 1.
use Prim.Native.Nat.{ℕ, suc, ◌+◌, ◌-◌, ◌*◌, ◌≤◌, ◌<◌}
use mathlib.Core.Path.{◌≡◌, refl, sym, ap}
use mathlib.Core.Bool.{Bool, true, false, true≢false, ◌||◌, cond}
use mathlib.Core.Logic.{◌↔◌, ◌⊎◌, inl, inr, by_cases}
use native.Mathlib.Decide.{dec_le}
use native.Mathlib.Omega.{arith}
use borrow.Author.Tests.{le-leb, leb-true, leb-false, lt-ltb, ltb-true}
use lib.Dec.{ltb}
use lib.IntN.{pos, nat_abs, ◌-ℤ◌, ◌+ℤ◌}
use lib.Signed.{lt_z, ◌≤ℤ◌, ◌<ℤ◌, ≤ℤ_refl, yes_non_neg, pos-nat_abs}
use Rattle.paper.specs.Vocabulary.{sum_to, ceil_div}
use Rattle.paper.specs.Numbers.{Assignment}
use Rattle.paper.specs.Analysis.{Tasks, before, load}
use Rattle.paper.specs.Lengths.{slack, tolerance, no_instant, lowest_no_instant, lowest_below_zero, allowed, length_of}
use Rattle.paper.proofs.Signed.{sub_sum, ≤ℤ-trans, pos_le, le_pos, lt_z-says, lt_z-denies, lt_z-fails, next_positive}
use Rattle.paper.proofs.Extremes.{largest_bounds, largest_reached, least_start, least_each, least_above, lowest_none, none_passes, first_passes}

-- The differences that a tolerance is the largest of: t − C(i) − sum over p(j) < p(i) of ceil((t + J(j))/T(j))·C(j), by the subtraction of signed numbers, so exact below, at and above zero.
pub slack_is : (y : Tasks) (a : Assignment) (i t : ℕ)
    → slack y a i t ≡ pos t -ℤ pos (y.c i) -ℤ pos (sum_to y.n (λ j. cond (ltb (a.p j) (a.p i)) (ceil_div (t + y.j j) (y.t j) * y.c j) 0))
unfolding slack load before
slack_is y a i t = sym (sub_sum t (y.c i) (load y (λ j. ltb (a.p j) (a.p i)) (before y t)))

-- A t that a tolerance is taken over lies from 1 to D(i) − J(i)
pub record Instant (y : Tasks) (i t : ℕ) : Type 0 where
  pub low : 1 ≤ t
  pub high : t + y.j i ≤ y.d i

-- There is none exactly where the task falls under refusal 16 for that.
pub no-instant : (y : Tasks) (i : ℕ) → (no_instant y i ≡ true) ↔ ((t : ℕ) → Instant y i t → ⊥)
unfolding no_instant
no-instant y i = (
  λ e t v. let l = leb-true (y.d i) (y.j i) e in omega (arith, v.low, v.high),
  λ h. by_cases (dec_le (y.d i) (y.j i)) (λ (l : y.d i ≤ y.j i). le-leb (y.d i) (y.j i) l) (λ l. absurd (h 1 (record { low = omega arith; high = omega arith }))),
)

-- Tolerance(i) is at least each of the differences at these t,
pub tolerance_bounds : (y : Tasks) (a : Assignment) (i t : ℕ) → Instant y i t → slack y a i t ≤ℤ tolerance y a i
unfolding tolerance
tolerance_bounds y a i t v = largest_bounds (slack y a i) (y.d i - y.j i - 1) t v.low (omega (arith, v.low, v.high))

-- and is one of them, where there is a t.
pub tolerance_reached : (y : Tasks) (a : Assignment) (i : ℕ) → no_instant y i ≡ false
    → (t : ℕ) × Instant y i t × (tolerance y a i ≡ slack y a i t)
unfolding tolerance no_instant
tolerance_reached y a i e =
    let l = leb-false (y.d i) (y.j i) e in
    let r = largest_reached (slack y a i) (y.d i - y.j i - 1) in
    (r.0, record { low = r.1; high = omega (arith, r.2) }, r.3)

-- a task that 16 isn't given for: there is a t, and the tolerance isn't below zero
pub record Tolerable (y : Tasks) (a : Assignment) (k : ℕ) : Type 0 where
  pub instant : no_instant y k ≡ false
  pub least : pos 0 ≤ℤ tolerance y a k

abbrev pub falls : Tasks → Assignment → ℕ → Bool
falls y a k = no_instant y k || lt_z (tolerance y a k) (pos 0)

pub falls_not : (y : Tasks) (a : Assignment) (k : ℕ) → (falls y a k ≡ false) ↔ Tolerable y a k
falls_not y a k = (λ e. says (no_instant y k) refl e, λ v. rw v.instant (lt_z-fails v.least))
  where
    says : (b : Bool) → no_instant y k ≡ b → (b || lt_z (tolerance y a k) (pos 0)) ≡ false → Tolerable y a k
    says true n e = absurd (true≢false e)
    says false n e = record { instant = n; least = lt_z-denies e }

-- Refusal 16 names, for lengths, the region check and the test of fixed preemption points, the lowest record with no t or with a tolerance below zero,
pub lowest_named : (y : Tasks) (a : Assignment) (k : ℕ) → lowest_below_zero y a ≡ suc k
    → (k < y.n) × ((no_instant y k ≡ true) ⊎ (tolerance y a k <ℤ pos 0)) × ((j : ℕ) → j < k → Tolerable y a j)
unfolding lowest_below_zero
lowest_named y a k e =
    let r = first_passes (falls y a) y.n k e in
    (r.0, either (no_instant y k) refl r.1, λ j l. (falls_not y a j).0 (r.2 j l))
  where
    either : (b : Bool) → no_instant y k ≡ b → (b || lt_z (tolerance y a k) (pos 0)) ≡ true → (no_instant y k ≡ true) ⊎ (tolerance y a k <ℤ pos 0)
    either true n t = inl n
    either false n t = inr (lt_z-says t)

-- and is not given exactly where there is none.
pub lowest_zero : (y : Tasks) (a : Assignment) → (lowest_below_zero y a ≡ 0) ↔ ((j : ℕ) → j < y.n → Tolerable y a j)
unfolding lowest_below_zero
lowest_zero y a = (
  λ e j l. (falls_not y a j).0 (none_passes (falls y a) y.n e j l),
  λ h. lowest_none (falls y a) y.n (λ j l. (falls_not y a j).1 (h j l)),
)

-- For the tolerances' own call it names the lowest record with no t, and is not given exactly where there is none.
pub none_named : (y : Tasks) (k : ℕ) → lowest_no_instant y ≡ suc k
    → (k < y.n) × (no_instant y k ≡ true) × ((j : ℕ) → j < k → no_instant y j ≡ false)
unfolding lowest_no_instant
none_named y k e = first_passes (no_instant y) y.n k e

pub none_zero : (y : Tasks) → (lowest_no_instant y ≡ 0) ↔ ((j : ℕ) → j < y.n → no_instant y j ≡ false)
unfolding lowest_no_instant
none_zero y = (λ e. none_passes (no_instant y) y.n e, lowest_none (no_instant y) y.n)

-- q is at most C(k), and at most the tolerance plus 1 of every task above k
pub record Within (y : Tasks) (a : Assignment) (k q : ℕ) : Type 0 where
  pub cost : q ≤ y.c k
  pub above : (j : ℕ) → j < y.n → a.p j < a.p k → pos q ≤ℤ (tolerance y a j +ℤ pos 1)

-- Where each task has a t and no tolerance is below zero, length(k) is a natural number that is so, and the largest that is.
pub length_largest : (y : Tasks) (a : Assignment) (k : ℕ) → ((j : ℕ) → j < y.n → Tolerable y a j)
    → (q : ℕ) × (length_of y a k ≡ pos q) × Within y a k q × ((r : ℕ) → Within y a k r → r ≤ q)
unfolding length_of allowed
length_largest y a k none =
    let set : ℕ → Bool = λ j. ltb (a.p j) (a.p k) in
    let w : pos 0 ≤ℤ length_of y a k = least_above set (allowed y a) (pos (y.c k)) y.n (pos 0) (pos_le (omega arith)) (λ j l e. ≤ℤ-trans (pos_le (omega arith)) (next_positive (none j l).least)) in
    let e : pos (nat_abs (length_of y a k)) ≡ length_of y a k = pos-nat_abs (length_of y a k) (yes_non_neg w) in
    let b : pos (nat_abs (length_of y a k)) ≤ℤ length_of y a k = rw e (≤ℤ_refl (length_of y a k)) in (
      nat_abs (length_of y a k),
      sym e,
      record {
        cost = le_pos (≤ℤ-trans b (least_start set (allowed y a) (pos (y.c k)) y.n));
        above = λ j l h. ≤ℤ-trans b (least_each set (allowed y a) (pos (y.c k)) y.n j l (lt-ltb (a.p j) (a.p k) h));
      },
      λ r h.
          le_pos
          (rw e (least_above set (allowed y a) (pos (y.c k)) y.n (pos r) (pos_le h.cost) (λ j l t. h.above j l (ltb-true (a.p j) (a.p k) t)))),
    )

-- A tolerance of 0 allows a tick: where each task has a t and no tolerance is below zero, no length is below 1.
pub length_positive : (y : Tasks) (a : Assignment) (k : ℕ) → ((j : ℕ) → j < y.n → Tolerable y a j) → 1 ≤ y.c k → pos 1 ≤ℤ length_of y a k
unfolding length_of allowed
length_positive y a k none cost =
    least_above _ (allowed y a) _ y.n (pos 1) (pos_le cost) (λ j l e. next_positive (none j l).least)

-- Thresholds play no part.
pub thresholds_aside : (y : Tasks) (a b : Assignment) → a.p ≡ b.p → (i : ℕ)
    → (tolerance y a i ≡ tolerance y b i) × (length_of y a i ≡ length_of y b i)
unfolding slack tolerance allowed length_of
thresholds_aside y a b e i =
    (ap (λ p. tolerance y (record { p = p; h = a.h }) i) e, ap (λ p. length_of y (record { p = p; h = a.h }) i) e)
