-- The words that tolerances and lengths are written in: the larger and the smaller of two signed numbers, the largest and the least of several, the lowest k that passes a test.
use Prim.Native.Nat.{ℕ, zero, suc, ◌+◌, ◌≤◌, ◌<◌}
use mathlib.Core.Path.{◌≡◌, refl, sym, ap, ◌∙◌}
use mathlib.Core.Bool.{Bool, true, false, cond}
use mathlib.Core.Logic.{◌⊎◌, inl, inr, ⊎_elim}
use native.Mathlib.Omega.{arith}
use native.Mathlib.Nat.{eq-or-lt_of_le}
use lib.IntN.{ℤ}
use lib.Signed.{le_z, ◌≤ℤ◌, ≤ℤ_refl}
use Rattle.paper.specs.Vocabulary.{lowest}
use Rattle.paper.specs.Lengths.{larger, smaller, largest, least_of}
use Rattle.paper.proofs.Signed.{le_z-says, le_z-denies, ≤ℤ-trans}

-- what holds of a where a test passes, and of b where it fails
pub by_test : {A : Type 0} (P : A → Type 0) (t : Bool) {a b : A} → (t ≡ true → P a) → (t ≡ false → P b) → P (cond t a b)
by_test P true h k = h refl
by_test P false h k = k refl

-- the larger and the smaller of two

pub larger_either : (P : ℤ → Type 0) (a b : ℤ) → P a → P b → P (larger a b)
unfolding larger
larger_either P a b h k = by_test P (le_z a b) (λ e. k) (λ e. h)

pub larger_bounds : (a b : ℤ) → (a ≤ℤ larger a b) × (b ≤ℤ larger a b)
unfolding larger
larger_bounds a b = by_test (λ x. (a ≤ℤ x) × (b ≤ℤ x)) (le_z a b) (λ e. (le_z-says e, ≤ℤ_refl b)) (λ e. (≤ℤ_refl a, le_z-denies e))

pub smaller_either : (P : ℤ → Type 0) (a b : ℤ) → P a → P b → P (smaller a b)
unfolding smaller
smaller_either P a b h k = by_test P (le_z a b) (λ e. h) (λ e. k)

pub smaller_bounds : (a b : ℤ) → (smaller a b ≤ℤ a) × (smaller a b ≤ℤ b)
unfolding smaller
smaller_bounds a b = by_test (λ x. (x ≤ℤ a) × (x ≤ℤ b)) (le_z a b) (λ e. (≤ℤ_refl a, le_z-says e)) (λ e. (le_z-denies e, ≤ℤ_refl b))

-- the largest of f 1, .., f (k + 1)
module _ (f : ℕ → ℤ) where
  pub largest_bounds : (k t : ℕ) → 1 ≤ t → t ≤ k + 1 → f t ≤ℤ largest f k
  unfolding largest
  largest_bounds zero t low high = let e : t ≡ 1 = omega arith in rw e (≤ℤ_refl (f 1))
  largest_bounds (suc k) t low high =
      ⊎_elim
      (λ e. rw e (larger_bounds (largest f k) (f (suc (suc k)))).1)
      (λ (h : t < suc (suc k)). ≤ℤ-trans (largest_bounds k t low (omega arith)) (larger_bounds (largest f k) (f (suc (suc k)))).0)
      (eq-or-lt_of_le {n = t} {m = suc (suc k)} (omega arith))

  pub largest_below : (k : ℕ) (b : ℤ) → ((t : ℕ) → 1 ≤ t → t ≤ k + 1 → f t ≤ℤ b) → largest f k ≤ℤ b
  unfolding largest
  largest_below zero b h = h 1 (omega arith) (omega arith)
  largest_below (suc k) b h =
      larger_either (λ x. x ≤ℤ b) (largest f k) (f (suc (suc k)))
      (largest_below k b (λ t low high. h t low (omega arith)))
      (h (suc (suc k)) (omega arith) (omega arith))

  pub largest_reached : (k : ℕ) → (t : ℕ) × (1 ≤ t) × (t ≤ k + 1) × (largest f k ≡ f t)
  unfolding largest
  largest_reached zero = (1, omega arith, omega arith, refl)
  largest_reached (suc k) =
      let r = largest_reached k in
      larger_either (λ x. (t : ℕ) × (1 ≤ t) × (t ≤ suc k + 1) × (x ≡ f t)) (largest f k) (f (suc (suc k)))
      (r.0, r.1, omega (arith, r.2), r.3)
      (suc (suc k), omega arith, omega arith, refl)

-- the smallest of x and of f j for each j of a set below n
module _ (set : ℕ → Bool) (f : ℕ → ℤ) (x : ℤ) where
  pub least_start : (n : ℕ) → least_of n set f x ≤ℤ x
  unfolding least_of
  least_start zero = ≤ℤ_refl x
  least_start (suc n) =
      by_test (λ z. z ≤ℤ x) (set n) (λ e. ≤ℤ-trans (smaller_bounds (least_of n set f x) (f n)).0 (least_start n)) (λ e. least_start n)

  -- one more j takes nothing back, and a j of the set bounds
  least_falls : (n : ℕ) → least_of (suc n) set f x ≤ℤ least_of n set f x
  unfolding least_of
  least_falls n = by_test (λ z. z ≤ℤ least_of n set f x) (set n) (λ e. (smaller_bounds (least_of n set f x) (f n)).0) (λ e. ≤ℤ_refl _)

  least_last : (n : ℕ) → set n ≡ true → least_of (suc n) set f x ≤ℤ f n
  unfolding least_of
  least_last n e = rw e (smaller_bounds (least_of n set f x) (f n)).1

  pub least_each : (n j : ℕ) → j < n → set j ≡ true → least_of n set f x ≤ℤ f j
  least_each zero j h e = absurd (omega arith)
  least_each (suc n) j h e =
      ⊎_elim
      (λ q. let s : set n ≡ true = rw (← q) e in rw q (least_last n s))
      (λ (l : j < n). ≤ℤ-trans (least_falls n) (least_each n j l e))
      (eq-or-lt_of_le {n = j} {m = n} (omega arith))

  pub least_above : (n : ℕ) (b : ℤ) → b ≤ℤ x → ((j : ℕ) → j < n → set j ≡ true → b ≤ℤ f j) → b ≤ℤ least_of n set f x
  unfolding least_of
  least_above zero b h k = h
  least_above (suc n) b h k =
      let r = least_above n b h (λ j l. k j (omega arith)) in
      by_test (λ z. b ≤ℤ z) (set n) (λ e. smaller_either (λ z. b ≤ℤ z) (least_of n set f x) (f n) r (k n (omega arith) e)) (λ e. r)

-- the lowest k that passes a test, counted from 1
module _ (test : ℕ → Bool) where
  more_before : (n k : ℕ) → lowest n test ≡ suc k → lowest (suc n) test ≡ suc k
  unfolding lowest
  more_before n k e = rw (e, lowest)

  more_here : (n : ℕ) → lowest n test ≡ 0 → lowest (suc n) test ≡ cond (test n) (suc n) 0
  unfolding lowest
  more_here n e = rw (e, lowest)

  pub lowest_none : (n : ℕ) → ((j : ℕ) → j < n → test j ≡ false) → lowest n test ≡ 0
  unfolding lowest
  lowest_none zero h = refl
  lowest_none (suc n) h = more_here n (lowest_none n (λ j l. h j (omega arith))) ∙ rw (h n (omega arith))

  pub lowest_found : (n k : ℕ) → k < n → test k ≡ true → ((j : ℕ) → j < k → test j ≡ false) → lowest n test ≡ suc k
  lowest_found zero k h e below = absurd (omega arith)
  lowest_found (suc n) k h e below =
      ⊎_elim
      (λ q. let s : test n ≡ true = rw (← q) e in more_here n (lowest_none n (λ j l. below j (omega arith))) ∙ rw s (ap suc (sym q)))
      (λ (l : k < n). more_before n k (lowest_found n k l e below))
      (eq-or-lt_of_le {n = k} {m = n} (omega arith))

  -- none passes, or k does and none below it
  pub lowest_either : (n : ℕ) → ((j : ℕ) → j < n → test j ≡ false) ⊎ ((k : ℕ) × (k < n) × (test k ≡ true) × ((j : ℕ) → j < k → test j ≡ false))
  lowest_either zero = inl (λ j l. absurd (omega arith))
  lowest_either (suc n) =
      ⊎_elim
      (λ none. last (test n) refl none)
      (λ r. inr (r.0, omega (arith, r.1), r.2, r.3))
      (lowest_either n)
    where
      last : (t : Bool) → test n ≡ t → ((j : ℕ) → j < n → test j ≡ false) → ((j : ℕ) → j < suc n → test j ≡ false) ⊎ ((k : ℕ) × (k < suc n) × (test k ≡ true) × ((j : ℕ) → j < k → test j ≡ false))
      last true e none = inr (n, omega arith, e, none)
      last false e none = inl (λ j l. ⊎_elim (λ q. rw q e) (λ (h : j < n). none j h) (eq-or-lt_of_le {n = j} {m = n} (omega arith)))

  -- what the number found says: none passes where it is 0, else the k below it does, and none before it
  pub none_passes : (n : ℕ) → lowest n test ≡ 0 → (j : ℕ) → j < n → test j ≡ false
  none_passes n e j l =
      ⊎_elim
      (λ none. none j l)
      (λ r. absurd (omega (arith, lowest_found n r.0 r.1 r.2 r.3)))
      (lowest_either n)

  pub first_passes : (n k : ℕ) → lowest n test ≡ suc k → (k < n) × (test k ≡ true) × ((j : ℕ) → j < k → test j ≡ false)
  first_passes n k e =
      ⊎_elim
      (λ none. absurd (omega (arith, lowest_none n none)))
      (λ r.
      let z : r.0 ≡ k = omega (arith, lowest_found n r.0 r.1 r.2 r.3) in
      (omega (arith, r.1), rw (← z) r.2, λ j l. r.3 j (omega arith)))
      (lowest_either n)
