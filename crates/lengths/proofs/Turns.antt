-- One more turn of the loops over the tasks.
use Prim.Native.Nat.{ℕ, zero, suc, ◌+◌, ◌<◌}
use mathlib.Core.Path.{◌≡◌, refl, sym}
use mathlib.Core.Bool.{Bool, true, false, true≢false, cond, ◌&&◌}
use native.Mathlib.Omega.{arith}
use native.Mathlib.Numerals.{add-one}
use borrow.Author.Tests.{ltb-true}
use lib.IntN.{ℤ, pos, negsuc, suc_ℤ, ◌+ℤ◌, +ℤ_one}
use lib.Signed.{mag, lt_z}
use Rattle.paper.specs.Lengths.{smaller, least_of}
use Rattle.laws.proofs.Signed.{smaller_next}

module _ (set : ℕ → Bool) (f : ℕ → ℤ) (x : ℤ) where
  pub least_none : least_of 0 set f x ≡ x
  unfolding least_of
  least_none = refl

  pub least_turn : (j : ℕ) {q t : ℤ} → q ≡ least_of j set f x → t ≡ f j → cond (set j) (smaller q t) q ≡ least_of (j + 1) set f x
  unfolding least_of
  least_turn j e h = rw (add-one, e, h)

module _ (q t : ℤ) where
  -- a task narrows q where it is above and its tolerance t lies below q
  pub narrows : (above : Bool) → cond above (smaller q (t +ℤ pos 1)) q ≡ cond (above && lt_z t q) (t +ℤ pos 1) q
  narrows true = smaller_next q t
  narrows false = refl

  -- and there the tolerance plus 1 is no further from 0 than one of the two
  pub next_fits : (above : Bool) (most : ℕ) → (above && lt_z t q) ≡ true → mag t < most → mag q < most → mag (t +ℤ pos 1) < most
  next_fits true most e ht hq = rw (+ℤ_one t) (go t q e ht hq)
    where
      go : (t q : ℤ) → lt_z t q ≡ true → mag t < most → mag q < most → mag (suc_ℤ t) < most
      go (pos t) (pos q) e ht hq = omega (arith, ltb-true t q e)
      go (pos t) (negsuc q) e ht hq = absurd (true≢false (sym e))
      go (negsuc zero) q e ht hq = ht
      go (negsuc (suc t)) q e ht hq = omega arith
  next_fits false most e ht hq = absurd (true≢false (sym e))
