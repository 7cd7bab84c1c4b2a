-- Signed numbers plus 1, and beside differences of natural numbers.
use Prim.Native.Nat.{ℕ, zero, suc, ◌+◌, ◌-◌, zero-le}
use mathlib.Core.Path.{◌≡◌, refl, sym, ap, subst, ◌∙◌}
use mathlib.Core.Bool.{Bool, true, false, cond}
use native.Mathlib.Omega.{arith}
use borrow.Author.Tests.{le-leb, le-ltb}
use lib.Dec.{T, leb, leb-suc-suc}
use lib.IntN.{ℤ, pos, negsuc, sub_ℕ, suc_ℤ, ◌+ℤ◌, +ℤ_one}
use lib.Signed.{le_z, lt_z, ◌≤ℤ◌, <ℤ_irrefl}
use Rattle.paper.specs.Lengths.{smaller}
use Rattle.paper.proofs.Signed.{le_z-says, le_z-denies, lt_z-denies, ≤ℤ-trans, ≤ℤ-antisym, sub_above, sub_order}
use Rattle.paper.proofs.Extremes.{by_test}

-- one more than a is at most b exactly where a is below b
next : (a b : ℤ) → le_z (a +ℤ pos 1) b ≡ lt_z a b
next a b = ap (λ (z : ℤ). le_z z b) (+ℤ_one a) ∙ go a b
  where
    go : (a b : ℤ) → le_z (suc_ℤ a) b ≡ lt_z a b
    go (pos a) (pos b) = refl
    go (pos a) (negsuc b) = refl
    go (negsuc zero) (pos b) = le-leb 0 b zero-le
    go (negsuc zero) (negsuc b) = sym (le-ltb b 0 zero-le)
    go (negsuc (suc a)) (pos b) = refl
    go (negsuc (suc a)) (negsuc b) = simp leb-suc-suc

next_up : (a : ℤ) → a ≤ℤ (a +ℤ pos 1)
next_up a = go (le_z a (a +ℤ pos 1)) refl
  where
    go : (t : Bool) → le_z a (a +ℤ pos 1) ≡ t → a ≤ℤ (a +ℤ pos 1)
    go true e = le_z-says e
    go false e = absurd (<ℤ_irrefl {a = a} (record { lt = subst T (next a a) (le_z-denies {a = a} {b = a +ℤ pos 1} e).le }))

-- the smaller of q and t + 1 is t + 1 where t lies below q, else q
pub smaller_next : (q t : ℤ) → smaller q (t +ℤ pos 1) ≡ cond (lt_z t q) (t +ℤ pos 1) q
unfolding smaller
smaller_next q t = go (lt_z t q) refl
  where
    go : (below : Bool) → lt_z t q ≡ below → cond (le_z q (t +ℤ pos 1)) q (t +ℤ pos 1) ≡ cond below (t +ℤ pos 1) q
    go true e =
        by_test (λ x. x ≡ t +ℤ pos 1) (le_z q (t +ℤ pos 1)) (λ h. ≤ℤ-antisym (le_z-says h) (le_z-says (next t q ∙ e))) (λ h. refl)
    go false e =
        by_test (λ x. x ≡ q) (le_z q (t +ℤ pos 1)) (λ h. refl) (λ h. ≤ℤ-antisym (le_z-denies h) (≤ℤ-trans (lt_z-denies e) (next_up t)))

-- b is at most the difference t − m exactly where b + m is at most t
pub pos_sub : (b t m : ℕ) → le_z (pos b) (sub_ℕ t m) ≡ leb (b + m) t
pos_sub b t m =
    let e : b - 0 ≡ b = omega arith in
    let f : t + 0 ≡ t = omega arith in
    ap (λ z. le_z z (sub_ℕ t m)) (sym (sub_above b 0 zero-le ∙ ap pos e)) ∙ sub_order b 0 t m ∙ ap (leb (b + m)) f
