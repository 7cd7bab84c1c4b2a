-- The order of signed numbers, and the signed difference of two natural numbers.
use Prim.Native.Nat.{ℕ, zero, suc, ◌+◌, ◌-◌, ◌≤◌, ◌<◌}
use mathlib.Core.Path.{◌≡◌, refl, sym, ap, ◌∙◌, subst}
use mathlib.Core.Bool.{Bool, true, false, not}
use native.Mathlib.Omega.{arith}
use native.Mathlib.Nat.{le_trans, le_antisymm}
use borrow.Author.Tests.{lt-ltb, le-ltb, le-leb, lt-leb, leb-true, leb-false, ltb-true, ltb-false}
use lib.Dec.{T, leb, ltb, leb→le, le→leb}
use lib.IntN.{ℤ, pos, negsuc, neg_ℤ, sub_ℕ, ◌+ℤ◌, ◌-ℤ◌, +ℤ_assoc, neg_ℤ-+ℤ}
use lib.Signed.{le_z, lt_z, ◌≤ℤ◌, ◌<ℤ◌, lt_z_no, clash_ℤ}

pub le_z-says : {a b : ℤ} → le_z a b ≡ true → a ≤ℤ b
le_z-says e = record { le = subst T (sym e) tt }

pub lt_z-says : {a b : ℤ} → lt_z a b ≡ true → a <ℤ b
lt_z-says e = record { lt = subst T (sym e) tt }

pub lt_z-denies : {a b : ℤ} → lt_z a b ≡ false → b ≤ℤ a
lt_z-denies e = lt_z_no (subst (λ (t : Bool). T (not t)) (sym e) tt)

pub lt_z-fails : {a b : ℤ} → b ≤ℤ a → lt_z a b ≡ false
lt_z-fails {a} {b} h = go (lt_z a b) refl
  where
    go : (t : Bool) → lt_z a b ≡ t → lt_z a b ≡ false
    go true e = clash_ℤ (lt_z-says e) h
    go false e = e

-- of two numbers one is at most the other
other : (a b : ℤ) → le_z a b ≡ false → T (le_z b a)
other (pos a) (pos b) e = le→leb b a (omega (arith, leb-false a b e))
other (pos a) (negsuc b) e = tt
other (negsuc a) (pos b) e = subst T e tt
other (negsuc a) (negsuc b) e = le→leb a b (omega (arith, leb-false b a e))

pub le_z-denies : {a b : ℤ} → le_z a b ≡ false → b ≤ℤ a
le_z-denies {a} {b} e = record { le = other a b e }

joined : (a b c : ℤ) → T (le_z a b) → T (le_z b c) → T (le_z a c)
joined (pos a) (pos b) (pos c) h k = le→leb a c (le_trans (leb→le a b h) (leb→le b c k))
joined (pos a) (pos b) (negsuc c) h k = k
joined (pos a) (negsuc b) c h k = absurd h
joined (negsuc a) (pos b) (pos c) h k = tt
joined (negsuc a) (pos b) (negsuc c) h k = absurd k
joined (negsuc a) (negsuc b) (pos c) h k = tt
joined (negsuc a) (negsuc b) (negsuc c) h k = le→leb c a (le_trans (leb→le c b k) (leb→le b a h))

pub ≤ℤ-trans : {a b c : ℤ} → a ≤ℤ b → b ≤ℤ c → a ≤ℤ c
≤ℤ-trans {a} {b} {c} h k = record { le = joined a b c h.le k.le }

equal : (a b : ℤ) → T (le_z a b) → T (le_z b a) → a ≡ b
equal (pos a) (pos b) h k = ap pos (le_antisymm (leb→le a b h) (leb→le b a k))
equal (pos a) (negsuc b) h k = absurd h
equal (negsuc a) (pos b) h k = absurd k
equal (negsuc a) (negsuc b) h k = ap negsuc (le_antisymm (leb→le a b k) (leb→le b a h))

pub ≤ℤ-antisym : {a b : ℤ} → a ≤ℤ b → b ≤ℤ a → a ≡ b
≤ℤ-antisym {a} {b} h k = equal a b h.le k.le

-- natural numbers among the signed ones
pub pos_le : {a b : ℕ} → a ≤ b → pos a ≤ℤ pos b
pos_le {a} {b} h = record { le = le→leb a b h }

pub le_pos : {a b : ℕ} → pos a ≤ℤ pos b → a ≤ b
le_pos {a} {b} h = leb→le a b h.le

-- one more than a number that isn't below zero
pub next_positive : {z : ℤ} → pos 0 ≤ℤ z → pos 1 ≤ℤ (z +ℤ pos 1)
next_positive {z} h = go z h
  where
    go : (z : ℤ) → pos 0 ≤ℤ z → pos 1 ≤ℤ (z +ℤ pos 1)
    go (pos n) h = pos_le (omega arith)
    go (negsuc n) h = absurd h.le

-- the difference of two natural numbers is below zero, or it is not
pub sub_below : (a b : ℕ) → a < b → sub_ℕ a b ≡ negsuc (b - suc a)
sub_below a b h = simp (lt-ltb a b h)

pub sub_above : (a b : ℕ) → b ≤ a → sub_ℕ a b ≡ pos (a - b)
sub_above a b h = simp (le-ltb a b h)

same : (a b c d : ℕ) → (a ≤ b → c ≤ d) → (c ≤ d → a ≤ b) → leb a b ≡ leb c d
same a b c d h k = go (leb a b) refl (leb c d) refl
  where
    go : (s : Bool) → leb a b ≡ s → (t : Bool) → leb c d ≡ t → leb a b ≡ leb c d
    go true e true f = e ∙ sym f
    go true e false f = absurd (omega (arith, h (leb-true a b e), leb-false c d f))
    go false e true f = absurd (omega (arith, k (leb-true c d f), leb-false a b e))
    go false e false f = e ∙ sym f

-- two differences are compared by two sums
pub sub_order : (a b c d : ℕ) → le_z (sub_ℕ a b) (sub_ℕ c d) ≡ leb (a + d) (c + b)
sub_order a b c d = go (ltb a b) refl (ltb c d) refl
  where
    go : (s : Bool) → ltb a b ≡ s → (t : Bool) → ltb c d ≡ t → le_z (sub_ℕ a b) (sub_ℕ c d) ≡ leb (a + d) (c + b)
    go true e true f =
        let m = ltb-true a b e in
        let n = ltb-true c d f in
        rw (e, f) (same (d - suc c) (b - suc a) (a + d) (c + b) (λ h. omega arith) (λ h. omega arith))
    go true e false f =
        let m = ltb-true a b e in
        let n = ltb-false c d f in
        rw (e, f) (sym (le-leb (a + d) (c + b) (omega arith)))
    go false e true f =
        let m = ltb-false a b e in
        let n = ltb-true c d f in
        rw (e, f) (sym (lt-leb (a + d) (c + b) (omega arith)))
    go false e false f =
        let m = ltb-false a b e in
        let n = ltb-false c d f in
        rw (e, f) (same (a - b) (c - d) (a + d) (c + b) (λ h. omega arith) (λ h. omega arith))

-- it is the difference of the signed numbers
pub sub_is : (a b : ℕ) → pos a -ℤ pos b ≡ sub_ℕ a b
sub_is a zero = ap pos (omega arith) ∙ sym (sub_above a 0 (omega arith))
sub_is a (suc b) = refl

pub sub_sum : (t c s : ℕ) → pos t -ℤ pos c -ℤ pos s ≡ sub_ℕ t (c + s)
sub_sum t c s =
    +ℤ_assoc (pos t) (neg_ℤ (pos c)) (neg_ℤ (pos s))
    ∙ ap (λ (z : ℤ). pos t +ℤ z) (sym (neg_ℤ-+ℤ (pos c) (pos s)))
    ∙ sub_is t (c + s)
