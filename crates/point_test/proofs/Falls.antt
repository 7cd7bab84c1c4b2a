-- A task falls under 16 exactly where it would not end in time with nothing below it: where no t will do with q and alpha both 0.
use Prim.Native.Nat.{ℕ, ◌+◌, ◌-◌, ◌≤◌}
use mathlib.Core.Path.{◌≡◌, refl, sym, subst}
use mathlib.Core.Bool.{Bool, true, false, not}
use native.Mathlib.Omega.{arith}
use borrow.Author.Tests.{leb-true, le-leb, lt-leb}
use lib.Dec.{T, leb, ltb, le→leb}
use Rattle.paper.specs.Vocabulary.{lowest}
use Rattle.paper.specs.Numbers.{Assignment}
use Rattle.paper.specs.Analysis.{Tasks, before, load}
use Rattle.paper.specs.Lengths.{slack, no_instant, lowest_below_zero}
use Rattle.paper.specs.Points.{before_last, has_time}
use Rattle.paper.proofs.Tests.{never, some_says, some_there}
use Rattle.paper.proofs.Signed.{≤ℤ-trans}
use Rattle.paper.proofs.Lengths.{Tolerable, falls, falls_not, tolerance_bounds}
use Rattle.laws.proofs.Every.{lowest_same}
use Rattle.laws.proofs.Signed.{pos_sub}
use Rattle.laws.proofs.Tolerated.{tolerated_at}

module _ (y : Tasks) (a : Assignment) where
  module _ (i : ℕ) where
    -- what the task and all above it take by t
    abbrev taken : ℕ → ℕ
    taken t = y.c i + load y (λ j. ltb (a.p j) (a.p i)) (before y t)

    taken_is : (t : ℕ) → before_last y a i 0 t + 0 ≡ taken t
    unfolding before_last
    taken_is t = omega arith

    abbrev test : ℕ → Bool
    test t = leb (before_last y a i 0 t + 0) t

    starts : Tolerable y a i → has_time y a i 0 0 ≡ true
    unfolding has_time
    starts w =
        let r = tolerated_at y a i w.instant 0 w.least in
        let t = r.0 in
        some_there (y.d i - y.j i - 0) test t r.1.low (omega (arith, r.1.high)) (le-leb (before_last y a i 0 t + 0) t (omega (arith, taken_is t, r.2)))

    tolerable : has_time y a i 0 0 ≡ true → Tolerable y a i
    unfolding has_time slack no_instant
    tolerable e =
        let r = some_says (y.d i - y.j i - 0) test e in
        let t = r.0 in
        let done = leb-true (before_last y a i 0 t + 0) t r.3 in
        let early : t + y.j i ≤ y.d i = omega (arith, r.1, r.2) in
        record {
          instant = lt-leb (y.d i) (y.j i) (omega (arith, r.1));
          least =
              ≤ℤ-trans
              (record { le = subst T (sym (pos_sub 0 t (taken t))) (le→leb (0 + taken t) t (omega (arith, taken_is t, done))) })
              (tolerance_bounds y a i t (record { low = r.1; high = early }));
        }

    falls_is : not (has_time y a i 0 0) ≡ falls y a i
    falls_is = go (has_time y a i 0 0) refl
      where
        late : has_time y a i 0 0 ≡ false → (b : Bool) → falls y a i ≡ b → true ≡ b
        late e true f = refl
        late e false f = absurd (never _ (starts ((falls_not y a i).0 f)) e)

        go : (b : Bool) → has_time y a i 0 0 ≡ b → not b ≡ falls y a i
        go true e = sym ((falls_not y a i).1 (tolerable e))
        go false e = late e (falls y a i) refl

  pub lowest_is : lowest y.n (λ k. not (has_time y a k 0 0)) ≡ lowest_below_zero y a
  unfolding lowest_below_zero
  lowest_is = lowest_same y.n _ _ (λ k _. falls_is k)
