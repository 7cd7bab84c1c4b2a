-- "The smallest x with ..": what is found lies in the range that is searched, passes the test, and is the first there that does; where nothing is found, none does.
use Rattle.std.specs.Prelude.{None, Option, Some}
use Prim.Native.Nat.{ℕ, zero, suc, ◌+◌, ◌≤◌, ◌<◌}
use mathlib.Core.Path.{◌≡◌, refl}
use mathlib.Core.Bool.{Bool, true, false}
use mathlib.Core.Logic.{⊎_elim}
use native.Mathlib.Omega.{arith}
use native.Mathlib.Nat.{eq-or-lt_of_le}
use Rattle.paper.specs.Analysis.{least}

pub record Searched (test : ℕ → Bool) (from n x : ℕ) : Type 0 where
  pub low : from ≤ x
  pub high : x < from + n
  pub hit : test x ≡ true
  pub first : (z : ℕ) → from ≤ z → z < x → test z ≡ false

-- `from` fails, and so does each from the next one on up to a bound
behind : (test : ℕ → Bool) (from most : ℕ) → test from ≡ false → ((z : ℕ) → suc from ≤ z → z < most → test z ≡ false) → (z : ℕ) → from ≤ z → z < most → test z ≡ false
behind test from most t h z l m = ⊎_elim (λ (q : from ≡ z). rw (← q) t) (λ (k : from < z). h z k m) (eq-or-lt_of_le l)

pub searched : (test : ℕ → Bool) (from n x : ℕ) → least test from n ≡ Some x → Searched test from n x
unfolding least
searched test from zero x e = let z : ◌≡◌ {A = ℕ} 0 1 = cc in absurd (omega arith)
searched test from (suc n) x e = go (test from) refl e (searched test (suc from) n x)
  where
    go : (b : Bool) → test from ≡ b → elim b as (λ _. Option ℕ) [ true ↦ Some from | false ↦ least test (suc from) n ] ≡ Some x
        → (least test (suc from) n ≡ Some x → Searched test (suc from) n x) → Searched test from (suc n) x
    go true t h r =
        let q : from ≡ x = cc in
        record { low = omega arith; high = omega arith; hit = rw q at t; first = λ z l m. absurd (omega arith) }
    go false t h r =
        let w = r h in
        record { low = omega (arith, w.low); high = omega (arith, w.high); hit = w.hit; first = behind test from x t w.first }

pub none_found : (test : ℕ → Bool) (from n : ℕ) → least test from n ≡ None → (z : ℕ) → from ≤ z → z < from + n → test z ≡ false
unfolding least
none_found test from zero e z l m = absurd (omega arith)
none_found test from (suc n) e z l m = go (test from) refl e (none_found test (suc from) n)
  where
    go : (b : Bool) → test from ≡ b → elim b as (λ _. Option ℕ) [ true ↦ Some from | false ↦ least test (suc from) n ] ≡ None
        → (least test (suc from) n ≡ None → (z : ℕ) → suc from ≤ z → z < suc from + n → test z ≡ false) → test z ≡ false
    go true t h r = let z : ◌≡◌ {A = ℕ} 0 1 = cc in absurd (omega arith)
    go false t h r = behind test from (from + suc n) t (λ z l m. r h z l (omega arith)) z l m
