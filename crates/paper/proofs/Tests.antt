-- What a test says where it is true or false: its two halves, its two bounds, each k that it looks at.
use mathlib.Core.Path.{◌≡◌, refl, sym, ◌∙◌}
use mathlib.Core.Bool.{Bool, true, false, ◌&&◌, ◌||◌, and-eq-true_iff, or-true, or-false, true≢false}
use mathlib.Core.Logic.{by_cases, ⊎_elim}
use Prim.Native.Nat.{ℕ, zero, suc, ◌≤◌, ◌<◌}
use native.Mathlib.Omega.{arith}
use native.Mathlib.Decide.{dec_lt}
use native.Mathlib.Nat.{eq-or-lt_of_le}
use borrow.Author.Tests.{leb-true}
use lib.Dec.{leb}
use Rattle.paper.specs.Vocabulary.{every, some}

-- a test that is both true and false proves anything
pub never : (b : Bool) → b ≡ true → b ≡ false → ⊥
never b e f = true≢false (sym e ∙ f)

-- the two halves of an `and` that is true,
pub both : (a b : Bool) → (a && b) ≡ true → (a ≡ true) × (b ≡ true)
both a b e = (and-eq-true_iff a b).0 e

-- and of an `or` that is false
pub neither : (a b : Bool) → (a || b) ≡ false → (a ≡ false) × (b ≡ false)
neither true b e = absurd (true≢false e)
neither false b e = (refl, e)

-- a chain of facts, each beside all that follow
infixr 3 ◌and◌
pub ◌and◌ : {A B : Type 0} → A → B → A × B
a and b = (a, b)

-- a test of two bounds says both
pub within : (low high x : ℕ) → (leb low x && leb x high) ≡ true → (low ≤ x) × (x ≤ high)
within low high x e =
    let p = both (leb low x) (leb x high) e in
    (leb-true low x p.0, leb-true x high p.1)

-- `every n test` is true: each k below n passes, and back
pub every_says : (n : ℕ) (test : ℕ → Bool) → every n test ≡ true → (k : ℕ) → k < n → test k ≡ true
unfolding every
every_says zero test e k h = absurd (omega arith)
every_says (suc n) test e k h =
    let p = both (every n test) (test n) e in
    by_cases (dec_lt k n)
    (λ (l : k < n). every_says n test p.0 k l)
    (λ l. let q : k ≡ n = omega arith in rw q p.1)

pub every_all : (n : ℕ) (test : ℕ → Bool) → ((k : ℕ) → k < n → test k ≡ true) → every n test ≡ true
unfolding every
every_all zero test h = refl
every_all (suc n) test h = rw (every_all n test (λ k l. h k (omega arith)), h n (omega arith))

-- it is false as soon as one k below n fails
pub every_fails : (n : ℕ) (test : ℕ → Bool) (k : ℕ) → k < n → test k ≡ false → every n test ≡ false
every_fails n test k h e = go (every n test) refl
  where
    go : (b : Bool) → every n test ≡ b → every n test ≡ false
    go true q = absurd (never (test k) (every_says n test q k h) e)
    go false q = q

-- `some n test` is true: there is a t from 1 to n that passes, and back
pub some_says : (n : ℕ) (test : ℕ → Bool) → some n test ≡ true → (t : ℕ) × (1 ≤ t) × (t ≤ n) × (test t ≡ true)
unfolding some
some_says zero test e = absurd (true≢false (sym e))
some_says (suc n) test e = last (test (suc n)) refl e (some_says n test)
  where
    last : (b : Bool) → test (suc n) ≡ b → (some n test || b) ≡ true
        → (some n test ≡ true → (t : ℕ) × (1 ≤ t) × (t ≤ n) × (test t ≡ true)) → (t : ℕ) × (1 ≤ t) × (t ≤ suc n) × (test t ≡ true)
    last true h _ _ = (suc n, omega arith, omega arith, h)
    last false _ q before =
        let r = before (sym (or-false (some n test)) ∙ q) in
        (r.0, r.1, omega (arith, r.2), r.3)

pub some_there : (n : ℕ) (test : ℕ → Bool) (t : ℕ) → 1 ≤ t → t ≤ n → test t ≡ true → some n test ≡ true
unfolding some
some_there zero test t low high e = absurd (omega arith)
some_there (suc n) test t low high e =
    ⊎_elim
    (λ q. let h : test (suc n) ≡ true = rw (← q) e in rw h (or-true (some n test)))
    (λ (l : t < suc n). rw (some_there n test t low (omega arith) e))
    (eq-or-lt_of_le high)
