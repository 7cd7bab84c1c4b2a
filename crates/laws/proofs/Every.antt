-- `every`, `sum_to` and `lowest`: a loop's turns and its end, and that they look at no k past n.
use mathlib.Core.Path.{◌≡◌, refl, ap, ap₂, ◌∙◌}
use mathlib.Core.Bool.{Bool, cond, ◌&&◌}
use Prim.Native.Nat.{ℕ, zero, suc, ◌+◌, ◌<◌}
use native.Mathlib.Numerals.{add-one}
use native.Mathlib.Omega.{arith}
use Rattle.paper.specs.Vocabulary.{every, sum_to, lowest}

-- one more turn
pub every_more : (k : ℕ) (test : ℕ → Bool) → every (k + 1) test ≡ (every k test && test k)
unfolding every
every_more k test = rw add-one

pub sum_more : (k : ℕ) (f : ℕ → ℕ) → sum_to (k + 1) f ≡ sum_to k f + f k
unfolding sum_to
sum_more k f = rw add-one

-- the turn of a loop that has `ok` or `x` so far
pub every_turn : (k : ℕ) (test : ℕ → Bool) {ok t : Bool} → ok ≡ every k test → t ≡ test k → (ok && t) ≡ every (k + 1) test
every_turn k test e f = rw (every_more k test, e, f)

pub sum_turn : (k : ℕ) (f : ℕ → ℕ) {x t : ℕ} → x ≡ sum_to k f → t ≡ f k → x + t ≡ sum_to (k + 1) f
sum_turn k f e g = rw (sum_more k f, e, g)

-- a loop that has come to its end: what it has after k turns it has after n
pub at_end : {A B : Type 0} (after : ℕ → B → A) {b : B} (k n : ℕ) {x : A} → x ≡ after k b → k ≡ n → x ≡ after n b
at_end after {b} k n e h = e ∙ ap (λ j. after j b) h

-- only the k below n are looked at
pub every_same : (n : ℕ) (s t : ℕ → Bool) → ((k : ℕ) → k < n → s k ≡ t k) → every n s ≡ every n t
unfolding every
every_same zero s t h = refl
every_same (suc n) s t h = rw (every_same n s t (λ k l. h k (omega arith)), h n (omega arith))

pub sum_same : (n : ℕ) (f g : ℕ → ℕ) → ((k : ℕ) → k < n → f k ≡ g k) → sum_to n f ≡ sum_to n g
unfolding sum_to
sum_same zero f g h = refl
sum_same (suc n) f g h = rw (sum_same n f g (λ k l. h k (omega arith)), h n (omega arith))

pub lowest_same : (n : ℕ) (s t : ℕ → Bool) → ((k : ℕ) → k < n → s k ≡ t k) → lowest n s ≡ lowest n t
unfolding lowest
lowest_same zero s t h = refl
lowest_same (suc n) s t h =
    ap₂ (λ (m : ℕ) (b : Bool). elim m as (λ _. ℕ) [ zero ↦ cond b (suc n) 0 | suc k ↦ suc k ])
    (lowest_same n s t (λ k l. h k (omega arith))) (h n (omega arith))
