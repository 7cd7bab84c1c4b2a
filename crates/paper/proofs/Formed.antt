-- A well-formed row, place by place.
use Prim.Native.Nat.{ℕ, suc, ◌+◌, ◌-◌, ◌≤◌, ◌<◌}
use native.Mathlib.Decide.{dec_le, dec_lt}
use native.Mathlib.Numerals.{add-one}
use native.Mathlib.Omega.{arith}
use mathlib.Core.Path.{◌≡◌, ap, sym}
use mathlib.Core.Bool.{Bool, true, false, not, cond, ◌&&◌}
use mathlib.Core.List.{List, [], ◌∷◌}
use mathlib.Core.Logic.{by_cases}
use lib.Dec.{leb, eqb}
use lib.ListN.{length, take, get_or, length-take}
use borrow.Author.Tests.{eqb-true, eq-eqb}
use Rattle.paper.specs.Vocabulary.{every}
use Rattle.paper.specs.Numbers.{Assignment, each_once, thresholds_hold}
use Rattle.paper.specs.Rows.{row_size, place_of, row_assignment, row_holds}
use Rattle.paper.proofs.Tests.{never, both, within, every_says}

-- `each_once` and `thresholds_hold` say of each k
pub each_once_range : (n : ℕ) (f : ℕ → ℕ) → each_once n f ≡ true → (k : ℕ) → k < n → (1 ≤ f k) × (f k ≤ n)
unfolding each_once
each_once_range n f e k h = within 1 n (f k) (every_says n _ (both _ _ e).0 k h)

pub each_once_fresh : (n : ℕ) (f : ℕ → ℕ) → each_once n f ≡ true → (k : ℕ) → k < n → every k (λ j. not (eqb (f j) (f k))) ≡ true
unfolding each_once
each_once_fresh n f e k h = every_says n _ (both (every n (λ k. leb 1 (f k) && leb (f k) n)) _ e).1 k h

pub each_once_apart : (n : ℕ) (f : ℕ → ℕ) → each_once n f ≡ true → (j k : ℕ) → j < n → k < n → f j ≡ f k → j ≡ k
each_once_apart n f e j k hj hk q = go (dec_lt j k) (dec_lt k j)
  where
    apart : (j k : ℕ) → j < k → k < n → f j ≡ f k → ⊥
    apart j k l h s = never _ (every_says k _ (each_once_fresh n f e k h) j l) (ap not (eq-eqb (f j) (f k) s))

    go : Dec (j < k) → Dec (k < j) → j ≡ k
    go (yes l) _ = absurd (apart j k l hk q)
    go (no l) (yes m) = absurd (apart k j m hj (sym q))
    go (no l) (no m) = omega arith

pub threshold_range : (n : ℕ) (a : Assignment) → thresholds_hold n a ≡ true → (k : ℕ) → k < n → (1 ≤ a.h k) × (a.h k ≤ a.p k)
unfolding thresholds_hold
threshold_range n a e k h = within 1 (a.p k) (a.h k) (every_says n _ e k h)

-- a place in an order is at most the order's length
pub place_most : (order : List ℕ) (v : ℕ) → place_of order v ≤ length order
unfolding place_of
place_most [] v = omega arith
place_most (a ∷ order) v = go (eqb a v) (place_most order v)
  where
    go : (b : Bool) → place_of order v ≤ length order → cond b 1 (suc (place_of order v)) ≤ suc (length order)
    go true h = omega arith
    go false h = omega arith

-- What a well-formed row is.
pub record Formed (n : ℕ) (row : List ℕ) : Type 0 where
  pub size : length row ≡ row_size n
  pub order : each_once n (λ i. get_or row i 0) ≡ true
  pub thresholds : thresholds_hold n (row_assignment n row) ≡ true

pub formed : (n : ℕ) (row : List ℕ) → row_holds n row ≡ true → Formed n row
unfolding row_holds
formed n row h =
    let a = both (eqb (length row) (row_size n)) (each_once n (λ i. get_or row i 0) && thresholds_hold n (row_assignment n row)) h in
    let b = both (each_once n (λ i. get_or row i 0)) (thresholds_hold n (row_assignment n row)) a.1 in
    record { size = eqb-true (length row) (row_size n) a.0; order = b.0; thresholds = b.1 }

-- its thresholds, by their places
pub formed_threshold : (n : ℕ) (row : List ℕ) → Formed n row → (i : ℕ) → n ≤ i → i < row_size n
    → (1 ≤ get_or row i 0) × (get_or row i 0 ≤ place_of (take n row) (i - n + 1))
unfolding row_assignment
formed_threshold n row f i l h =
    let r = threshold_range n (row_assignment n row) f.thresholds (i - n) (omega arith) in
    let e : n + (i - n) ≡ i = omega arith in
    rw (add-one (i - n)) (rw e at r)

-- its numbers lie from 1 to n
pub formed_range : (n : ℕ) (row : List ℕ) → Formed n row → (i : ℕ) → i < length row → (1 ≤ get_or row i 0) × (get_or row i 0 ≤ n)
formed_range n row f i h = by_cases (dec_le n i) high (λ l. each_once_range n _ f.order i (omega arith))
  where
    high : n ≤ i → (1 ≤ get_or row i 0) × (get_or row i 0 ≤ n)
    high l =
        let t = formed_threshold n row f i l (omega (arith, f.size)) in
        let m = place_most (take n row) (i - n + 1) in
        let s = length-take n row in
        (t.0, omega arith)
