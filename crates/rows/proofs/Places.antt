-- Where a record number stands in an order, and a row place by place.
use Prim.Native.Nat.{ℕ, suc, ◌+◌, ◌<◌, ◌≤◌}
use native.Mathlib.Decide.{dec_le}
use native.Mathlib.Numerals.{add-one}
use native.Mathlib.Omega.{arith}
use mathlib.Core.Path.{◌≡◌, sym, ap, ap₂, ◌∙◌}
use mathlib.Core.Bool.{true, not}
use mathlib.Core.List.{List, ◌∷◌}
use mathlib.Core.Logic.{by_cases}
use lib.Dec.{eqb}
use lib.ListN.{length, take, drop, get_or, drop_of_length-le}
use lib.Seq.{get_or-take, take-take, length-take-le, drop-cons}
use borrow.Author.Tests.{eq-eqb, ne_eqb, lt-ltb, le-ltb, le-leb}
use Rattle.paper.specs.Rows.{row_size, place_of}
use Rattle.laws.specs.Order.{Within}
use Rattle.paper.proofs.Formed.{Formed, each_once_fresh, formed_threshold, formed_range}
use Rattle.laws.proofs.Every.{every_same}
use Rattle.laws.proofs.Order.{within_all}
use Rattle.rows.specs.Places.{fresh_at, fits_at}

-- what is left of an order after i places: the turn of a loop that looks for v
module _ (n : ℕ) (d : List ℕ) (fits : n ≤ length d) (i v : ℕ) where
  place_rest : i < n → drop i (take n d) ≡ get_or d i 0 ∷ drop (suc i) (take n d)
  place_rest l =
      drop-cons (take n d) i 0 (rw (length-take-le n d fits) l)
      ∙ ap (λ (x : ℕ). x ∷ drop (suc i) (take n d)) (get_or-take n d i 0 l)

  pub place_hit : i < n → get_or d i 0 ≡ v → place_of (drop i (take n d)) v ≡ 1
  unfolding place_of
  place_hit l e = rw (place_rest l, eq-eqb (get_or d i 0) v e)

  pub place_miss : i < n → (get_or d i 0 ≡ v → ⊥) → place_of (drop i (take n d)) v ≡ 1 + place_of (drop (i + 1) (take n d)) v
  unfolding place_of
  place_miss l e = rw (add-one i, place_rest l, ne_eqb (get_or d i 0) v e) (omega arith)

  pub place_none : n ≤ i → place_of (drop i (take n d)) v ≡ 0
  unfolding place_of
  place_none l = rw (drop_of_length-le (take n d) {i = i} (rw (length-take-le n d fits) l))

pub ruleset places = (place_hit, place_miss, place_none)

-- A well-formed row: its numbers lie from 1 to n,
pub formed_within : (n : ℕ) (row : List ℕ) → Formed n row → Within n row
formed_within n row f = within_all n row (formed_range n row f)

-- and each fits where it stands
pub formed_fits : (n : ℕ) (row : List ℕ) → Formed n row → (k : ℕ) → k < row_size n → fits_at n row k ≡ true
unfolding fits_at fresh_at
formed_fits n row f k h =
    by_cases (dec_le n k)
    (λ l. rw (le-ltb k n l) (le-leb _ _ (formed_threshold n row f k l h).1))
    (λ l. rw (lt-ltb k n (omega arith)) (each_once_fresh n (λ i. get_or row i 0) f.order k (omega arith)))

-- Lists that begin alike.
module _ (k : ℕ) (r d : List ℕ) (e : take k r ≡ take k d) where
  pub alike_at : (i : ℕ) → i < k → get_or r i 0 ≡ get_or d i 0
  alike_at i l = sym (get_or-take k r i 0 l) ∙ ap (λ (x : List ℕ). get_or x i 0) e ∙ get_or-take k d i 0 l

  pub alike_front : (n : ℕ) → n ≤ k → take n r ≡ take n d
  alike_front n l = sym (take-take n k r l) ∙ ap (λ (x : List ℕ). take n x) e ∙ take-take n k d l

-- what fits is told by the places up to it
pub fits_alike : (n k : ℕ) (r d : List ℕ) → take (suc k) r ≡ take (suc k) d → fits_at n r k ≡ fits_at n d k
unfolding fits_at fresh_at
fits_alike n k r d e =
    let x = alike_at (suc k) r d e k (omega arith) in
    by_cases (dec_le n k)
    (λ l. rw (le-ltb k n l, x, alike_front (suc k) r d e n (omega arith)))
    (λ l.
    rw (lt-ltb k n (omega arith))
    (every_same k _ _ (λ i h. ap₂ (λ (a b : ℕ). not (eqb a b)) (alike_at (suc k) r d e i (omega arith)) x)))
