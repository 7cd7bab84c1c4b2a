-- What a chain over a part of a list tells in std's words is what `every` and `sum_to` tell of its places.
use Rattle.std.proofs.Common.{ℕ, zero, suc, ◌+◌, ◌≤◌, ◌≡◌, ◌∙◌, ◌&&◌, Bool, List, length, take, drop, get_or, refl, ap, sym, arith, add-one, length-drop}
use Rattle.std.specs.List.{list_all, sum_by}
use Rattle.std.proofs.Math.Seq.{take-length}
use Rattle.std.proofs.lemmas.List.{get_or-drop}
use Rattle.std.proofs.lemmas.List.Folds.{list_all_more}
use Rattle.std.proofs.lemmas.List.Sums.{sum_by_more}
use Rattle.paper.specs.Vocabulary.{every, sum_to}
use Rattle.laws.proofs.Every.{every_same, sum_same}

module _ {X : Type 0} (p : X → Bool) (d : X) where
  pub all_front : (xs : List X) (n : ℕ) → n ≤ length xs → list_all p (take n xs) ≡ every n (λ k. p (get_or xs k d))
  unfolding every
  all_front xs zero h = refl
  all_front xs (suc n) h =
      rw (← add-one n) (list_all_more p xs n d (omega arith)) ∙ ap (λ b. b && p (get_or xs n d)) (all_front xs n (omega arith))

  pub all_part : (xs : List X) (i n : ℕ) → i + n ≤ length xs → list_all p (take n (drop i xs)) ≡ every n (λ k. p (get_or xs (i + k) d))
  all_part xs i n h =
      all_front (drop i xs) n (rw (length-drop i xs) (omega arith)) ∙ every_same n _ _ (λ k l. ap p (get_or-drop i xs k d))

  pub all_whole : (xs : List X) → list_all p xs ≡ every (length xs) (λ k. p (get_or xs (0 + k) d))
  all_whole xs = ap (list_all p) (sym (take-length xs)) ∙ all_part xs 0 (length xs) (omega arith)

module _ {X : Type 0} (f : X → ℕ) (d : X) where
  pub sum_front : (xs : List X) (n : ℕ) → n ≤ length xs → sum_by f (take n xs) ≡ sum_to n (λ k. f (get_or xs k d))
  unfolding sum_to
  sum_front xs zero h = refl
  sum_front xs (suc n) h =
      rw (← add-one n) (sum_by_more f xs n d (omega arith)) ∙ ap (λ m. m + f (get_or xs n d)) (sum_front xs n (omega arith))

  pub sum_part : (xs : List X) (i n : ℕ) → i + n ≤ length xs → sum_by f (take n (drop i xs)) ≡ sum_to n (λ k. f (get_or xs (i + k) d))
  sum_part xs i n h =
      sum_front (drop i xs) n (rw (length-drop i xs) (omega arith)) ∙ sum_same n _ _ (λ k l. ap f (get_or-drop i xs k d))
