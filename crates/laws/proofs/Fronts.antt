-- A list written over the front of another, one element a turn.
use mathlib.Core.Path.{◌≡◌, ap, ◌∙◌}
use mathlib.Core.List.{List, ◌++◌, append_assoc}
use Prim.Native.Nat.{ℕ, suc, ◌+◌, ◌<◌}
use native.Mathlib.Numerals.{add-one}
use native.Mathlib.Omega.{arith}
use lib.ListN.{length, set, take, drop, get_or}
use lib.Seq.{set_at, drop-cons, take-suc, take_all, length-take-le}

module _ {A : Type 0} where
  pub front_more : (ws out : List A) (z : A) (i : ℕ) {x : List A} → i < length ws → i < length out
      → x ≡ take i ws ++ drop i out → set x i (get_or ws i z) ≡ take (i + 1) ws ++ drop (i + 1) out
  front_more ws out z i h k e =
      rw (e, add-one, drop-cons out i z k, set_at (take i ws) (get_or out i z) (drop (suc i) out) (get_or ws i z) i (length-take-le i ws (omega arith)), take-suc ws i z h, append_assoc)

  pub front_done : (ws out : List A) (i : ℕ) {x : List A} → x ≡ take i ws ++ drop i out → i ≡ length ws → x ≡ ws ++ drop (length ws) out
  front_done ws out i e h = rw (← h) (e ∙ ap (λ (t : List A). t ++ drop i out) (take_all i ws (omega arith)))
