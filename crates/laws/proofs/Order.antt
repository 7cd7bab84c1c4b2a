-- The laws of the order of rows that a search by beginnings goes by: its three moves, and the number that measures it.
use Prim.Native.Nat.{ℕ, zero, suc, ◌+◌, ◌*◌, ◌^◌, ◌<◌, ◌≤◌, zero-le, suc-le-suc}
use native.Mathlib.Nat.{eq-or-lt_of_le, pow-succ', suc-mul, mul-le-mul_right, mul-lt-mul_of_pos_right, not-suc-le-zero, le_of_suc-le-suc}
use native.Mathlib.Omega.{arith}
use mathlib.Core.Path.{◌≡◌, refl, ap, ◌∙◌}
use mathlib.Core.List.{List, [], ◌∷◌, ◌++◌}
use mathlib.Core.Logic.{inl, inr, ⊎_elim}
use lib.ListN.{length, take, get_or}
use Rattle.paper.specs.Rows.{Later}
use Rattle.laws.specs.Order.{From, Within}

-- What is from p on is never before p.
pub from_self : (p : List ℕ) → From p p
unfolding From
from_self [] = tt
from_self (a ∷ p) = inr (refl, from_self p)

pub from_start : (r : List ℕ) → From [] r
unfolding From
from_start r = tt

pub from_not_later : (p r : List ℕ) → From p r → Later r p → ⊥
unfolding Later From
from_not_later [] [] h k = k
from_not_later [] (b ∷ r) h k = k
from_not_later (a ∷ p) [] h k = h
from_not_later (a ∷ p) (b ∷ r) (inl x) (inl y) = omega arith
from_not_later (a ∷ p) (b ∷ r) (inl x) (inr y) = omega arith
from_not_later (a ∷ p) (b ∷ r) (inr x) (inl y) = omega arith
from_not_later (a ∷ p) (b ∷ r) (inr x) (inr y) = from_not_later p r x.1 y.1

pub from_later : (p a b : List ℕ) → From p a → Later a b → From p b
unfolding From Later
from_later [] a b h k = tt
from_later (x ∷ p) [] b h k = absurd h
from_later (x ∷ p) (a ∷ xs) [] h k = k
from_later (x ∷ p) (a ∷ xs) (b ∷ ys) (inl u) (inl v) = inl (omega arith)
from_later (x ∷ p) (a ∷ xs) (b ∷ ys) (inl u) (inr v) = inl (omega arith)
from_later (x ∷ p) (a ∷ xs) (b ∷ ys) (inr u) (inl v) = inl (omega arith)
from_later (x ∷ p) (a ∷ xs) (b ∷ ys) (inr u) (inr v) = inr (u.0 ∙ v.0, from_later p xs ys u.1 v.1)

-- The three moves go to a later list: the last number one up, one place on, one place back with the number there one up.
pub later_bump : (q : List ℕ) (d : ℕ) → Later (q ++ (d ∷ [])) (q ++ ((d + 1) ∷ []))
unfolding Later
later_bump [] d = inl (omega arith)
later_bump (a ∷ q) d = inr (refl, later_bump q d)

pub later_on : (q : List ℕ) (x : ℕ) → Later q (q ++ (x ∷ []))
unfolding Later
later_on [] x = tt
later_on (a ∷ q) x = inr (refl, later_on q x)

pub later_back : (q : List ℕ) (e d : ℕ) → Later ((q ++ (e ∷ [])) ++ (d ∷ [])) (q ++ ((e + 1) ∷ []))
unfolding Later
later_back [] e d = inl (omega arith)
later_back (a ∷ q) e d = inr (refl, later_back q e d)

-- What a list that is from the old beginning on keeps at each move.
pub from_bump : (q r : List ℕ) (d : ℕ) → From (q ++ (d ∷ [])) r → (take (suc (length q)) r ≡ q ++ (d ∷ []) → ⊥) → From (q ++ ((d + 1) ∷ [])) r
unfolding From
from_bump [] [] d h other = h
from_bump [] (b ∷ r) d (inl x) other =
    ⊎_elim (λ e. inr (e, tt)) (λ l. inl l) (eq-or-lt_of_le {n = d + 1} {m = b} (omega arith))
from_bump [] (b ∷ r) d (inr x) other = absurd (other (cc x.0))
from_bump (a ∷ q) [] d h other = h
from_bump (a ∷ q) (b ∷ r) d (inl x) other = inl x
from_bump (a ∷ q) (b ∷ r) d (inr x) other = inr (x.0, from_bump q r d x.1 (λ e. other (cc (x.0, e))))

pub from_on : (n : ℕ) (q r : List ℕ) → length q < length r → Within n r → From q r → From (q ++ (1 ∷ [])) r
unfolding From Within
from_on n [] [] l w h = absurd (not-suc-le-zero l)
from_on n [] (b ∷ r) l w h = ⊎_elim (λ e. inr (e, tt)) (λ x. inl x) (eq-or-lt_of_le {n = 1} {m = b} (omega arith))
from_on n (a ∷ q) [] l w h = h
from_on n (a ∷ q) (b ∷ r) l w (inl x) = inl x
from_on n (a ∷ q) (b ∷ r) l w (inr x) = inr (x.0, from_on n q r (omega arith) w.1 x.1)

pub from_front : (q s r : List ℕ) → From (q ++ s) r → From q r
unfolding From
from_front [] s r h = tt
from_front (a ∷ q) s [] h = h
from_front (a ∷ q) s (b ∷ r) (inl x) = inl x
from_front (a ∷ q) s (b ∷ r) (inr x) = inr (x.0, from_front q s r x.1)

-- A list of numbers to n that is from q, d on, where d is above n, does not begin with q.
pub from_over : (n : ℕ) (q r : List ℕ) (d : ℕ) → n < d → Within n r → From (q ++ (d ∷ [])) r → take (length q) r ≡ q → ⊥
unfolding From Within
from_over n [] [] d l w h e = h
from_over n [] (b ∷ r) d l w (inl x) e = omega arith
from_over n [] (b ∷ r) d l w (inr x) e = omega arith
from_over n (a ∷ q) [] d l w h e = h
from_over n (a ∷ q) (b ∷ r) d l w (inl x) e = let z : b ≡ a = cc in omega arith
from_over n (a ∷ q) (b ∷ r) d l w (inr x) e = from_over n q r d l w.1 x.1 (cc)

-- Later than a list that ends in d is from the one that ends in d + 1 on, and back.
pub later_from : (q r : List ℕ) (d : ℕ) → length r ≤ suc (length q) → Later (q ++ (d ∷ [])) r → From (q ++ ((d + 1) ∷ [])) r
unfolding From Later
later_from [] [] d s h = absurd h
later_from [] (b ∷ r) d s (inl x) = ⊎_elim (λ e. inr (e, tt)) (λ l. inl l) (eq-or-lt_of_le {n = d + 1} {m = b} (omega arith))
later_from [] (b ∷ []) d s (inr x) = absurd x.1
later_from [] (b ∷ (c ∷ r)) d s (inr x) = absurd (not-suc-le-zero (le_of_suc-le-suc s))
later_from (a ∷ q) [] d s h = absurd h
later_from (a ∷ q) (b ∷ r) d s (inl x) = inl x
later_from (a ∷ q) (b ∷ r) d s (inr x) = inr (x.0, later_from q r d (le_of_suc-le-suc s) x.1)

pub from_later_bump : (q r : List ℕ) (d : ℕ) → From (q ++ ((d + 1) ∷ [])) r → Later (q ++ (d ∷ [])) r
unfolding From Later
from_later_bump [] [] d h = absurd h
from_later_bump [] (b ∷ r) d (inl x) = inl (omega arith)
from_later_bump [] (b ∷ r) d (inr x) = inl (omega arith)
from_later_bump (a ∷ q) [] d h = h
from_later_bump (a ∷ q) (b ∷ r) d (inl x) = inl x
from_later_bump (a ∷ q) (b ∷ r) d (inr x) = inr (x.0, from_later_bump q r d x.1)

-- Numbers from 1 to n, place by place and at the end of a list.
pub within_all : (n : ℕ) (r : List ℕ) → ((i : ℕ) → i < length r → (1 ≤ get_or r i 0) × (get_or r i 0 ≤ n)) → Within n r
unfolding Within
within_all n [] h = tt
within_all n (a ∷ r) h = (h 0 (suc-le-suc zero-le), within_all n r (λ i l. h (suc i) (suc-le-suc l)))

pub within_none : (n : ℕ) → Within n []
unfolding Within
within_none n = tt

pub within_more : (n m : ℕ) (p : List ℕ) (x : ℕ) → n ≤ m → Within n p → 1 ≤ x → x ≤ m → Within m (p ++ (x ∷ []))
unfolding Within
within_more n m [] x l w a b = ((a, b), tt)
within_more n m (y ∷ p) x l w a b = ((w.0.0, omega arith), within_more n m p x l w.1 a b)

pub within_last : (n : ℕ) (p : List ℕ) (x : ℕ) → Within n (p ++ (x ∷ [])) → Within n p × (x ≤ n)
unfolding Within
within_last n [] x w = (tt, w.0.1)
within_last n (y ∷ p) x w = let h = within_last n p x w.1 in ((w.0, h.0), h.1)

-- The number that a list of up to k places stands for in base 32: a later list has a greater one, so it measures the search.
unfoldable pub number : ℕ → List ℕ → ℕ
number zero p = 0
number (suc k) [] = 0
number (suc k) (a ∷ p) = a * 32 ^ k + number k p

pow_pos : (k : ℕ) → 0 < 32 ^ k
pow_pos zero = omega arith
pow_pos (suc k) = let h = pow_pos k in rw pow-succ' (omega arith)

pub number_fits : (n k : ℕ) (p : List ℕ) → n < 32 → Within n p → number k p < 32 ^ k
unfolding number Within
number_fits n zero p l w = omega arith
number_fits n (suc k) [] l w = pow_pos (suc k)
number_fits n (suc k) (a ∷ p) l w =
    let h = number_fits n k p l w.1 in
    let m : suc a * 32 ^ k ≤ 32 * 32 ^ k = mul-le-mul_right (32 ^ k) (omega arith) in
    let s : suc a * 32 ^ k ≡ a * 32 ^ k + 32 ^ k = suc-mul a (32 ^ k) in
    rw pow-succ' (omega arith)

pub number_later : (n k : ℕ) (p q : List ℕ) → n < 32 → Within n p → Within n q → length q ≤ k → Later p q → number k p < number k q
unfolding number Within Later
number_later n k [] [] l v w s h = absurd h
number_later n k (a ∷ p) [] l v w s h = absurd h
number_later n zero [] (b ∷ q) l v w s h = absurd (not-suc-le-zero s)
number_later n (suc k) [] (b ∷ q) l v w s h =
    let m : 0 * 32 ^ k < b * 32 ^ k = mul-lt-mul_of_pos_right w.0.0 (pow_pos k) in
    omega arith
number_later n zero (a ∷ p) (b ∷ q) l v w s h = absurd (not-suc-le-zero s)
number_later n (suc k) (a ∷ p) (b ∷ q) l v w s (inl x) =
    let f = number_fits n k p l v.1 in
    let m : suc a * 32 ^ k ≤ b * 32 ^ k = mul-le-mul_right (32 ^ k) x in
    let e : suc a * 32 ^ k ≡ a * 32 ^ k + 32 ^ k = suc-mul a (32 ^ k) in
    omega arith
number_later n (suc k) (a ∷ p) (b ∷ q) l v w s (inr x) =
    let h = number_later n k p q l v.1 w.1 (omega arith) x.1 in
    let e : a * 32 ^ k ≡ b * 32 ^ k = ap (λ (t : ℕ). t * 32 ^ k) x.0 in
    omega arith
