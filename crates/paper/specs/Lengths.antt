-- Document 01, "The analysis": tolerances (with release jitter, document 02, item 8), lengths (item 5), the region check. Thresholds play no part.
use Rattle.std.specs.Prelude.{ℕ, zero, suc, ◌+◌, ◌-◌, Bool, ◌||◌, cond, List, leb, ltb, ℤ, pos, ◌+ℤ◌, get_or}
use Rattle.std.proofs.Math.IntN.{sub_ℕ}
use Rattle.std.specs.Int.Signed.{le_z, lt_z}
use Rattle.paper.specs.Vocabulary.{every, lowest}
use Rattle.paper.specs.Numbers.{rec, Assignment}
use Rattle.paper.specs.Analysis.{Tasks, before, load}
use Rattle.paper.specs.Regions.{list_of}
use Rattle.paper.specs.declared.Record.{Record}

-- the larger and the smaller of two signed numbers
unfoldable pub larger : ℤ → ℤ → ℤ
larger a b = cond (le_z a b) b a

unfoldable pub smaller : ℤ → ℤ → ℤ
smaller a b = cond (le_z a b) a b

-- the largest of f 1, f 2, .., f (k + 1)
unfoldable pub largest : (ℕ → ℤ) → ℕ → ℤ
largest f zero = f 1
largest f (suc k) = larger (largest f k) (f (suc (suc k)))

-- t − C(i) − sum over p(j) < p(i) of ceil((t + J(j))/T(j))·C(j): a signed number
unfoldable pub slack : Tasks → Assignment → ℕ → ℕ → ℤ
slack y a i t = sub_ℕ t (y.c i + load y (λ j. ltb (a.p j) (a.p i)) (before y t))

-- Tolerance(i) is the largest of these for t from 1 to D(i) − J(i)
unfoldable pub tolerance : Tasks → Assignment → ℕ → ℤ
tolerance y a i = largest (slack y a i) (y.d i - y.j i - 1)

-- there is no such t: the task falls under refusal 16, and the number above means nothing
unfoldable pub no_instant : Tasks → ℕ → Bool
no_instant y i = leb (y.d i) (y.j i)

-- the number of the lowest record with no t, or 0
unfoldable pub lowest_no_instant : Tasks → ℕ
lowest_no_instant y = lowest y.n (no_instant y)

-- some tolerance is below zero, or there is no t to take it over: the number of the lowest such record, or 0
unfoldable pub lowest_below_zero : Tasks → Assignment → ℕ
lowest_below_zero y a = lowest y.n (λ k. no_instant y k || lt_z (tolerance y a k) (pos 0))

-- the smallest of x and of f j for each j of a set below n
unfoldable pub least_of : ℕ → (ℕ → Bool) → (ℕ → ℤ) → ℤ → ℤ
least_of zero set f x = x
least_of (suc n) set f x = cond (set n) (smaller (least_of n set f x) (f n)) (least_of n set f x)

-- what task j allows every task below it: its tolerance plus 1
unfoldable pub allowed : Tasks → Assignment → ℕ → ℤ
allowed y a j = tolerance y a j +ℤ pos 1

-- Length(k) is the smaller of C(k) and the least higher tolerance plus 1 (C(k) if none is above)
unfoldable pub length_of : Tasks → Assignment → ℕ → ℤ
length_of y a k = least_of y.n (λ j. ltb (a.p j) (a.p k)) (allowed y a) (pos (y.c k))

-- every region of every task is at most its task's length
unfoldable pub regions_fit : List ℕ → Record → ℤ → Bool
regions_fit list r q = every r.count (λ i. le_z (pos (get_or list (r.first + i) 0)) q)

unfoldable pub all_fit : List Record → Tasks → Assignment → List ℕ → List ℕ → Bool
all_fit rs y a own catalogue =
    every y.n (λ k. regions_fit (list_of (rec rs k).source own catalogue) (rec rs k) (length_of y a k))
