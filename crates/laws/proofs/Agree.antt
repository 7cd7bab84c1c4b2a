-- The pass test, and the check of an assignment, look at the tasks below n alone: equal numbers there give equal answers.
use Rattle.std.specs.Prelude.{None, Option, Some}
use Prim.Native.Nat.{ℕ, zero, suc, ◌+◌, ◌-◌, ◌*◌, ◌<◌}
use mathlib.Core.Path.{◌≡◌, refl, ap, ap₂, ◌∙◌}
use mathlib.Core.Bool.{Bool, not, cond, ◌&&◌}
use native.Mathlib.Omega.{arith}
use lib.Dec.{leb, ltb, eqb}
use Rattle.paper.specs.Numbers.{horizon, each_once, Assignment, thresholds_hold}
use Rattle.paper.specs.Analysis.{Tasks, Standing, before, load, blocks, blocking, standing, level_sum, level_of, start_sum, start_of, finish_sum, finish_of, finish_from, job, later, worst, worst_from, response, with_job, within, task_passes, passes}
use Rattle.laws.proofs.Every.{every_same, sum_same}
use Rattle.laws.proofs.Sums.{max_same}
use Rattle.laws.proofs.Least.{least_same}

pub record SameAssignment (n : ℕ) (a b : Assignment) : Type 0 where
  pub p : (j : ℕ) → j < n → a.p j ≡ b.p j
  pub h : (j : ℕ) → j < n → a.h j ≡ b.h j

record SameStanding (n : ℕ) (s u : Standing) : Type 0 where
  pub b : s.b ≡ u.b
  pub level : (j : ℕ) → j < n → s.level j ≡ u.level j
  pub above : (j : ℕ) → j < n → s.above j ≡ u.above j
  pub cuts : (j : ℕ) → j < n → s.cuts j ≡ u.cuts j

module _ (y : Tasks) where
  load_agree : (set other : ℕ → Bool) (f : ℕ → ℕ) → ((j : ℕ) → j < y.n → set j ≡ other j) → load y set f ≡ load y other f
  unfolding load
  load_agree set other f h = sum_same y.n _ _ (λ j l. ap (λ u. cond u (f j * y.c j) 0) (h j l))

  module _ (s u : Standing) (v : SameStanding y.n s u) where
    level_agree : level_of y s ≡ level_of y u
    unfolding level_of level_sum
    level_agree = least_same _ _ 1 horizon (λ x _. ap (eqb x) (ap₂ ◌+◌ v.b (load_agree _ _ _ v.level)))

    module _ (i : ℕ) where
      start_agree : (k : ℕ) → start_of y s i k ≡ start_of y u i k
      unfolding start_of start_sum
      start_agree k =
          least_same _ _ 0 (horizon + 1) (λ x _.
          ap (eqb x) (ap₂ ◌+◌ (ap (λ b. b + k * y.c i) v.b) (load_agree _ _ _ v.above)))

      finish_agree : (start : ℕ) → finish_of y s i start ≡ finish_of y u i start
      unfolding finish_of finish_sum
      finish_agree start =
          least_same _ _ (start + 1) (horizon - start) (λ x _.
          ap (λ w. eqb x (start + y.c i + w)) (load_agree _ _ _ v.cuts))

      finishes_agree : (start : Option ℕ) → finish_from y s i start ≡ finish_from y u i start
      unfolding finish_from
      finishes_agree (Some start) = finish_agree start
      finishes_agree None = refl

      job_agree : (k : ℕ) → job y s i k ≡ job y u i k
      unfolding job
      job_agree k = finishes_agree (start_of y s i k) ∙ ap (finish_from y u i) (start_agree k)

      worst_agree : (k : ℕ) → worst y s i k ≡ worst y u i k
      unfolding worst
      worst_agree zero = refl
      worst_agree (suc k) = ap₂ (λ r f. later r f (y.j i) (k * y.t i)) (worst_agree k) (job_agree k)

      worsts_agree : (level : Option ℕ) → worst_from y s i level ≡ worst_from y u i level
      unfolding worst_from
      worsts_agree (Some level) = worst_agree (before y level i)
      worsts_agree None = refl

      response_agree : response y s i ≡ response y u i
      unfolding response
      response_agree = worsts_agree (level_of y s) ∙ ap (worst_from y u i) level_agree

  module _ (a b : Assignment) (v : SameAssignment y.n a b) where
    blocking_agree : (i : ℕ) → i < y.n → blocking y a i ≡ blocking y b i
    unfolding blocking blocks
    blocking_agree i l =
        max_same y.n _ _ (λ j m.
        ap (λ u. cond u (y.c j) 0) (ap₂ ◌&&◌ (ap₂ leb (v.h j m) (v.p i l)) (ap₂ ltb (v.p i l) (v.p j m))))

    standing_agree : (i : ℕ) → i < y.n → SameStanding y.n (standing y a i) (standing y b i)
    unfolding standing
    standing_agree i l =
        record {
          b = ap (λ (b : ℕ). b - 1) (blocking_agree i l);
          level = λ j m. ap₂ leb (v.p j m) (v.p i l);
          above = λ j m. ap₂ ltb (v.p j m) (v.p i l);
          cuts = λ j m. ap₂ ltb (v.p j m) (v.h i l);
        }

    pub passes_agree : passes y a ≡ passes y b
    unfolding passes task_passes with_job
    passes_agree =
        every_same y.n _ _ (λ i l. ap (λ r. within r (y.d i)) (response_agree (standing y a i) (standing y b i) (standing_agree i l) i))

-- and so does the check of an assignment
pub each_once_same : (n : ℕ) (f g : ℕ → ℕ) → ((k : ℕ) → k < n → f k ≡ g k) → each_once n f ≡ each_once n g
unfolding each_once
each_once_same n f g h =
    ap₂ ◌&&◌
    (every_same n _ _ (λ k l. ap (λ (x : ℕ). leb 1 x && leb x n) (h k l)))
    (every_same n _ _ (λ k l. every_same k _ _ (λ j m. ap₂ (λ (x y : ℕ). not (eqb x y)) (h j (omega arith)) (h k l))))

pub thresholds_same : (n : ℕ) (a b : Assignment) → ((k : ℕ) → k < n → a.p k ≡ b.p k) → ((k : ℕ) → k < n → a.h k ≡ b.h k)
    → thresholds_hold n a ≡ thresholds_hold n b
unfolding thresholds_hold
thresholds_same n a b p h = every_same n _ _ (λ k l. ap₂ (λ (x y : ℕ). leb 1 x && leb x y) (h k l) (p k l))
