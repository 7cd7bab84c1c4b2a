-- A task passes by its alpha and its own last region.
use Prim.Native.Nat.{ℕ, ◌≤◌}
use mathlib.Core.Path.{◌≡◌, sym, ◌∙◌}
use mathlib.Core.Bool.{Bool, true}
use mathlib.Core.List.{List}
use borrow.Author.Tests.{eq-eqb, ne_eqb}
use lib.Dec.{ltb}
use Rattle.paper.specs.Numbers.{most_ticks, Assignment}
use Rattle.paper.specs.Analysis.{Tasks}
use Rattle.paper.specs.Points.{Chunks, alpha, has_time, points_pass}
use Rattle.laws.proofs.Sums.{max_bound, part_bound}
use Rattle.point_test.specs.Chunks.{Short, chunks_by}

-- alpha of a column of the longest regions is no longer than a region may be
pub alpha_short : (y : Tasks) (a : Assignment) (xs : List ℕ) (last : ℕ → ℕ) (i : ℕ) → Short y.n xs → alpha y a (chunks_by xs last) i ≤ most_ticks
unfolding alpha
alpha_short y a xs last i h = max_bound y.n most_ticks _ (λ k l. part_bound (ltb (a.p i) (a.p k)) (h k l))

-- a task passes by alpha alone, or by its t
module _ (y : Tasks) (a : Assignment) (g : Chunks) (i : ℕ) {x : ℕ} (e : x ≡ alpha y a g i) where
  pub passes_alone : x ≡ 0 → true ≡ points_pass y a g i
  unfolding points_pass
  passes_alone z = rw (eq-eqb (alpha y a g i) 0 (sym e ∙ z))

  pub passes_started : (x ≡ 0 → ⊥) → {b : Bool} → b ≡ has_time y a i (g.last i) x → b ≡ points_pass y a g i
  unfolding points_pass
  passes_started z h = rw (ne_eqb (alpha y a g i) 0 (λ q. z (e ∙ q)), ← e) h

-- only the task's own last region counts
pub passes_last : (y : Tasks) (a : Assignment) (xs : List ℕ) (last : ℕ → ℕ) (i : ℕ) {q : ℕ} → q ≡ last i
    → points_pass y a (chunks_by xs (λ _. q)) i ≡ points_pass y a (chunks_by xs last) i
unfolding points_pass alpha
passes_last y a xs last i e = rw e
