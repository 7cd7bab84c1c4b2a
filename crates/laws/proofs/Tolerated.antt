-- What a tolerance tolerates: where it is at least b, some t from 1 to D(i) − J(i) leaves room for the task, all that is above it, and b.
use Prim.Native.Nat.{ℕ, ◌+◌, ◌≤◌}
use mathlib.Core.Path.{◌≡◌, subst}
use mathlib.Core.Bool.{false}
use lib.Dec.{T, ltb, leb→le}
use lib.IntN.{pos}
use lib.Signed.{◌≤ℤ◌}
use Rattle.paper.specs.Numbers.{Assignment}
use Rattle.paper.specs.Analysis.{Tasks, before, load}
use Rattle.paper.specs.Lengths.{slack, tolerance, no_instant}
use Rattle.paper.proofs.Lengths.{Instant, tolerance_reached}
use Rattle.laws.proofs.Signed.{pos_sub}

pub tolerated_at : (y : Tasks) (a : Assignment) (i : ℕ) → no_instant y i ≡ false → (b : ℕ) → pos b ≤ℤ tolerance y a i
    → (t : ℕ) × Instant y i t × (b + (y.c i + load y (λ j. ltb (a.p j) (a.p i)) (before y t)) ≤ t)
unfolding slack
tolerated_at y a i w b h =
    let r = tolerance_reached y a i w in
    let m : ℕ = y.c i + load y (λ j. ltb (a.p j) (a.p i)) (before y r.0) in
    (r.0, r.1, leb→le (b + m) r.0 (subst T (pos_sub b r.0 m) (rw r.2 at h).le))
