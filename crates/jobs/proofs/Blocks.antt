-- Laws of blocking.
use Prim.Native.Nat.{ℕ, ◌<◌}
use mathlib.Core.Path.{◌≡◌, refl}
use mathlib.Core.Bool.{◌&&◌, cond}
use native.Mathlib.Omega.{arith}
use lib.Dec.{leb, ltb}
use Rattle.paper.specs.Numbers.{most_ticks, Assignment}
use Rattle.paper.specs.Analysis.{Tasks, blocks, blocking, standing}
use Rattle.laws.proofs.Sums.{max_bound, part_bound}
use Rattle.columns.specs.Columns.{Ranged, Placed}
use Rattle.jobs.specs.Stands.{stand_by, stand_of, Stands}
use Rattle.jobs.specs.declared.Stand.{Stand}

-- what task j adds to the blocking of a task of priority `own`
abbrev pub block_of : Tasks → Assignment → ℕ → ℕ → ℕ
block_of y a own j = cond (leb (a.h j) own && ltb own (a.p j)) (y.c j) 0

module _ (y : Tasks) (a : Assignment) where
  module _ (i : ℕ) where
    -- where task i stands, by the priorities alone: the others' thresholds play no part
    module _ (h : ℕ → ℕ) (s : Stand) (e : s ≡ stand_of y a i) where
      pub stand_is : standing y a i ≡ stand_by (record { p = a.p; h = h }) s
      unfolding standing
      stand_is = rw e

      pub stands : Ranged y → Placed y.n a → i < y.n → Stands y (record { p = a.p; h = h }) s
      unfolding blocking
      stands r q l =
          rw e
          (record {
            among = l;
            blocked = omega (arith, max_bound y.n most_ticks _ (λ j m. part_bound (blocks a i j) (r.costs j m).1));
            place = refl;
            small = (q.priorities i l).1;
          })
