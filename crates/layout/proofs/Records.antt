-- Where there is room for n records, each of them lies inside: in both editions (e is the edition).
use Prim.Native.Nat.{ℕ, ◌+◌, ◌*◌, ◌^◌, ◌≤◌, ◌<◌}
use mathlib.Core.Bool.{Bool, true, false, cond}
use native.Mathlib.Omega.{arith}
use lib.Dec.{eqb}
use Rattle.paper.specs.File.{record_at}
use Rattle.layout.specs.Places.{Holds, Lies}

pub record_lies : (size e n k : ℕ) → Holds size e n → k < n → Lies size e (record_at e k)
record_lies size e n k h l = let g = go (eqb e 2) h.long in record { near = g.0; used = g.1; all = g.2 }
  where
    few : n ≤ 15
    few = h.tasks

    go : (b : Bool) → 64 + 8 * (cond b 15 12 * n) ≤ size * 8
        → (64 + 8 * (cond b 15 12 * k) < 2 ^ 16)
        × (64 + 8 * (cond b 15 12 * k) + 90 ≤ size * 8)
        × (64 + 8 * (cond b 15 12 * k) + 90 + cond b 30 6 ≤ size * 8)
    go true long = (omega arith, omega arith, omega arith)
    go false long = (omega arith, omega arith, omega arith)
