-- The invariant: v is not among the first i numbers, so its place is i more than its place in what is left.
use Prim.Native.Nat.{◌+◌}
use mathlib.Core.Path.{◌≡◌}
use lib.ListN.{take, drop}
use Rattle.paper.specs.Rows.{place_of}
use Rattle.rows.proofs.place_of.Given as goal

abbrev pub invariant-loop-i : goal.invariant-loop-i
invariant-loop-i l = l.i + place_of (drop l.i (take l.n l.d)) l.v ≡ place_of (take l.n l.d) l.v
