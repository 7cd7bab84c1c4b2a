-- L counts the blocking: where the tasks of its level leave no tick free, a task that is blocked has no response time.
use Rattle.std.proofs.Common.{None}
use Prim.Native.Nat.{ℕ, ◌≤◌}
use mathlib.Core.Path.{◌≡◌}
use native.Mathlib.Omega.{arith}
use borrow.Author.Tests.{ne_eqb}
use Rattle.paper.specs.Numbers.{horizon}
use Rattle.paper.specs.Analysis.{Tasks, Standing, before, load, level_sum, level_of, worst_from, response}
use Rattle.laws.proofs.Least.{fixed, least_beyond}

pub full_beyond : (y : Tasks) (s : Standing) (i : ℕ) → 1 ≤ s.b → ((x : ℕ) → x ≤ load y s.level (before y x)) → response y s i ≡ None
unfolding response worst_from level_of level_sum
full_beyond y s i blocked full =
    rw (least_beyond (fixed (level_sum y s)) 1 horizon (λ x _ _. ne_eqb x (level_sum y s x) (λ e. omega (arith, full x))))
