-- The one equation that the analysis solves: L, S and F are cases of it.
use Rattle.std.specs.Prelude.{ℕ, ◌+◌, ◌-◌, ◌*◌, ◌≤◌, ltb, eqb, Option}
use Rattle.paper.specs.Numbers.{horizon, Assignment}
use Rattle.paper.specs.Analysis.{Tasks, least, before, load}
use Rattle.climb.specs.declared.Equation.{Equation}

-- the time that the jobs which may have been asked for before x take, of the tasks whose priority is above the limit
unfoldable pub work : Tasks → Assignment → ℕ → ℕ → ℕ
work y a limit x = load y (λ j. ltb (a.p j) limit) (before y x)

-- x = base + work before x + edge − off
unfoldable pub side : Tasks → Assignment → Equation → ℕ → ℕ
side y a e x = e.base + work y a e.limit (x + e.edge) - e.off

unfoldable pub solution : Tasks → Assignment → Equation → ℕ → Option ℕ
solution y a e from = least (λ x. eqb x (side y a e x)) from (horizon + 1 - from)

-- from here the iteration rises, and nothing wraps on the way
pub record Rises (y : Tasks) (a : Assignment) (e : Equation) (from : ℕ) : Type 0 where
  pub base : e.base ≤ 2 * horizon * horizon
  pub edge : e.edge ≤ 1
  pub off : e.off ≤ e.base + work y a e.limit (from + e.edge)
  pub rise : from ≤ side y a e from
