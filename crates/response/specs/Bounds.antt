-- A response time with its job, and one that only matters up to a bound.
use Rattle.std.specs.Prelude.{ℕ, cond, Option, Some, None}
use Rattle.paper.specs.Numbers.{Assignment}
use Rattle.paper.specs.Analysis.{Tasks, Standing, standing, worst, first_reaching, with_job, within}
use Rattle.paper.specs.declared.Response.{Response}

-- where no response time is at or below the horizon
abbrev pub too_late : Response
too_late = record { time = None; job = 0 }

-- a time at or below the bound, else none
unfoldable pub bounded : ℕ → Response → Option Response
bounded most r = cond (within r.time most) (Some r) None

-- the worst of the jobs below `count`, with the first that reaches it
abbrev pub worst_with : Tasks → Standing → ℕ → ℕ → Response
worst_with y s i count = record { time = worst y s i count; job = first_reaching y s i count (worst y s i count) }

abbrev pub response_of : Tasks → Assignment → ℕ → Response
response_of y a i = with_job y (standing y a i) i
