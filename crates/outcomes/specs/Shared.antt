-- What several calls ask alike.
use Rattle.std.specs.Prelude.{[], ◌∷◌, ◌++◌}
use Rattle.paper.specs.Refusals.{Asks, times_asks, deadline_above_period}
use Rattle.paper.specs.declared.Table.{Table}

-- tolerances and lengths, before 16, which each of them asks of other records
abbrev pub deadlines_asks : Table → Asks
deadlines_asks t = times_asks t ++ (deadline_above_period t ∷ [])
