-- The invariant: what is left has the same trimmed length as the whole.
use Rattle.std.proofs.Common.{◌≡◌, ◌-◌}
use Rattle.paper.specs.Regions.{name_width, trimmed}
use Rattle.parts.proofs.kept.Given as goal

abbrev pub invariant-loop-gone : goal.invariant-loop-gone
invariant-loop-gone l = trimmed l.s l.at (name_width - l.gone) ≡ trimmed l.s l.at name_width
