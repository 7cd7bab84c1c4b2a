-- The words of a task whose regions are not turned away lie in their list.
use Rattle.std.proofs.Common.{◌≡◌, ◌+◌, ◌≤◌, true, List, ℕ, length}
use Rattle.paper.specs.Regions.{list_of, record_regions_hold}
use Rattle.paper.specs.declared.Record.{Record}
use Rattle.paper.proofs.Points.{regions_say}

pub in_list : (own catalogue : List ℕ) (r : Record) → record_regions_hold own catalogue r ≡ true → r.first + r.count ≤ length (list_of r.source own catalogue)
in_list own catalogue r e = (regions_say _ _ _ _ e).inside
