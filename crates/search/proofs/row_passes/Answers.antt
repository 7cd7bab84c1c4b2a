-- A row that is well formed passes where its columns do.
use mathlib.Core.Path.{◌≡◌, sym, ◌∙◌}
use lib.ListN.{length}
use Rattle.std.proofs.Common.{rules}
use Rattle.paper.specs.Numbers.{most_tasks}
use Rattle.paper.specs.Rows.{row_size}
use Rattle.rows.specs.Columns.{Unpacked}
use Rattle.rows.proofs.Columns.{same_assignment, row_placed}
use Rattle.search.proofs.Tested.{ill_formed, row_tested}
use Rattle.search.proofs.row_passes.Goals.{After-numbers_from-h}
use Rattle.search.proofs.row_passes.Goals as goal

unpacked : (c : After-numbers_from-h) → Unpacked c.args.y.now.n c.args.digits.now c.priorities_of-p.result c.numbers_from-h.result
unpacked c = record { priorities = c.priorities_of-p.ensures; thresholds = c.numbers_from-h.ensures }

size : (c : After-numbers_from-h) → length c.args.digits.now ≡ row_size most_tasks
size c = search rules

pub passes-requires : goal.passes-requires
passes-requires c =
    let h = (goal.at.passes-requires c).After-numbers_from-h in
    row_placed _ _ c.args.y.now.ranged.few (size h) (unpacked h) (sym c.front_holds.ensures ∙ c.if-front_holds.true)

pub returns-then-front_holds : goal.returns-then-front_holds
returns-then-front_holds c =
    let h = (goal.at.returns-then-front_holds c).After-numbers_from-h in
    row_tested _ _ (sym c.front_holds.ensures ∙ c.if-front_holds.true) (same_assignment _ _ c.args.y.now.ranged.few (size h) (unpacked h)) c.passes.ensures

pub returns-else-front_holds : goal.returns-else-front_holds
returns-else-front_holds c = ill_formed _ _ _ c.front_holds.ensures c.if-front_holds.false
