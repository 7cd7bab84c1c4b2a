-- The tests of the three columns are the row's.
use mathlib.Core.Path.{◌≡◌, ap₂, ◌∙◌}
use mathlib.Core.Bool.{◌&&◌}
use lib.ListN.{length}
use Rattle.std.proofs.Common.{rules}
use Rattle.paper.specs.Numbers.{most_tasks}
use Rattle.paper.specs.Rows.{row_size}
use Rattle.rows.proofs.Columns.{row_tests}
use Rattle.rows.proofs.front_holds.Goals as goal

pub returns : goal.returns
returns c =
    let size : length c.args.d.now ≡ row_size most_tasks = search rules in
    ap₂ ◌&&◌ c.each_once.ensures c.thresholds_hold.ensures ∙ row_tests _ _ c.requires.0 size c.requires.1 _ c.numbers_from-order.ensures
