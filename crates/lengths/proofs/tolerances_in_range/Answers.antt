-- The table's columns; a record with no t is named, and where there is none the tolerances are the answer.
use mathlib.Core.Path.{◌∙◌}
use Rattle.std.proofs.lemmas.Result.{err_from_is_err_and}
use Rattle.columns.specs.Columns.{ranked_by}
use Rattle.columns.specs.Tasks.{tasks_in}
use Rattle.lengths.specs.Stages.{tolerances_of}
use Rattle.lengths.proofs.Outcomes.{one_falls, all_stand}
use Rattle.lengths.proofs.Tables.{lowest_none_by, tolerances_by}
use Rattle.lengths.proofs.tolerances_in_range.Goals as goal

pub returns-in_err-none_falls : goal.returns-in_err-none_falls
returns-in_err-none_falls c =
    let t = c.args.t.now in
    let y = tasks_in c.new-y.result in
    let p = err_from_is_err_and c.from_residual.result c.from_residual.ensures.1 in
    rw (p.1, p.2)
    (one_falls (tolerances_of y (ranked_by c.column_of-p.result)) (lowest_none_by y) c.in_err-none_falls.ensures
    ∙ tolerances_by t.records t.n c.column_of-p.ensures.rs_len c.new-y.ensures c.column_of-p.ensures.value)

pub returns : goal.returns
returns c =
    let t = c.args.t.now in
    let y = tasks_in c.new-y.result in
    all_stand _ (lowest_none_by y) (c.in_ok-none_falls.ensures {u = tt}) c.all_tolerances-ticks.ensures
    ∙ tolerances_by t.records t.n c.column_of-p.ensures.rs_len c.new-y.ensures c.column_of-p.ensures.value
