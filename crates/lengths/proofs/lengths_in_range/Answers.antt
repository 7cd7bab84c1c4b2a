-- The table's columns; a record with no t or with a tolerance below zero is named, and where there is none the lengths are the answer.
use mathlib.Core.Path.{◌∙◌}
use lib.IntN.{pos}
use Rattle.std.proofs.lemmas.Result.{err_from_is_err_and}
use Rattle.paper.specs.Numbers.{per_task}
use Rattle.paper.specs.Lengths.{length_of}
use Rattle.columns.specs.Columns.{ranked_by}
use Rattle.columns.specs.Tasks.{tasks_in}
use Rattle.lengths.proofs.Outcomes.{one_falls, all_stand}
use Rattle.lengths.proofs.Tables.{lowest_by, lengths_by}
use Rattle.lengths.proofs.lengths_in_range.Goals as goal

pub returns-in_err-none_falls : goal.returns-in_err-none_falls
returns-in_err-none_falls c =
    let t = c.args.t.now in
    let y = tasks_in c.new-y.result in
    let r = ranked_by c.column_of-p.result in
    let p = err_from_is_err_and c.from_residual.result c.from_residual.ensures.1 in
    rw (p.1, p.2)
    (one_falls (per_task c.new-y.result.n (length_of y r) (pos 0)) (lowest_by y r c.all_tolerances-ticks.ensures) c.in_err-none_falls.ensures
    ∙ lengths_by t.records t.n c.column_of-p.ensures.rs_len c.new-y.ensures c.column_of-p.ensures.value)

pub returns : goal.returns
returns c =
    let t = c.args.t.now in
    let y = tasks_in c.new-y.result in
    let r = ranked_by c.column_of-p.result in
    all_stand _ (lowest_by y r c.all_tolerances-ticks.ensures) (c.in_ok-none_falls.ensures {u = tt}) c.all_lengths-lengths.ensures
    ∙ lengths_by t.records t.n c.column_of-p.ensures.rs_len c.new-y.ensures c.column_of-p.ensures.value
