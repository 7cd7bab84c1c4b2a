-- The table's columns; a record with no t or with a tolerance below zero is named, and where there is none the verdicts are the answer.
use mathlib.Core.Path.{◌≡◌, ap, ◌∙◌}
use Rattle.std.proofs.lemmas.Result.{err_from_is_err_and}
use Rattle.paper.specs.Numbers.{assigned}
use Rattle.paper.specs.Analysis.{Tasks, tasks_of}
use Rattle.paper.specs.Points.{chunks_of}
use Rattle.lengths.proofs.Outcomes.{one_falls, all_stand}
use Rattle.points.specs.Stages.{verdicts_of}
use Rattle.points.proofs.Tables.{short_by, verdicts_by, low_by}
use Rattle.points.proofs.points_in_range.Goals as goal

pub returns-in_err-none_below_zero : goal.returns-in_err-none_below_zero
returns-in_err-none_below_zero c =
    let a = c.args in
    let t = a.t.now in
    let verdicts = verdicts_of (tasks_of t.records t.n) (assigned t.records) (chunks_of t.records a.own.now a.catalogue.now) in
    let p = err_from_is_err_and c.from_residual.result c.from_residual.ensures.1 in
    rw (p.1, p.2)
    (one_falls verdicts (low_by t c.column_of-p.ensures.rs_len c.new-y.ensures c.column_of-p.ensures.value) c.in_err-none_below_zero.ensures)

pub all_points-tasks-requires : goal.all_points-tasks-requires
all_points-tasks-requires c =
    let a = c.args in
    let n : c.new-y.result.n ≡ a.t.now.n = ap (λ (y : Tasks). y.n) c.new-y.ensures in
    rw n (short_by a.t.now a.own.now a.catalogue.now c.all_longest-regions.ensures c.requires.1)

pub returns : goal.returns
returns c =
    let a = c.args in
    let t = a.t.now in
    all_stand _ (low_by t c.column_of-p.ensures.rs_len c.new-y.ensures c.column_of-p.ensures.value) (c.in_ok-none_below_zero.ensures {u = tt})
    (c.all_points-tasks.ensures ∙ verdicts_by t c.column_of-p.ensures.rs_len c.new-y.ensures c.column_of-p.ensures.value a.own.now a.catalogue.now c.all_longest-regions.ensures)
