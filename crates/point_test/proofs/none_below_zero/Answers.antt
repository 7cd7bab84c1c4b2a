use mathlib.Core.Path.{sym, ap, ◌∙◌}
use mathlib.Core.Bool.{not}
use native.Mathlib.Omega.{arith}
use Rattle.paper.specs.Points.{has_time}
use Rattle.paper.proofs.Extremes.{lowest_none, lowest_found}
use Rattle.columns.specs.Columns.{ranked_by}
use Rattle.columns.specs.Tasks.{tasks_in}
use Rattle.lengths.proofs.Outcomes.{below_zero, none_below}
use Rattle.point_test.proofs.Falls.{lowest_is}
use Rattle.point_test.proofs.none_below_zero.Goals as goal

pub returns-then-not-has_time : goal.returns-then-not-has_time
returns-then-not-has_time c =
    let k = c.loop-k.k in
    let a = c.args in
    let y = tasks_in a.y.now in
    below_zero k
    (sym (lowest_found (λ k. not (has_time y (ranked_by a.p.now) k 0 0)) a.y.now.n k c.loop-k-test.true (ap not (sym c.has_time.ensures ∙ c.if-not-has_time.true)) c.loop-k.invariant)
    ∙ lowest_is y (ranked_by a.p.now))

pub returns : goal.returns
returns c =
    let a = c.args in
    let y = tasks_in a.y.now in
    none_below
    (sym (lowest_none (λ k. not (has_time y (ranked_by a.p.now) k 0 0)) a.y.now.n (λ j h. c.loop-k.invariant j (omega arith)))
    ∙ lowest_is y (ranked_by a.p.now))
