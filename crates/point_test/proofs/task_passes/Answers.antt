-- Alpha is 0, or the last region must start in time.
use native.Mathlib.Omega.{arith}
use Rattle.paper.specs.Points.{alpha}
use Rattle.columns.specs.Columns.{ranked_by}
use Rattle.columns.specs.Tasks.{tasks_in}
use Rattle.point_test.specs.Chunks.{chunks_by}
use Rattle.point_test.proofs.Passes.{alpha_short, passes_alone, passes_started}
use Rattle.point_test.proofs.task_passes.Goals as goal

pub returns-then-longest-eq0 : goal.returns-then-longest-eq0
unfolding alpha
returns-then-longest-eq0 c =
    let a = c.args in
    passes_alone (tasks_in a.y.now) (ranked_by a.p.now) (chunks_by a.regions.now (λ _. a.q)) a.i c.alpha-longest.ensures c.if-longest-eq0.true

pub has_time-requires : goal.has_time-requires
unfolding alpha
has_time-requires c =
    let a = c.args in
    (c.requires.0, omega (arith, c.if-longest-eq0.false), omega (arith, c.alpha-longest.ensures, alpha_short (tasks_in a.y.now) (ranked_by a.p.now) a.regions.now (λ _. a.q) a.i c.requires.1))

pub returns : goal.returns
unfolding alpha
returns c =
    let a = c.args in
    passes_started (tasks_in a.y.now) (ranked_by a.p.now) (chunks_by a.regions.now (λ _. a.q)) a.i c.alpha-longest.ensures c.if-longest-eq0.false c.has_time.ensures
